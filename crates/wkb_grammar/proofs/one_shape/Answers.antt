use Rattle.wkb_writer.specs.declared.dialect.Dialect.TheVariants.{Iso, Extended}
use Rattle.wkb_grammar.proofs.OneShape.{one_shape}
use Rattle.wkb_grammar.proofs.one_shape.Goals as goal

pub returns : goal.returns
returns c = record { wkb = one_shape Iso; ewkb = one_shape Extended }
