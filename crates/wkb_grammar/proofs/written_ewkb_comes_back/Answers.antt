use Rattle.wkb_writer.specs.declared.dialect.Dialect.TheVariants.{Extended}
use Rattle.wkb_grammar.proofs.OneShape.{one_shape}
use Rattle.wkb_grammar.proofs.Written.{extended_values_are_read}
use Rattle.wkb_grammar.proofs.written_ewkb_comes_back.Goals as goal

pub returns : goal.returns
returns c g h srid bytes recorded low written small read = one_shape Extended h g bytes read (extended_values_are_read g srid bytes recorded low written small)
