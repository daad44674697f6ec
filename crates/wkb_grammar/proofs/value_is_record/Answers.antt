use Rattle.wkb_writer.specs.declared.dialect.Dialect.TheVariants.{Extended}
use Rattle.wkb_grammar.proofs.Recorded.{shape_is_record, value_is_record, wkb_is_record}
use Rattle.wkb_grammar.proofs.value_is_record.Goals as goal

pub returns : goal.returns
returns c = record { value = value_is_record; shape = wkb_is_record; extended = shape_is_record Extended }
