use Rattle.wkb_grammar.proofs.Written.{extended_values_are_read, written_values_are_read}
use Rattle.wkb_grammar.proofs.written_values_are_read.Goals as goal

pub returns : goal.returns
returns c = record { wkb = written_values_are_read; ewkb = extended_values_are_read }
