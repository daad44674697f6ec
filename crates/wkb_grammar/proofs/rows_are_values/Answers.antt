use Rattle.wkb_grammar.proofs.RowsSpelled.{little_row, big_row, mixed_row, z_row, empty_row, srid_row, flag_row}
use Rattle.wkb_grammar.proofs.rows_are_values.Goals as goal

pub returns : goal.returns
returns c = record { little = little_row; big = big_row; mixed = mixed_row; with_z = z_row; empty = empty_row; with_srid = srid_row; with_flag = flag_row }
