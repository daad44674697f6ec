use Rattle.std.proofs.Common.{inl, arith}
use Rattle.flat_layout.proofs.Judging.{exit, names-weaker}
use Rattle.flat_views.specs.Tables.{base_of, bytes_of, place_of}
use Rattle.fgb_schema.specs.Tables.{column}
use Rattle.fgb_schema.proofs.FieldParts.{from_to_tables}
use Rattle.fgb_header.proofs.HeaderLinks.{columns_go}
use Rattle.fgb_header.proofs.columns.Columns.in_field.Goals as goal

pub returns-in_err-list-clause-goes : goal.returns-in_err-list-clause-goes
returns-in_err-list-clause-goes c = exit _ _ _ _ c.from_residual.ensures.1 (inl (names-weaker _ _ _ _ (from_to_tables (bytes_of c.args.table) (place_of c.args.table) c.args.field column) c.in_err-list.ensures), omega arith)

pub returns-clause-goes : goal.returns-clause-goes
returns-clause-goes c = columns_go (bytes_of c.args.table) (place_of c.args.table) c.args.field (base_of c.args.table) _ _ _ c.in_ok-list.list _ c.in_ok-list.ensures.1 c.in_ok-list.ensures.0 c.read.ensures.none c.read.ensures.some
