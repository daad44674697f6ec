use Rattle.std.proofs.Common.{Ok, Err}
use Rattle.flat_layout.proofs.Judging.{exit, names-weaker}
use Rattle.flat_views.specs.Tables.{base_of, bytes_of, place_of}
use Rattle.fgb_schema.specs.Tables.{crs}
use Rattle.fgb_schema.proofs.FieldParts.{from_to_table}
use Rattle.fgb_header.proofs.HeaderLinks.{crs_absent, crs_present}
use Rattle.fgb_header.proofs.groups.Own.crs_in.Goals as goal

pub returns-in_err-crs : goal.returns-in_err-crs
returns-in_err-crs c = exit _ _ _ _ c.from_residual.ensures.1 (names-weaker _ _ _ _ (from_to_table (bytes_of c.args.table) (place_of c.args.table) 10 crs) c.in_err-crs.ensures)

pub returns-in_err-read-in-Some : goal.returns-in_err-read-in-Some
returns-in_err-read-in-Some c =
    let there = rw c.in-Some.is at c.in_ok-crs.ensures.0 in
    exit _ _ _ _ c.from_residual-in_err-read-in-Some.ensures.1 (crs_present (bytes_of c.args.table) (place_of c.args.table) (base_of c.args.table) c.in-Some.crs (Err c.in_err-read-in-Some.field-0.0) c.in_ok-crs.ensures.1 there.0 there.1 c.in_err-read-in-Some.ensures)

pub returns-in_ok-read-in-Some : goal.returns-in_ok-read-in-Some
returns-in_ok-read-in-Some c =
    let there = rw c.in-Some.is at c.in_ok-crs.ensures.0 in
    crs_present (bytes_of c.args.table) (place_of c.args.table) (base_of c.args.table) c.in-Some.crs (Ok c.in_ok-read-in-Some.field-0) c.in_ok-crs.ensures.1 there.0 there.1 c.in_ok-read-in-Some.ensures

pub returns-in-None : goal.returns-in-None
returns-in-None c = crs_absent (bytes_of c.args.table) (place_of c.args.table) c.in_ok-crs.ensures.1 (rw c.in-None.is at c.in_ok-crs.ensures.0)
