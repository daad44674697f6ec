use Rattle.std.proofs.Common.{inr, refl}
use Rattle.flat_views.specs.Tables.{bytes_of, place_of}
use Rattle.fgb_header.proofs.RecordFields.{name_there, name_clean, name_missing}
use Rattle.fgb_header.proofs.column.required_name.Goals as goal

pub returns-in-Some : goal.returns-in-Some
returns-in-Some c =
    let b = bytes_of c.args.table in let t = place_of c.args.table in
    let there = rw c.in-Some.is at c.in_ok-name.ensures in
    (name_there b t _ there.0, name_clean b t _ there)

pub returns-in-None : goal.returns-in-None
returns-in-None c =
    let b = bytes_of c.args.table in let t = place_of c.args.table in
    let missing = rw c.in-None.is at c.in_ok-name.ensures in
    rw c.refused.ensures (t, refl, inr (name_missing b t c.args.table.sound missing.0))
