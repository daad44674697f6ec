use Rattle.std.proofs.Common.{inr, refl}
use Rattle.flat_views.specs.Tables.{bytes_of, place_of}
use Rattle.fgb_header.proofs.RecordFields.{kind_unknown}
use Rattle.fgb_header.proofs.column.known_kind.Goals as goal

pub returns-then-kind-gt-LAST_TYPE : goal.returns-then-kind-gt-LAST_TYPE
returns-then-kind-gt-LAST_TYPE c =
    let b = bytes_of c.args.table in let t = place_of c.args.table in
    rw c.refused.ensures (t, refl, inr (kind_unknown b t c.args.table.sound _ c.in_ok-kind.ensures.0 c.in_ok-kind.ensures.1 c.if-kind-gt-LAST_TYPE.true))
