use Rattle.std.proofs.Common.{◌≡◌, ℕ, false, nat_le, refl, ap, sym, ◌∙◌, ◌<◌, arith}
use Rattle.std.proofs.lemmas.Bool.Decides.{nat_tests}
use Rattle.flat_views.specs.Tables.{bytes_of, place_of}
use Rattle.fgb_header.proofs.HeaderGroups.{kind_above}
use Rattle.fgb_header.proofs.groups.known_type.Goals as goal

above : (n : ℕ) → 7 < n → nat_le n 7 ≡ false
above n h = grind (arith, nat_tests)

pub returns-then-geometry_type-gt-LAST_TYPE : goal.returns-then-geometry_type-gt-LAST_TYPE
returns-then-geometry_type-gt-LAST_TYPE c =
    let kind = c.in_ok-geometry_type.ensures in
    rw c.refused.ensures (place_of c.args.table, refl, kind_above (bytes_of c.args.table) (place_of c.args.table) c.args.table.sound kind.1 (ap (λ n. nat_le n 7) (sym kind.0) ∙ above c.in_ok-geometry_type.geometry_type c.if-geometry_type-gt-LAST_TYPE.true))
