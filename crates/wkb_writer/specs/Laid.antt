-- What the lists of a shape are to one another, where it was read or is owned.
use Rattle.std.proofs.Common.{◌≡◌, inl, inr, ℕ, true, false, List, [], ◌∷◌, length, sym, subst, arith}
use Rattle.std.specs.List.{All}
use Rattle.std.proofs.lemmas.Bool.{cases_Bool}
use Rattle.std.proofs.lemmas.List.Elements.{All-cons, All-nil}
use Rattle.fgb_schema.specs.Tables.{has_rings}
use Rattle.fgb_schema.specs.Shapes.{Shape, type_in, points_in, rings_in}
use Rattle.geometry_view.specs.declared.geometry.GeometryView.{GeometryView}
use Rattle.geometry_view.specs.Views.{geometry_shown}
use Rattle.owned_shape.specs.Records.{AreChained, IsRecord}
use Rattle.owned_shape.proofs.Chains.{within_last}
use Rattle.owned_shape.proofs.Parts.{level_of}
use Rattle.owned_shape.proofs.ReadShapes.{view_parts_read, view_read}
use Rattle.wkb_writer.specs.Levels.{IsLaid, IsRing}

-- rings that follow one another up to the last point lie among the points
are_rings : (first last : ℕ) (rings : List (ℕ × ℕ)) → AreChained first last rings → All (IsRing last) rings
are_rings first last [] chained = All-nil (IsRing last)
are_rings first last (ring ∷ rest) chained =
    All-cons (IsRing last) ring rest (omega (arith, chained.0, chained.1), within_last ring.1 last rest chained.2) (are_rings ring.1 last rest chained.2)

-- the rings of a shape whose type has them, or none
rings_laid : (s : Shape) → (has_rings (type_in s) ≡ true → AreChained 0 (length (points_in s)) (rings_in s)) → (has_rings (type_in s) ≡ false → rings_in s ≡ [])
    → All (IsRing (length (points_in s))) (rings_in s)
rings_laid s chained none = elim (cases_Bool (has_rings (type_in s))) [
  | inl has ↦ are_rings 0 (length (points_in s)) (rings_in s) (chained has)
  | inr lacks ↦ subst (All (IsRing (length (points_in s)))) (sym (none lacks)) (All-nil (IsRing (length (points_in s))))
]

-- the lists of a geometry that was read
pub view_laid : (g : GeometryView) → IsLaid (geometry_shown g)
view_laid g =
    let read = view_read g in
    let below = view_parts_read g in
    record {
      rings = rings_laid (geometry_shown g) read.chained read.no_rings;
      z = read.z;
      m = read.m;
      few_points = read.few_points;
      few_rings = read.few_rings;
      few_parts = below.few_parts;
    }

-- the lists of an owned shape
pub record_laid : (s : Shape) → IsRecord s → IsLaid s
record_laid s is =
    let level = level_of s is.sound in
    record {
      rings = rings_laid s level.chained level.no_rings;
      z = level.z.0;
      m = level.m.0;
      few_points = level.few_points;
      few_rings = level.few_rings;
      few_parts = level.few_parts;
    }
