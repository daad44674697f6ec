-- A copy of what a view shows is a record.
use Rattle.std.proofs.Common.{◌≡◌, inl, inr, ℕ, zero, suc, ◌≤◌, List, [], ◌∷◌, length, map, Some, refl, sym, subst, arith}
use Rattle.std.specs.Prelude.{slice_get}
use Rattle.std.specs.List.{All}
use Rattle.std.proofs.lemmas.Bool.{cases_Bool}
use Rattle.std.proofs.lemmas.Option.{same_Some}
use Rattle.fgb_schema.specs.Tables.{has_rings}
use Rattle.fgb_schema.specs.Shapes.{Shape, shape, shapes_of, Ordinates, pairs_of, rings_from, type_in, points_in, rings_in, ordinates_in, parts_in}
use Rattle.geometry_view.specs.declared.geometry.GeometryView.{GeometryView}
use Rattle.geometry_view.specs.Views.{geometry_shown}
use Rattle.owned_shape.specs.ListsShown.{AreFitting}
use Rattle.owned_shape.specs.Records.{AreChained, IsNumber, IsPoint, IsRecord, IsSound}
use Rattle.owned_shape.proofs.Chains.{rings_from-ends, within_last}
use Rattle.owned_shape.proofs.Parts.{made_of, sound_of}
use Rattle.owned_shape.proofs.Points.{points_of-numbers}
use Rattle.owned_shape.proofs.ReadShapes.{view_parts_read, view_read, view_shallow}

end_before : (first last : ℕ) (rings : List (ℕ × ℕ)) (i : ℕ) (ring : ℕ × ℕ) → AreChained first last rings → slice_get rings i ≡ Some ring → ring.1 ≤ last
end_before first last [] i ring chained at = absurd (cc at)
end_before first last (r ∷ rest) zero ring chained at =
    subst (λ (r : ℕ × ℕ). r.1 ≤ last) (same_Some r ring at) (within_last r.1 last rest chained.2)
end_before first last (r ∷ rest) (suc i) ring chained at = end_before r.1 last rest i ring chained.2 at

module _ (g : GeometryView) where
  abbrev shown : Shape
  shown = geometry_shown g

  pub view_end : (i : ℕ) (ring : ℕ × ℕ) → slice_get (rings_in shown) i ≡ Some ring → ring.1 ≤ 268435456
  view_end i ring at = elim (cases_Bool (has_rings (type_in shown))) [
    | inl has ↦ let few = (view_read g).few_points in omega (arith, few, end_before 0 (length (points_in shown)) (rings_in shown) i ring ((view_read g).chained has) at)
    | inr lacks ↦ let none : slice_get [] i ≡ Some ring = subst (λ rs. slice_get rs i ≡ Some ring) ((view_read g).no_rings lacks) at in absurd (cc none)
  ]

  pub view_rings_by_ends : rings_from 0 (map (λ ring. ring.1) (rings_in shown)) ≡ rings_in shown
  view_rings_by_ends = elim (cases_Bool (has_rings (type_in shown))) [
    | inl has ↦ rings_from-ends 0 (length (points_in shown)) (rings_in shown) ((view_read g).chained has)
    | inr lacks ↦ rw ((view_read g).no_rings lacks) refl
  ]

  view_record : All IsPoint (points_in shown) → AreFitting (ordinates_in shown) → All IsSound (parts_in shown) → IsRecord shown
  view_record points fits parts =
      let read = view_read g in
      let below = view_parts_read g in
      record {
        sound = sound_of shown (record {
          known = read.known;
          points = points;
          single = read.single;
          chained = read.chained;
          z = (read.z, fits.z);
          m = (read.m, fits.m);
          t' = (read.t', fits.t');
          tm = (read.tm, fits.tm);
          polygons = below.polygons;
          no_points = read.no_points;
          no_rings = read.no_rings;
          no_parts = below.no_parts;
          few_points = read.few_points;
          few_rings = read.few_rings;
          few_parts = below.few_parts;
        }) parts;
        shallow = view_shallow g;
      }

  module _ (kind : ℕ) (xy ends : List ℕ) (lists : Ordinates) (parts : List Shape) (e1 : kind ≡ type_in shown) (e2 : pairs_of xy ≡ points_in shown)
      (e3 : rings_from 0 ends ≡ rings_in shown) (e4 : lists ≡ ordinates_in shown) (e5 : parts ≡ parts_in shown) where
    pub copied : shape kind (pairs_of xy) (rings_from 0 ends) lists (shapes_of parts) ≡ shown
    copied = made_of shown kind (pairs_of xy) (rings_from 0 ends) lists parts e1 e2 e3 e4 e5

    pub copied_record : All IsNumber xy → AreFitting lists → All IsSound parts → IsRecord (shape kind (pairs_of xy) (rings_from 0 ends) lists (shapes_of parts))
    copied_record numbers fits sound = subst IsRecord (sym copied)
        (view_record (subst (All IsPoint) e2 (points_of-numbers xy numbers)) (subst AreFitting e4 fits) (subst (All IsSound) e5 sound))
