-- What the lists of a geometry's table are in the shape that it shows.
use Rattle.std.proofs.Common.{◌≡◌, inl, inr, ℕ, zero, suc, ◌+◌, ◌-◌, ◌/◌, ◌<◌, ◌≤◌, ◌==◌, true, false, Bool, List, [], ◌∷◌, length, map, Option, Some, None, if◌then◌else◌, refl, ap, sym, ◌∙◌, arith}
use Rattle.std.proofs.lemmas.Bool.{cases_Bool, cases_eq}
use Rattle.std.specs.List.{range_with_len}
use Rattle.flat_layout.specs.Layout.{is_absent, is_vector, led_to, count, entry_place, target, longs}
use Rattle.flat_layout.specs.Promises.{IsClean}
use Rattle.flat_layout.proofs.Numbers.{length-longs}
use Rattle.flat_views.specs.declared.vectors.VecView.{VecView}
use Rattle.flat_views.specs.declared.vectors.TableVec.{TableVec}
use Rattle.flat_views.specs.Vectors.{longs_shown}
use Rattle.flat_views.specs.TableVecs.{ShowsTables, tables_bytes, tables_place}
use Rattle.flat_views.proofs.Placed.{sound_list}
use Rattle.flat_views.proofs.Shown.{longs_led, words_led}
use Rattle.fgb_schema.specs.Tables.{geometry, tables as tables_thing, has_points, has_rings, has_parts, part_type}
use Rattle.fgb_schema.specs.Paths.{thing, Breaks, count_in, point_count}
use Rattle.fgb_schema.specs.Shapes.{Shape, Shapes, none, shapes_of, Ordinates, no_ordinates, pairs_of, longs_in, parts_by, shape_at, shape_with, type_in, points_in, rings_in, ordinates_in, parts_in}
use Rattle.fgb_schema.proofs.CleanEntries.{entry_table, entry_target}
use Rattle.geometry_view.specs.declared.kind.Ordinate.{Ordinate}
use Rattle.geometry_view.specs.declared.kind.Ordinate.TheVariants.{Z, M, T, Tm}
use Rattle.geometry_view.specs.Fits.{ShowsRead, ShowsReadTables}
use Rattle.geometry_view.specs.Kinds.{field_of}
use Rattle.geometry_view.specs.Views.{listed, parts_shown, rings_shown}
use Rattle.geometry_view.proofs.Fitting.{rings_points}
use Rattle.geometry_view.proofs.OwnNumbers.{length-pairs}
use Rattle.geometry_view.proofs.OwnType.{clean_shallow, kind_given}

pairs_if : (has : Bool) (xs : List ℕ) → pairs_of (if has then xs else []) ≡ (if has then pairs_of xs else [])
pairs_if true xs = refl
pairs_if false xs = refl

-- the parts of a shape that was made of a list of them
parts_in_of : (k : ℕ) (b : List ℕ) (t : ℕ) (parts : List Shape) → parts_in (shape_with k b t (shapes_of parts)) ≡ parts
parts_in_of k b t [] = refl
parts_in_of k b t (first ∷ rest) = ap (λ xs. first ∷ xs) (parts_in_of k b t rest)

module _ (b : List ℕ) where
  -- a list of geometries that would stand too deep, and breaks no rule, is empty
  none_deep : (outer depth v : ℕ) → 16 < depth → is_vector 4 b v ≡ true → IsClean (Breaks b (thing (tables_thing (geometry outer depth)) v)) → count b v ≡ 0
  none_deep outer depth v over sound clean = elim (cases_eq (count b v) 0) [
    | inl empty ↦ empty
    | inr some ↦
        let early : 0 < count b v = omega (arith, some) in
        let whole = entry_table b (geometry outer depth) v sound clean 0 early in
        let shallow = clean_shallow outer depth b (target b (entry_place b v 0)) whole (entry_target b (geometry outer depth) v sound clean 0 early) in
        absurd (omega (arith, over, shallow))
  ]

  longs_if : (has : Bool) (base t f : ℕ) (o : Option VecView) → ShowsRead has 8 b base t f o → longs_shown o ≡ (if has then longs_in b t f else [])
  longs_if true base t f o shows = longs_led 8 b base t f o shows
  longs_if false base t f o shows = ap longs_shown shows

  -- half as many points as numbers
  points_counted : (t : ℕ) → length (pairs_of (longs_in b t 1)) ≡ point_count b t
  points_counted t = elim (cases_Bool (is_absent b t 1)) [
    | inl absent ↦ rw absent refl
    | inr present ↦ rw present (length-pairs (longs b (led_to b t 1)) ∙ ap (λ n. n / 2) (length-longs b (led_to b t 1)))
  ]

  -- the ordinates of a geometry
  abbrev given_ordinates : ℕ → Ordinates
  given_ordinates t = record { z = longs_in b t 2; m = longs_in b t 3; t = longs_in b t 4; tm = longs_in b t 5 }

  listed_if : (t : ℕ) (which : Ordinate) (has : Bool) → (if has then longs_in b t (field_of which) else []) ≡ listed which (if has then given_ordinates t else no_ordinates)
  listed_if t Z true = refl
  listed_if t M true = refl
  listed_if t T true = refl
  listed_if t Tm true = refl
  listed_if t Z false = refl
  listed_if t M false = refl
  listed_if t T false = refl
  listed_if t Tm false = refl

  -- the shapes in the list at v, and in the one that the table at t leads to
  abbrev shapes_at : ℕ → ℕ → List ℕ → ℕ → List Shape
  shapes_at levels outer s v = map (λ i. shape_at levels outer s (target s (entry_place s v i))) (range_with_len 0 (count s v))

  abbrev shapes_in : ℕ → ℕ → ℕ → List Shape
  shapes_in levels outer t = map (λ i. shape_at levels outer b (target b (entry_place b (led_to b t 7) i))) (range_with_len 0 (count_in b t 7))

  same_shapes : (levels outer : ℕ) (s : List ℕ) (p v : ℕ) → s ≡ b → p ≡ v → shapes_at levels outer s p ≡ shapes_at levels outer b v
  same_shapes levels outer s p v bytes place = rw (bytes, place) refl

  parts_led : (levels outer base t : ℕ) (o : Option TableVec) → ShowsTables b base t 7 o → parts_shown levels outer o ≡ shapes_in levels outer t
  parts_led levels outer base t None absent = rw absent refl
  parts_led levels outer base t (Some tables) there =
      rw there.0 (same_shapes levels outer (tables_bytes tables) (tables_place tables) (led_to b t 7) there.1.same_bytes there.1.same_place)

-- no shapes are in a list that is empty
parts_none : (levels outer : ℕ) (o : Option TableVec) → ((tables : TableVec) → o ≡ Some tables → count (tables_bytes tables) (tables_place tables) ≡ 0) → parts_shown levels outer o ≡ []
parts_none levels outer None empty = refl
parts_none levels outer (Some tables) empty = rw (empty tables refl) refl

-- a geometry for which this type holds, but for its parts
module _ (k : ℕ) (b : List ℕ) (base t : ℕ) (some : (k == 0) ≡ false) where
  with_parts : (levels : ℕ) → (parts : Shapes) × (shape_at levels k b t ≡ shape_with k b t parts)
  unfolding shape_at
  with_parts zero = let given = kind_given k b t some in (none, rw given refl)
  with_parts (suc levels) = let given = kind_given k b t some in ((if has_parts k then parts_by (shape_at levels (part_type k) b) b t else none), rw given refl)

  pub type_read : (levels : ℕ) → type_in (shape_at levels k b t) ≡ k
  type_read levels = ap type_in (with_parts levels).1

  own_points : (levels : ℕ) → points_in (shape_at levels k b t) ≡ (if has_points k then pairs_of (longs_in b t 1) else [])
  own_points levels = ap points_in (with_parts levels).1

  pub points_read : (levels : ℕ) (o : Option VecView) → ShowsRead (has_points k) 8 b base t 1 o → pairs_of (longs_shown o) ≡ points_in (shape_at levels k b t)
  points_read levels o shows = ap pairs_of (longs_if b (has_points k) base t 1 o shows) ∙ pairs_if (has_points k) (longs_in b t 1) ∙ sym (own_points levels)

  pub rings_read : (levels : ℕ) (o : Option VecView) → ShowsRead (has_rings k) 4 b base t 0 o → rings_in (shape_at levels k b t) ≡ rings_shown k o (length (points_in (shape_at levels k b t)))
  rings_read levels o shows = ap rings_in (with_parts levels).1 ∙ (elim (cases_Bool (has_rings k)) [
    | inl rings ↦
        let points = rings_points k rings in
        let ends = rw rings at shows in
        rw (rings, own_points levels, points, words_led 4 b base t 0 o ends, points_counted b t) refl
    | inr lacks ↦ rw lacks refl
  ])

  pub rings_lacking : (levels : ℕ) → has_rings k ≡ false → rings_in (shape_at levels k b t) ≡ []
  rings_lacking levels lacks = ap rings_in (with_parts levels).1 ∙ rw lacks refl

  pub ordinates_read : (levels : ℕ) (which : Ordinate) (o : Option VecView) → ShowsRead (has_points k) 8 b base t (field_of which) o → listed which (ordinates_in (shape_at levels k b t)) ≡ longs_shown o
  ordinates_read levels which o shows =
      ap (λ s. listed which (ordinates_in s)) (with_parts levels).1 ∙ sym (longs_if b (has_points k) base t (field_of which) o shows ∙ listed_if b t which (has_points k))

  -- and its parts
  module _ (o : Option TableVec) (shows : ShowsReadTables (has_parts k) b base t 7 o) where
    parts_below : (levels : ℕ) → parts_in (shape_with k b t (if has_parts k then parts_by (shape_at levels (part_type k) b) b t else none)) ≡ parts_shown levels (part_type k) o
    parts_below levels = elim (cases_Bool (has_parts k)) [
      | inl has ↦ let list = rw has at shows in rw has (parts_in_of k b t (shapes_in b levels (part_type k) t) ∙ sym (parts_led b levels (part_type k) base t o list))
      | inr lacks ↦ let list = rw lacks at shows in rw lacks (sym (ap (parts_shown levels (part_type k)) list))
    ]

    module _ (depth : ℕ) (shallow : depth ≤ 16)
        (clean : (tables : TableVec) → o ≡ Some tables → IsClean (Breaks (tables_bytes tables) (thing (tables_thing (geometry (part_type k) (depth + 1))) (tables_place tables)))) where
      parts_at_levels : (levels : ℕ) → 16 - depth ≡ levels → parts_in (shape_at levels k b t) ≡ parts_shown (15 - depth) (part_type k) o
      unfolding shape_at
      parts_at_levels zero is =
          sym (parts_none (15 - depth) (part_type k) o (λ tables there. none_deep (tables_bytes tables) (part_type k) (depth + 1) (tables_place tables) (omega (arith, is)) (sound_list tables) (clean tables there)))
      parts_at_levels (suc levels) is =
          let given = kind_given k b t some in
          let same : 15 - depth ≡ levels = omega (arith, is) in
          rw (given, same) (parts_below levels)

      pub parts_read : parts_in (shape_at (16 - depth) k b t) ≡ parts_shown (15 - depth) (part_type k) o
      parts_read = parts_at_levels (16 - depth) refl
