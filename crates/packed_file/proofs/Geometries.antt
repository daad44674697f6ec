-- The points of a geometry that breaks no rule: their patterns are those of numbers.
use Rattle.std.proofs.Common.{◌≡◌, ◌∙◌, inl, inr, ℕ, zero, suc, ◌+◌, ◌*◌, ◌<◌, Bool, true, false, List, [], ◌∷◌, ◌++◌, map, if◌then◌else◌, refl, ap, sym, arith}
use Rattle.std.specs.Prelude.{slice_index}
use Rattle.std.specs.List.{AllByRecursion, range_with_len}
use Rattle.std.proofs.lemmas.Bool.{cases_Bool}
use Rattle.flat_layout.specs.declared.Rule.{Rule}
use Rattle.flat_layout.specs.declared.Rule.TheVariants.{NotFinite}
use Rattle.flat_layout.specs.Layout.{is_table, is_absent, is_vector, count, entry_place, led_to, longs, number_at, target}
use Rattle.flat_layout.specs.Promises.{IsClean, BreaksVector, BreaksTo}
use Rattle.flat_layout.proofs.Judging.{vector-clean}
use Rattle.flat_layout.proofs.Numbers.{get_or-longs}
use Rattle.order_keys.specs.Keys.{is_finite}
use Rattle.fgb_schema.specs.Tables.{Name, Content, geometry, tables, pairs, link, fields, own_type, ring_fields, point_fields, part_fields, kind_of, has_points, has_parts, part_type}
use Rattle.fgb_schema.specs.Paths.{IsAmong, BreaksLayout, BreaksMore, BreaksPairs, infinite, Breaks, thing, field, geometry_part}
use Rattle.fgb_schema.specs.Shapes.{Shape, none, pairs_of, longs_in, parts_by, points, points_of_all, shape_at, shapes_of}
use Rattle.fgb_schema.proofs.Along.{breaks_more}
use Rattle.fgb_schema.proofs.Links.{IsLink, from_link, from_linked, linked, linked_own}
use Rattle.fgb_schema.proofs.CleanEntries.{entry_table, entry_target}
use Rattle.fgb_schema.proofs.TablesParts.{among_front}
use Rattle.packed_file.proofs.Alls.{all_made, all_append}
use Rattle.packed_file.proofs.Numbers.{AreBytes, number_small}
use Rattle.packed_file.proofs.CleanParts.{field_clean, list_sound, list_clean}
use Rattle.packed_file.proofs.Points.{IsNumber, IsPoint}

among_back : {A : Type 0} (x : A) (xs ys : List A) → IsAmong x ys → IsAmong x (xs ++ ys)
among_back x [] ys among = among
among_back x (z ∷ zs) ys among = inr (among_back x zs ys among)

among_if : {A : Type 0} (has : Bool) (x : A) (xs : List A) → has ≡ true → IsAmong x xs → IsAmong x (if has then xs else [])
among_if has x xs is among = rw is among

abbrev ArePoints : List (ℕ × ℕ) → Type 0
ArePoints ps = AllByRecursion IsPoint ps

pairs_points : (xs : List ℕ) → AllByRecursion IsNumber xs → ArePoints (pairs_of xs)
pairs_points [] all = tt
pairs_points (x ∷ []) all = tt
pairs_points (x ∷ y ∷ rest) all = (record { x = all.0; y = all.1.0 }, pairs_points rest all.1.1)

shapes_points : (shapes : List Shape) → AllByRecursion (λ s. ArePoints (points s)) shapes → ArePoints (points_of_all (shapes_of shapes))
shapes_points [] all = tt
shapes_points (s ∷ rest) all = all_append IsPoint (points s) (points_of_all (shapes_of rest)) all.0 (shapes_points rest all.1)

module _ (b : List ℕ) (bytes : AreBytes b) where
  module _ (outer depth t : ℕ) (sound : is_table b t ≡ true) (clean : IsClean (Breaks b (geometry_part outer depth t))) where
    abbrev kind : ℕ
    kind = kind_of outer b t

    -- its own points
    module _ (has : has_points kind ≡ true) where
      abbrev xy : ℕ × Content
      xy = (1, link (pairs kind))

      xy_among : IsAmong xy (fields (geometry outer depth) b t)
      unfolding fields
      xy_among =
          among_front xy (own_type outer ++ ring_fields kind ++ point_fields kind) (part_fields depth kind)
          (among_back xy (own_type outer ++ ring_fields kind) (point_fields kind) (among_if (has_points kind) xy _ has (inl refl)))

      xy_clean : IsClean (Breaks b (field (link (pairs kind)) t 1))
      xy_clean = field_clean b (geometry outer depth) t sound clean xy xy_among

      own_vector : (p q : ℕ) (r : Rule) → BreaksVector 8 b p q r → BreaksLayout b (thing (pairs kind) p) q r
      unfolding BreaksLayout
      own_vector p q r broken = broken

      to_vector : IsClean (BreaksTo (BreaksVector 8) b t 1)
      to_vector q r broken = xy_clean q r (from_link b (pairs kind) (BreaksVector 8) t 1 own_vector q r broken)

      module _ (present : is_absent b t 1 ≡ false) where
        abbrev place : ℕ
        place = led_to b t 1

        xy_link : IsLink b t 1
        xy_link = linked b (pairs kind) (BreaksVector 8) t 1 to_vector present

        xy_sound : is_vector 8 b place ≡ true
        xy_sound = vector-clean 8 b place (linked_own b (pairs kind) (BreaksVector 8) t 1 to_vector xy_link)

        pairs_clean : IsClean (BreaksPairs kind b place)
        unfolding BreaksMore
        pairs_clean q r broken = xy_clean q r (from_linked b (pairs kind) (BreaksVector 8) t 1 xy_link q r (breaks_more b (thing (pairs kind) place) q r (xy_sound, broken)))

        number_finite : (i : ℕ) → i < count b place → is_finite (slice_index (longs b place) i) ≡ true
        number_finite i early = elim (cases_Bool (is_finite (slice_index (longs b place) i))) [
          | inl is ↦ is
          | inr not ↦ absurd (pairs_clean (place + 4 + 8 * i) NotFinite (infinite i early (record { infinite = not; place = refl; rule = refl })))
        ]

        numbers_there : AllByRecursion IsNumber (longs b place)
        unfolding longs
        numbers_there = all_made IsNumber (λ i. number_at 8 b (place + 4 + 8 * i)) 0 (count b place) (λ i first last. record {
          stored = number_small b bytes 8 (place + 4 + 8 * i);
          finite = ap is_finite (sym (get_or-longs b place i 0 (omega (arith, last)))) ∙ number_finite i (omega (arith, last));
        })

      numbers_clean : AllByRecursion IsNumber (longs_in b t 1)
      numbers_clean = elim (cases_Bool (is_absent b t 1)) [
        | inl absent ↦ rw absent tt
        | inr present ↦ rw present (numbers_there present)
      ]

    own_points : ArePoints (if has_points kind then pairs_of (longs_in b t 1) else [])
    own_points = elim (cases_Bool (has_points kind)) [
      | inl has ↦ rw has (pairs_points (longs_in b t 1) (numbers_clean has))
      | inr lacks ↦ rw lacks tt
    ]

    -- those of its parts, if each has such points
    abbrev part_name : Name
    part_name = geometry (part_type kind) (depth + 1)

    module _ (has : has_parts kind ≡ true) where
      abbrev list : ℕ × Content
      list = (7, link (tables part_name))

      list_among : IsAmong list (fields (geometry outer depth) b t)
      unfolding fields
      list_among = among_back list (own_type outer ++ ring_fields kind ++ point_fields kind) (part_fields depth kind) (among_if (has_parts kind) list _ has (inl refl))

      parts_clean : IsClean (Breaks b (field (link (tables part_name)) t 7))
      parts_clean = field_clean b (geometry outer depth) t sound clean list list_among

    module _ (show : ℕ → Shape) (each : (p : ℕ) → is_table b p ≡ true → IsClean (Breaks b (geometry_part (part_type kind) (depth + 1) p)) → ArePoints (points (show p))) where
      entries_points : (v : ℕ) → is_vector 4 b v ≡ true → IsClean (Breaks b (thing (tables part_name) v))
          → ArePoints (points_of_all (shapes_of (map (λ i. show (target b (entry_place b v i))) (range_with_len 0 (count b v)))))
      entries_points v room whole = shapes_points _ (all_made (λ s. ArePoints (points s)) (λ i. show (target b (entry_place b v i))) 0 (count b v) (λ i first last.
          each (target b (entry_place b v i)) (entry_table b part_name v room whole i (omega (arith, last))) (entry_target b part_name v room whole i (omega (arith, last)))))

      parts_points : ArePoints (points_of_all (if has_parts kind then parts_by show b t else none))
      parts_points = elim (cases_Bool (has_parts kind)) [
        | inl has ↦ rw has (elim (cases_Bool (is_absent b t 7)) [
          | inl absent ↦ rw absent tt
          | inr present ↦ rw present (entries_points (led_to b t 7) (list_sound b t 7 part_name (parts_clean has) present) (list_clean b t 7 part_name (parts_clean has) present))
        ])
        | inr lacks ↦ rw lacks tt
      ]

  pub geometry_points : (levels outer depth t : ℕ) → is_table b t ≡ true → IsClean (Breaks b (geometry_part outer depth t)) → AllByRecursion IsPoint (points (shape_at levels outer b t))
  unfolding shape_at
  geometry_points zero outer depth t sound clean =
      all_append IsPoint (if has_points (kind_of outer b t) then pairs_of (longs_in b t 1) else []) [] (own_points outer depth t sound clean) tt
  geometry_points (suc levels) outer depth t sound clean =
      all_append IsPoint (if has_points (kind_of outer b t) then pairs_of (longs_in b t 1) else [])
      (points_of_all (if has_parts (kind_of outer b t) then parts_by (shape_at levels (part_type (kind_of outer b t)) b) b t else none))
      (own_points outer depth t sound clean)
      (parts_points outer depth t sound clean (shape_at levels (part_type (kind_of outer b t)) b) (λ p there whole. geometry_points levels (part_type (kind_of outer b t)) (depth + 1) p there whole))
