-- The table of a geometry whose type is given from outside, by what it breaks and weighs in front of its parts.
use Rattle.std.proofs.Common.{◌≡◌, inl, inr, ⊎_elim, ℕ, zero, suc, ◌+◌, ◌*◌, ◌≤◌, ◌==◌, Bool, true, false, List, [], ◌∷◌, ◌++◌, map, if◌then◌else◌, refl, ap, sym, subst, ◌∙◌, arith}
use Rattle.std.specs.List.{AllByRecursion}
use Rattle.std.proofs.lemmas.Bool.{cases_Bool, true≢false}
use Rattle.std.proofs.lemmas.Bool.Decides.{nat_tests}
use Rattle.flat_layout.specs.declared.Rule.{Rule}
use Rattle.flat_layout.specs.Layout.{is_table, is_absent, is_vector, led_to, count}
use Rattle.flat_layout.specs.Promises.{IsClean, BreaksVector, BreaksTo}
use Rattle.fgb_schema.specs.Tables.{Name, Content, geometry, tables, numbers, pairs as pairs_thing, link, fields, ring_fields, point_fields, part_fields, is_typed, type_of, kind_of, is_kind, has_points, has_rings, has_parts, part_type}
use Rattle.fgb_schema.specs.Paths.{thing, IsAmong, below, count_in, BreaksLayout, BreaksMore, BreaksByTable, BreaksPairs, BreaksGeometry, deep, unknown, ends as geometry_ends, ordinates as geometry_ordinates, Breaks, geometry_part}
use Rattle.fgb_schema.specs.Weights.{own_weight, total, weight_within, Weighs}
use Rattle.fgb_schema.proofs.Along.{breaks_more, clean_by_parts}
use Rattle.fgb_schema.proofs.Links.{IsLink, from_link, from_linked, linked_own, link_clean}
use Rattle.fgb_schema.proofs.FieldParts.{from_numbers, from_to_tables, from_linked_tables, vector_clean}
use Rattle.fgb_schema.proofs.TableParts.{field_part, from_field, from_table, table_clean}
use Rattle.fgb_schema.proofs.FieldWeights.{weigh_vector}
use Rattle.fgb_schema.proofs.TablesParts.{among_front, entry_parts}
use Rattle.fgb_schema.proofs.Weighing.{WeighTogether, AreLeast, IsLeast, together_none, together_more, together_each, least_none, least_more, least_of, weigh_table, least_table, weigh_tables, least_tables, weigh_absent, weigh_link, least_link}
use Rattle.geometry_view.specs.Lists.{BreaksVectors, BreaksFit, pairs, ends, ordinates, BreaksOwn, weight_of}
use Rattle.geometry_view.proofs.VectorFields.{count_there, count_absent, among_back, among_if, each_vector, VectorClean, point_vectors, ring_clean, point_clean, part_clean, vector_link, vector_sound, listed, listed_link, listed_sound}

all_append : {A : Type 0} (P : A → Type 0) (xs ys : List A) → AllByRecursion P xs → AllByRecursion P ys → AllByRecursion P (xs ++ ys)
all_append P [] ys front back = back
all_append P (x ∷ xs) ys front back = (front.0, all_append P xs ys front.1 back)

all_if : {A : Type 0} (P : A → Type 0) (s : Bool) (xs : List A) → (s ≡ true → AllByRecursion P xs) → AllByRecursion P (if s then xs else [])
all_if P true xs all = all refl
all_if P false xs all = tt

-- the bytes of each element of a vector of numbers
abbrev width_of : Content → ℕ
width_of (link (numbers width)) = width
width_of (link (pairs_thing kind)) = 8
width_of content = 0

module _ (k d : ℕ) (b : List ℕ) (t : ℕ) (sound : is_table b t ≡ true) (known : is_kind k ≡ true) where
  -- the name of its parts
  abbrev pub parts_name : Name
  parts_name = geometry (part_type k) (d + 1)

  given : (k == 0) ≡ false
  given = grind (arith, nat_tests)

  kind_given : kind_of k b t ≡ k
  unfolding is_typed type_of
  kind_given = rw given refl

  type_given : type_of k b t ≡ k
  unfolding type_of
  type_given = rw given refl

  fields_given : fields (geometry k d) b t ≡ ring_fields k ++ point_fields k ++ part_fields d k
  unfolding fields
  fields_given = rw (kind_given, given) refl

  from_own : (f : ℕ × Content) → IsAmong f (ring_fields k ++ point_fields k ++ part_fields d k) → (q : ℕ) (r : Rule) → Breaks b (field_part t f) q r → Breaks b (geometry_part k d t) q r
  from_own f among q r broken = from_field b (geometry k d) t sound f (subst (IsAmong f) (sym fields_given) among) q r broken

  -- the fields that lead to a vector
  abbrev xy_field : ℕ × Content
  xy_field = (1, link (pairs_thing k))

  abbrev list_field : ℕ × Content
  list_field = (7, link (tables parts_name))

  own_pairs : (p q : ℕ) (r : Rule) → BreaksVector 8 b p q r → BreaksLayout b (thing (pairs_thing k) p) q r
  unfolding BreaksLayout
  own_pairs p q r broken = broken

  ring_among : has_rings k ≡ true → IsAmong (0, link (numbers 4)) (ring_fields k ++ point_fields k ++ part_fields d k)
  ring_among rings = among_front (0, link (numbers 4)) (ring_fields k ++ point_fields k) (part_fields d k)
      (among_front (0, link (numbers 4)) (ring_fields k) (point_fields k) (among_if (has_rings k) (0, link (numbers 4)) ((0, link (numbers 4)) ∷ []) rings (inl refl)))

  abbrev points_there : List (ℕ × Content)
  points_there = xy_field ∷ (2, link (numbers 8)) ∷ (3, link (numbers 8)) ∷ (4, link (numbers 8)) ∷ (5, link (numbers 8)) ∷ []

  point_among : has_points k ≡ true → (f : ℕ × Content) → IsAmong f points_there → IsAmong f (ring_fields k ++ point_fields k ++ part_fields d k)
  point_among points f among = among_front f (ring_fields k ++ point_fields k) (part_fields d k)
      (among_back f (ring_fields k) (point_fields k) (among_if (has_points k) f points_there points among))

  part_among : has_parts k ≡ true → IsAmong list_field (ring_fields k ++ point_fields k ++ part_fields d k)
  part_among parts = among_back list_field (ring_fields k ++ point_fields k) (part_fields d k) (among_if (has_parts k) list_field (list_field ∷ []) parts (inl refl))

  from_ring_field : has_rings k ≡ true → (q : ℕ) (r : Rule) → BreaksTo (BreaksVector 4) b t 0 q r → Breaks b (geometry_part k d t) q r
  from_ring_field rings q r broken = from_own (0, link (numbers 4)) (ring_among rings) q r (from_numbers b t 0 4 q r broken)

  from_xy_field : has_points k ≡ true → (q : ℕ) (r : Rule) → BreaksTo (BreaksVector 8) b t 1 q r → Breaks b (geometry_part k d t) q r
  from_xy_field points q r broken = from_own xy_field (point_among points xy_field (inl refl)) q r (from_link b (pairs_thing k) (BreaksVector 8) t 1 own_pairs q r broken)

  from_ordinates : has_points k ≡ true → (f : ℕ) → IsAmong (f, link (numbers 8)) points_there → (q : ℕ) (r : Rule) → BreaksTo (BreaksVector 8) b t f q r → Breaks b (geometry_part k d t) q r
  from_ordinates points f among q r broken = from_own (f, link (numbers 8)) (point_among points (f, link (numbers 8)) among) q r (from_numbers b t f 8 q r broken)

  from_part_field : has_parts k ≡ true → (q : ℕ) (r : Rule) → BreaksTo (BreaksVector 4) b t 7 q r → Breaks b (geometry_part k d t) q r
  from_part_field parts q r broken = from_own list_field (part_among parts) q r (from_to_tables b t 7 parts_name q r broken)

  vectors_breaks : (q : ℕ) (r : Rule) → BreaksVectors k b t q r → Breaks b (geometry_part k d t) q r
  vectors_breaks q r broken = each_vector k (λ x. (q : ℕ) (r : Rule) → BreaksTo (BreaksVector x.1) b t x.0 q r → Breaks b (geometry_part k d t) q r)
      from_ring_field
      (λ points. (
        from_xy_field points,
        (from_ordinates points 2 (inr (inl refl)), (from_ordinates points 3 (inr (inr (inl refl))), (from_ordinates points 4 (inr (inr (inr (inl refl)))), (from_ordinates points 5 (inr (inr (inr (inr (inl refl))))), tt)))),
      ))
      from_part_field broken.vector broken.among q r broken.broken

  pairs_more : IsLink b t 1 → is_vector 8 b (led_to b t 1) ≡ true → (q : ℕ) (r : Rule) → BreaksPairs k b (led_to b t 1) q r → Breaks b (field_part t xy_field) q r
  unfolding BreaksMore
  pairs_more l whole q r broken = from_linked b (pairs_thing k) (BreaksVector 8) t 1 l q r (breaks_more b (thing (pairs_thing k) (led_to b t 1)) q r (whole, broken))

  from_geometry : (q : ℕ) (r : Rule) → BreaksGeometry k d b t q r → Breaks b (geometry_part k d t) q r
  unfolding BreaksByTable
  from_geometry q r broken = from_table b (geometry k d) t sound q r broken

  fit_breaks : (q : ℕ) (r : Rule) → BreaksFit k b t q r → Breaks b (geometry_part k d t) q r
  fit_breaks q r (pairs points present whole broken) =
      from_own xy_field (point_among points xy_field (inl refl)) q r (pairs_more (listed_link 8 b t 1 whole present) (listed_sound 8 b t 1 whole present) q r broken)
  fit_breaks q r (ends rings present broken) = from_geometry q r (geometry_ends sound (ap has_rings kind_given ∙ rings) present broken)
  fit_breaks q r (ordinates f points low high broken) = from_geometry q r (geometry_ordinates f sound (ap has_points kind_given ∙ points) low high broken)

  -- what it breaks by itself is broken from it on, and so is what its parts break
  pub own_breaks : (q : ℕ) (r : Rule) → BreaksOwn k b t q r → Breaks b (geometry_part k d t) q r
  own_breaks q r (inl broken) = vectors_breaks q r broken
  own_breaks q r (inr broken) = fit_breaks q r broken

  pub parts_breaks : has_parts k ≡ true → IsLink b t 7 → (q : ℕ) (r : Rule) → Breaks b (thing (tables parts_name) (led_to b t 7)) q r → Breaks b (geometry_part k d t) q r
  parts_breaks parts l q r broken = from_own list_field (part_among parts) q r (from_linked_tables b t 7 parts_name l q r broken)

  -- the list of parts is sound
  pub parts_link : IsClean (BreaksVectors k b t) → has_parts k ≡ true → is_absent b t 7 ≡ false → IsLink b t 7
  parts_link clean parts present = vector_link 4 b t 7 (part_clean k b t clean parts) present

  pub parts_sound : IsClean (BreaksVectors k b t) → has_parts k ≡ true → is_absent b t 7 ≡ false → is_vector 4 b (led_to b t 7) ≡ true
  parts_sound clean parts present = vector_sound 4 b t 7 (part_clean k b t clean parts) present

  -- it is clean by itself and by its parts
  module _ (clean : IsClean (BreaksOwn k b t)) (shallow : d ≤ 16) where
    by_vectors : IsClean (BreaksVectors k b t)
    by_vectors q r broken = clean q r (inl broken)

    by_fit : IsClean (BreaksFit k b t)
    by_fit q r broken = clean q r (inr broken)

    by_geometry : (q : ℕ) (r : Rule) → BreaksGeometry k d b t q r → ⊥
    by_geometry q r (deep _ too) = omega (arith, too, shallow)
    by_geometry q r (unknown _ _ other) = true≢false (sym known ∙ sym (ap is_kind type_given) ∙ other)
    by_geometry q r (geometry_ends _ rings present broken) = by_fit q r (ends (sym (ap has_rings kind_given) ∙ rings) present broken)
    by_geometry q r (geometry_ordinates f _ points low high broken) = by_fit q r (ordinates f (sym (ap has_points kind_given) ∙ points) low high broken)

    by_table : IsClean (BreaksByTable (geometry k d) b t)
    unfolding BreaksByTable
    by_table q r broken = by_geometry q r broken

    more_pairs : (v : ℕ) → IsClean (BreaksPairs k b v) → IsClean (BreaksMore b (thing (pairs_thing k) v))
    unfolding BreaksMore
    more_pairs v none q r broken = none q r broken.1

    layout_pairs : (v : ℕ) → IsClean (BreaksVector 8 b v) → IsClean (BreaksLayout b (thing (pairs_thing k) v))
    unfolding BreaksLayout
    layout_pairs v none = none

    pairs_clean : (v : ℕ) → IsClean (BreaksVector 8 b v) → IsClean (BreaksPairs k b v) → IsClean (Breaks b (thing (pairs_thing k) v))
    unfolding below
    pairs_clean v own none = clean_by_parts b (thing (pairs_thing k) v) (layout_pairs v own) (more_pairs v none) tt

    xy_clean : has_points k ≡ true → IsClean (Breaks b (field_part t xy_field))
    xy_clean points =
        let vector = point_clean k b t by_vectors points (1, 8) (inl refl) in
        link_clean b (pairs_thing k) (BreaksVector 8) t 1 vector (λ l. pairs_clean (led_to b t 1) (linked_own b (pairs_thing k) (BreaksVector 8) t 1 vector l)
        (λ q r broken. by_fit q r (pairs points l.present (listed 8 b t 1 vector) broken)))

    ordinates_clean : has_points k ≡ true → (f : ℕ) → IsAmong (f, 8) point_vectors → IsClean (Breaks b (field_part t (f, link (numbers 8))))
    ordinates_clean points f among = vector_clean b t f 8 (point_clean k b t by_vectors points (f, 8) among)

    pub own_clean : (has_parts k ≡ true → is_absent b t 7 ≡ false → IsClean (Breaks b (thing (tables parts_name) (led_to b t 7)))) → IsClean (Breaks b (geometry_part k d t))
    own_clean behind =
        let P : ℕ × Content → Type 0 = λ f. IsClean (Breaks b (field_part t f)) in
        table_clean b (geometry k d) t sound by_table (subst (AllByRecursion P) (sym fields_given) (
        all_append P (ring_fields k ++ point_fields k) (part_fields d k)
        (all_append P (ring_fields k) (point_fields k)
        (all_if P (has_rings k) ((0, link (numbers 4)) ∷ []) (λ rings. (vector_clean b t 0 4 (ring_clean k b t by_vectors rings), tt)))
        (all_if P (has_points k) points_there (λ points. (
          xy_clean points,
          (ordinates_clean points 2 (inr (inl refl)), (ordinates_clean points 3 (inr (inr (inl refl))), (ordinates_clean points 4 (inr (inr (inr (inl refl)))), (ordinates_clean points 5 (inr (inr (inr (inr (inl refl))))), tt)))),
        ))))
        (all_if P (has_parts k) (list_field ∷ []) (λ parts. (
          link_clean b (tables parts_name) (BreaksVector 4) t 7 (part_clean k b t by_vectors parts) (λ l. behind parts l.present),
          tt,
        )))))

  -- what it weighs: first each field that leads to a vector of numbers
  numbers_weigh : (f w : ℕ) → VectorClean b t (f, w) → Weighs b (field_part t (f, link (numbers w))) (w * count_in b t f)
  numbers_weigh f w clean = elim (cases_Bool (is_absent b t f)) [
    | inl absent ↦
        let none : 0 ≡ w * count_in b t f = let z : w * 0 ≡ 0 = omega arith in sym (ap (λ n. w * n) (count_absent b t f absent) ∙ z) in
        subst (Weighs b (field_part t (f, link (numbers w)))) none (weigh_absent b (numbers w) t f absent)
    | inr present ↦ subst (λ n. Weighs b (field_part t (f, link (numbers w))) (w * n)) (sym (count_there b t f present)) (weigh_vector b w t f clean present)
  ]

  pairs_within : (v steps : ℕ) → is_vector 8 b v ≡ true → weight_within b (suc steps) (thing (pairs_thing k) v) ≡ 8 * count b v + 0
  unfolding weight_within own_weight below
  pairs_within v steps whole = rw whole refl

  pairs_weigh : (v : ℕ) → is_vector 8 b v ≡ true → Weighs b (thing (pairs_thing k) v) (8 * count b v)
  pairs_weigh v whole = (1, after)
    where
      after : (steps : ℕ) → 1 ≤ steps → weight_within b steps (thing (pairs_thing k) v) ≡ 8 * count b v
      after zero enough = absurd (omega (arith, enough))
      after (suc steps) enough = omega (arith, pairs_within v steps whole)

  xy_weigh : VectorClean b t (1, 8) → Weighs b (field_part t xy_field) (8 * count_in b t 1)
  xy_weigh clean = elim (cases_Bool (is_absent b t 1)) [
    | inl absent ↦ let none : 0 ≡ 8 * count_in b t 1 = omega (arith, count_absent b t 1 absent) in subst (Weighs b (field_part t xy_field)) none (weigh_absent b (pairs_thing k) t 1 absent)
    | inr present ↦ subst (λ n. Weighs b (field_part t xy_field) (8 * n)) (sym (count_there b t 1 present))
        (weigh_link b (pairs_thing k) t 1 (8 * count b (led_to b t 1)) (vector_link 8 b t 1 clean present) (pairs_weigh (led_to b t 1) (vector_sound 8 b t 1 clean present)))
  ]

  -- some of these fields weigh the sum
  abbrev field_weight : ℕ × Content → ℕ
  field_weight f = width_of f.1 * count_in b t f.0

  weighs_by : (fs : List (ℕ × Content)) (w : ℕ) → fields (geometry k d) b t ≡ fs → WeighTogether b (map (field_part t) fs) w → Weighs b (geometry_part k d t) (4 + w)
  weighs_by fs w same weigh = weigh_table b (geometry k d) t w sound (subst (λ fs. WeighTogether b (map (field_part t) fs) w) (sym same) weigh)

  least_by : (fs : List (ℕ × Content)) (w : ℕ) → fields (geometry k d) b t ≡ fs → AreLeast b (map (field_part t) fs) w → IsLeast b (geometry_part k d t) (4 + w)
  least_by fs w same least = least_table b (geometry k d) t w sound (subst (λ fs. AreLeast b (map (field_part t) fs) w) (sym same) least)

  module _ (clean : IsClean (BreaksVectors k b t)) where
    -- a type with no parts has points, and perhaps rings
    module _ (alone : has_parts k ≡ false) where
      has : has_points k ≡ true
      has = grind (arith, nat_tests)

      ordinates_weigh : (f : ℕ) → IsAmong (f, 8) point_vectors → Weighs b (field_part t (f, link (numbers 8))) (8 * count_in b t f)
      ordinates_weigh f among = numbers_weigh f 8 (point_clean k b t clean has (f, 8) among)

      points_weigh : AllByRecursion (λ f. Weighs b (field_part t f) (field_weight f)) points_there
      points_weigh = (
        xy_weigh (point_clean k b t clean has (1, 8) (inl refl)),
        (ordinates_weigh 2 (inr (inl refl)), (ordinates_weigh 3 (inr (inr (inl refl))), (ordinates_weigh 4 (inr (inr (inr (inl refl)))), (ordinates_weigh 5 (inr (inr (inr (inr (inl refl))))), tt)))),
      )

      ringed : has_rings k ≡ true → Weighs b (geometry_part k d t) (weight_of k b t)
      ringed rings =
          let fs = (0, link (numbers 4)) ∷ points_there in
          let same : ring_fields k ++ point_fields k ++ part_fields d k ≡ (0, link (numbers 4)) ∷ points_there = rw (rings, has, alone) refl in
          let weight : weight_of k b t ≡ 4 + 4 * count_in b t 0 + 8 * (count_in b t 1 + count_in b t 2 + count_in b t 3 + count_in b t 4 + count_in b t 5) + 0 = rw (rings, has, alone) refl in
          subst (Weighs b (geometry_part k d t)) (omega (arith, weight))
          (weighs_by fs (total field_weight fs) (fields_given ∙ same) (together_each b t field_weight fs (numbers_weigh 0 4 (ring_clean k b t clean rings), points_weigh)))

      plain : has_rings k ≡ false → Weighs b (geometry_part k d t) (weight_of k b t)
      plain rings =
          let same : ring_fields k ++ point_fields k ++ part_fields d k ≡ points_there = rw (rings, has, alone) refl in
          let weight : weight_of k b t ≡ 4 + 0 + 8 * (count_in b t 1 + count_in b t 2 + count_in b t 3 + count_in b t 4 + count_in b t 5) + 0 = rw (rings, has, alone) refl in
          subst (Weighs b (geometry_part k d t)) (omega (arith, weight))
          (weighs_by points_there (total field_weight points_there) (fields_given ∙ same) (together_each b t field_weight points_there points_weigh))

      weighs_plain : Weighs b (geometry_part k d t) (weight_of k b t)
      weighs_plain = ⊎_elim ringed plain (cases_Bool (has_rings k))

    -- one with parts has nothing else
    module _ (parts : has_parts k ≡ true) where
      no_rings : has_rings k ≡ false
      no_rings = grind (arith, nat_tests)

      no_points : has_points k ≡ false
      no_points = grind (arith, nat_tests)

      only_list : fields (geometry k d) b t ≡ list_field ∷ []
      only_list = let same : ring_fields k ++ point_fields k ++ part_fields d k ≡ list_field ∷ [] = rw (no_rings, no_points, parts) refl in fields_given ∙ same

      list_weight : weight_of k b t ≡ 4 + 0 + 0 + 4 * count_in b t 7
      list_weight = rw (no_rings, no_points, parts) refl

      weighs_absent : is_absent b t 7 ≡ true → Weighs b (geometry_part k d t) (weight_of k b t)
      weighs_absent absent =
          subst (Weighs b (geometry_part k d t)) (omega (arith, list_weight, count_absent b t 7 absent))
          (weighs_by (list_field ∷ []) (0 + 0) only_list (together_more b (field_part t list_field) [] 0 0 (weigh_absent b (tables parts_name) t 7 absent) (together_none b)))

    pub own_weighs_alone : (has_parts k ≡ true → is_absent b t 7 ≡ true) → Weighs b (geometry_part k d t) (weight_of k b t)
    own_weighs_alone alone = elim (cases_Bool (has_parts k)) [
      | inl parts ↦ weighs_absent parts (alone parts)
      | inr none ↦ weighs_plain none
    ]

    pub own_weighs_with : has_parts k ≡ true → is_absent b t 7 ≡ false → (w : ℕ)
        → WeighTogether b (entry_parts b parts_name (led_to b t 7) (count b (led_to b t 7))) w → Weighs b (geometry_part k d t) (weight_of k b t + w)
    own_weighs_with parts present w weigh =
        let v = led_to b t 7 in let n = 4 * count b (led_to b t 7) + w in
        let list = weigh_link b (tables parts_name) t 7 n (parts_link clean parts present) (weigh_tables b parts_name v w (parts_sound clean parts present) weigh) in
        subst (Weighs b (geometry_part k d t)) (omega (arith, list_weight parts, count_there b t 7 present))
        (weighs_by (list_field ∷ []) (n + 0) (only_list parts) (together_more b (field_part t list_field) [] n 0 list (together_none b)))

    pub own_least : has_parts k ≡ true → is_absent b t 7 ≡ false → (w : ℕ)
        → AreLeast b (entry_parts b parts_name (led_to b t 7) (count b (led_to b t 7))) w → IsLeast b (geometry_part k d t) (weight_of k b t + w)
    own_least parts present w least =
        let v = led_to b t 7 in let n = 4 * count b (led_to b t 7) + w in
        let list = least_link b (tables parts_name) t 7 n (parts_link clean parts present) (least_tables b parts_name v w (parts_sound clean parts present) least) in
        subst (IsLeast b (geometry_part k d t)) (omega (arith, list_weight parts, count_there b t 7 present))
        (least_by (list_field ∷ []) (n + 0) (only_list parts) (least_more b (field_part t list_field) [] n 0 list (least_none b [])))

    pub own_least_alone : IsLeast b (geometry_part k d t) (weight_of k b t)
    own_least_alone = elim (cases_Bool (has_parts k)) [
      | inr none ↦ least_of b (geometry_part k d t) (weight_of k b t) (weighs_plain none)
      | inl parts ↦ elim (cases_Bool (is_absent b t 7)) [
        | inl absent ↦ least_of b (geometry_part k d t) (weight_of k b t) (weighs_absent parts absent)
        | inr present ↦ subst (IsLeast b (geometry_part k d t)) (omega arith) (own_least parts present 0 (least_none b (entry_parts b parts_name (led_to b t 7) (count b (led_to b t 7)))))
      ]
    ]
