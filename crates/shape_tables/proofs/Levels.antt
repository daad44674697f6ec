-- One level of a shape that was laid: it is shown, and breaks nothing.
use Rattle.std.proofs.Common.{◌≡◌, ◌⊎◌, inl, inr, ℕ, ◌+◌, ◌-◌, ◌*◌, ◌/◌, ◌<◌, ◌≤◌, ◌++◌, Bool, true, false, List, [], ◌∷◌, length, if◌then◌else◌, refl, ap, ap₂, sym, subst, ◌∙◌, arith}
use Rattle.std.specs.Prelude.{slice_index}
use Rattle.std.proofs.lemmas.Bool.{cases_eq, true≢false}
use Rattle.flat_layout.specs.Layout.{is_absent, led_to, count, longs, words}
use Rattle.flat_layout.specs.Promises.{IsClean}
use Rattle.order_keys.specs.Keys.{is_finite}
use Rattle.fgb_schema.specs.Tables.{geometry, tables as tables_thing, numbers, pairs, link, kind_of, is_kind, has_points, has_rings, has_parts, part_type, own_type, ring_fields, point_fields, part_fields, fields}
use Rattle.fgb_schema.specs.Paths.{field, count_in, point_count, BreaksPairs, odd, several, infinite, Descends, BreaksEnds, descending, wrong_end, BreaksOrdinates, BreaksGeometry, deep, unknown, ends, ordinates as ordinates_broken, BreaksByTable, geometry_part}
use Rattle.fgb_schema.specs.Shapes.{shape, Shapes, Ordinates, no_ordinates, pairs_of, rings_of, longs_in, words_in, shape_with}
use Rattle.flat_builder.specs.Trees.{none, Tables, empty}
use Rattle.flat_laid.specs.Trees.{fields_weight}
use Rattle.flat_laid.specs.Lies.{IsTable, HasFields}
use Rattle.shape_tables.specs.Laying.{turns, told_ends, numbers_item, tables_item, with_fields, shape_items}
use Rattle.shape_tables.specs.Records.{IsBeside, IsLevel}
use Rattle.shape_tables.proofs.Held.{IsHeld, HeldAt, field_of}
use Rattle.shape_tables.proofs.Unbroken.{IsUnbroken, AreUnbroken, AreFields, unbroken_none, unbroken_one, ◌◁◌, held_weight, weight_of, fields_both, table_unbroken}
use Rattle.shape_tables.proofs.Turns.{turned_back, length-turns, turned_numbers, finite_at}
use Rattle.shape_tables.proofs.Rings.{rings_back, AreEnds, ends_fit}
use Rattle.shape_tables.proofs.Vectors.{numbers_counted, counted_there, numbers_unbroken, longs_shown, longs_there, words_shown, words_there, pairs_unbroken}
use Rattle.shape_tables.proofs.Types.{own_type_unbroken, type_shown, kind_shown, fields_shown}

same_ordinates : (o : Ordinates) (z m t tm : List ℕ) → z ≡ o.z → m ≡ o.m → t ≡ o.t → tm ≡ o.tm → (let made : Ordinates = record { z = z; m = m; t = t; tm = tm } in made) ≡ o
same_ordinates o z m t tm same_z same_m same_t same_tm = rw (same_z, same_m, same_t, same_tm) refl

same_shape : (kind : ℕ) (own own' rings rings' : List (ℕ × ℕ)) (o o' : Ordinates) (parts : Shapes) → own ≡ own' → rings ≡ rings' → o ≡ o' → shape kind own rings o parts ≡ shape kind own' rings' o' parts
same_shape kind own own' rings rings' o o' parts same_own same_rings same_o =
    ap (λ x. shape kind x rings o parts) same_own ∙ ap (λ x. shape kind own' x o parts) same_rings ∙ ap (λ x. shape kind own' rings' x parts) same_o

-- the fields of a whole geometry, in the order in which they are read and in that of the list
add_up : (told xy z m t tm parts : ℕ) → 0 + told + (xy + (z + (m + (t + tm)))) + parts ≡ told + (xy + (z + (m + (t + (tm + (0 + (parts + 0)))))))
add_up told xy z m t tm parts = omega arith

half : (n m k : ℕ) → n ≡ m → m ≡ 2 * k → n / 2 ≡ k
half n m k same twice = omega (arith, same, twice)

-- the last of some ends
last_kept : (points n : ℕ) (found laid : List ℕ) → found ≡ laid → n ≡ length laid → AreEnds points laid → 0 < n → slice_index found (n - 1) ≡ points
last_kept points n found laid same counted fit some = ap₂ (λ xs k. slice_index xs (k - 1)) same counted ∙ fit.last (omega (arith, some, counted))

module _ (b : List ℕ) (t kind : ℕ) (own rings : List (ℕ × ℕ)) (lists : Ordinates) (parts : Shapes) (laid : Tables)
    (is : IsLevel (shape kind own rings lists parts))
    (has : IsTable b (with_fields none 0 (shape_items kind own rings lists laid)) t (HasFields b (with_fields none 0 (shape_items kind own rings lists laid)) t)) where
  at : (i : ℕ) → HeldAt b t 0 (shape_items kind own rings lists laid) i
  at i = field_of b t (shape_items kind own rings lists laid) has i

  pub parts_held : IsHeld b t 7 (tables_item laid)
  parts_held = at 7

  points_counted : point_count b t ≡ length own
  points_counted = half (count_in b t 1) (length (turns own)) (length own) (numbers_counted b t 1 8 (turns own) (at 1)) (length-turns own)

  -- what it shows
  points_shown : (x : Bool) → has_points kind ≡ x → (if x then pairs_of (longs_in b t 1) else []) ≡ own
  points_shown true e = ap pairs_of (longs_shown b t 1 (turns own) (at 1)) ∙ turned_back own
  points_shown false e = sym (is.no_points e).0

  rings_shown : (x : Bool) → has_rings kind ≡ x → (if x then rings_of (words_in b t 0) (point_count b t) else []) ≡ rings
  rings_shown true e = ap₂ rings_of (words_shown b t 0 (told_ends rings) (at 0)) points_counted ∙ rings_back (length own) rings (is.chained e)
  rings_shown false e = sym (is.no_rings e)

  lists_shown : (x : Bool) → has_points kind ≡ x → (if x then record { z = longs_in b t 2; m = longs_in b t 3; t = longs_in b t 4; tm = longs_in b t 5 } else no_ordinates) ≡ lists
  lists_shown true e = same_ordinates lists (longs_in b t 2) (longs_in b t 3) (longs_in b t 4) (longs_in b t 5)
      (longs_shown b t 2 lists.z (at 2)) (longs_shown b t 3 lists.m (at 3)) (longs_shown b t 4 lists.t (at 4)) (longs_shown b t 5 lists.tm (at 5))
  lists_shown false e = sym (is.no_points e).1

  pub level_shown : (seen : Shapes) → shape_with kind b t seen ≡ shape kind own rings lists seen
  level_shown seen = same_shape kind _ own _ rings _ lists seen (points_shown (has_points kind) refl) (rings_shown (has_rings kind) refl) (lists_shown (has_points kind) refl)

  -- the points
  pairs_kept : is_absent b t 1 ≡ false → IsClean (BreaksPairs kind b (led_to b t 1))
  pairs_kept present q r (odd is_odd) = omega (arith, is_odd, counted_there b t 1 8 (turns own) (at 1) present, length-turns own)
  pairs_kept present q r (several point more) = omega (arith, more, counted_there b t 1 8 (turns own) (at 1) present, length-turns own, is.single point)
  pairs_kept present q r (infinite i early broken) =
      let counted = counted_there b t 1 8 (turns own) (at 1) present in
      let good : is_finite (slice_index (longs b (led_to b t 1)) i) ≡ true =
      ap (λ xs. is_finite (slice_index xs i)) (longs_there b t 1 (turns own) (at 1) present) ∙ finite_at (turns own) i (turned_numbers own is.points) (omega (arith, early, counted)) in
      true≢false (sym good ∙ broken.infinite)

  -- the ends of the rings
  ends_kept : has_rings kind ≡ true → is_absent b t 0 ≡ false → IsClean (BreaksEnds b t)
  ends_kept ringed present q r (descending listed down) =
      (ends_fit (length own) rings (is.chained ringed)).ascend (subst Descends (words_there b t 0 (told_ends rings) (at 0) present) down)
  ends_kept ringed present q r (wrong_end listed beside some other) =
      other (last_kept (length own) (count b (led_to b t 0)) (words b (led_to b t 0)) (told_ends rings) (words_there b t 0 (told_ends rings) (at 0) present)
      (counted_there b t 0 4 (told_ends rings) (at 0) present) (ends_fit (length own) rings (is.chained ringed)) some ∙ sym points_counted)

  -- the ordinates
  list_kept : (f : ℕ) (list : List ℕ) → IsBeside (length own) list → IsHeld b t f (numbers_item 8 list) → IsClean (BreaksOrdinates b t f)
  list_kept f list beside held q r broken =
      let counted = numbers_counted b t f 8 list held in
      broken.other (counted ∙ beside.0 (subst (λ n. 0 < n) counted broken.some) ∙ sym points_counted)

  lists_kept : (f : ℕ) → 2 ≤ f → f ≤ 5 → IsClean (BreaksOrdinates b t f)
  lists_kept f low high = elim (cases_eq f 2) [
    | inl e ↦ subst (λ f. IsClean (BreaksOrdinates b t f)) (sym e) (list_kept 2 lists.z is.z (at 2))
    | inr e2 ↦ elim (cases_eq f 3) [
      | inl e ↦ subst (λ f. IsClean (BreaksOrdinates b t f)) (sym e) (list_kept 3 lists.m is.m (at 3))
      | inr e3 ↦ elim (cases_eq f 4) [
        | inl e ↦ subst (λ f. IsClean (BreaksOrdinates b t f)) (sym e) (list_kept 4 lists.t is.t' (at 4))
        | inr e4 ↦ let e : f ≡ 5 = omega (arith, low, high, e2, e3, e4) in subst (λ f. IsClean (BreaksOrdinates b t f)) (sym e) (list_kept 5 lists.tm is.tm (at 5))
      ]
    ]
  ]

  -- the fields that are read
  rings_unbroken : (x : Bool) → has_rings kind ≡ x → AreFields b t (if x then (0, link (numbers 4)) ∷ [] else []) (held_weight (numbers_item 4 (told_ends rings)))
  rings_unbroken true e = unbroken_one b (field (link (numbers 4)) t 0) (held_weight (numbers_item 4 (told_ends rings))) (numbers_unbroken b t 0 4 (told_ends rings) (at 0))
  rings_unbroken false e = subst (λ rs. AreUnbroken b [] (held_weight (numbers_item 4 (told_ends rs)))) (sym (is.no_rings e)) (unbroken_none b)

  abbrev points_weight : List (ℕ × ℕ) → Ordinates → ℕ
  points_weight own lists =
      held_weight (numbers_item 8 (turns own)) + (held_weight (numbers_item 8 lists.z) + (held_weight (numbers_item 8 lists.m) + (held_weight (numbers_item 8 lists.t) + held_weight (numbers_item 8 lists.tm))))

  points_unbroken : (x : Bool) → has_points kind ≡ x
      → AreFields b t (if x then (1, link (pairs kind)) ∷ (2, link (numbers 8)) ∷ (3, link (numbers 8)) ∷ (4, link (numbers 8)) ∷ (5, link (numbers 8)) ∷ [] else []) (points_weight own lists)
  points_unbroken true e =
      pairs_unbroken b t 1 kind (turns own) (at 1) pairs_kept
      ◁ numbers_unbroken b t 2 8 lists.z (at 2)
      ◁ numbers_unbroken b t 3 8 lists.m (at 3)
      ◁ numbers_unbroken b t 4 8 lists.t (at 4)
      ◁ unbroken_one b (field (link (numbers 8)) t 5) (held_weight (numbers_item 8 lists.tm)) (numbers_unbroken b t 5 8 lists.tm (at 5))
  points_unbroken false e =
      subst (λ own. AreUnbroken b [] (points_weight own lists)) (sym (is.no_points e).0)
      (subst (λ lists. AreUnbroken b [] (points_weight [] lists)) (sym (is.no_points e).1) (unbroken_none b))

  pub kind_seen : (outer : ℕ) → (outer ≡ 0) ⊎ (outer ≡ kind) → kind_of outer b t ≡ kind
  kind_seen outer suits = kind_shown b t kind (at 6) outer suits is.known

  module _ (outer depth : ℕ) (suits : (outer ≡ 0) ⊎ (outer ≡ kind)) (shallow : depth ≤ 16) where
    seen : kind_of outer b t ≡ kind
    seen = kind_seen outer suits

    by_geometry : IsClean (BreaksGeometry outer depth b t)
    by_geometry q r (deep _ too) = omega (arith, too, shallow)
    by_geometry q r (unknown _ _ other) = true≢false (sym is.known ∙ sym (ap is_kind (type_shown b t kind (at 6) outer suits is.known)) ∙ other)
    by_geometry q r (ends _ ringed present broken) = ends_kept (sym (ap has_rings seen) ∙ ringed) present q r broken
    by_geometry q r (ordinates_broken f _ pointed low high broken) = lists_kept f low high q r broken

    by_table : IsClean (BreaksByTable (geometry outer depth) b t)
    unfolding BreaksByTable
    by_table q r broken = by_geometry q r broken

    parts_unbroken : (x : Bool) → has_parts kind ≡ x → (x ≡ true → IsUnbroken b (field (link (tables_thing (geometry (part_type kind) (depth + 1)))) t 7) (held_weight (tables_item laid))) → (x ≡ false → laid ≡ empty)
        → AreFields b t (if x then (7, link (tables_thing (geometry (part_type kind) (depth + 1)))) ∷ [] else []) (held_weight (tables_item laid))
    parts_unbroken true e behind nothing = unbroken_one b (field (link (tables_thing (geometry (part_type kind) (depth + 1)))) t 7) (held_weight (tables_item laid)) (behind refl)
    parts_unbroken false e behind nothing = subst (λ ts. AreUnbroken b [] (held_weight (tables_item ts))) (sym (nothing refl)) (unbroken_none b)

    abbrev all_weight : ℕ
    all_weight = 0 + held_weight (numbers_item 4 (told_ends rings)) + points_weight own lists + held_weight (tables_item laid)

    weight_is : all_weight ≡ fields_weight (with_fields none 0 (shape_items kind own rings lists laid))
    weight_is =
        add_up (held_weight (numbers_item 4 (told_ends rings))) (held_weight (numbers_item 8 (turns own))) (held_weight (numbers_item 8 lists.z)) (held_weight (numbers_item 8 lists.m))
        (held_weight (numbers_item 8 lists.t)) (held_weight (numbers_item 8 lists.tm)) (held_weight (tables_item laid))
        ∙ sym (weight_of (shape_items kind own rings lists laid))

    -- it breaks nothing where its parts do not
    pub level_unbroken : (has_parts kind ≡ true → IsUnbroken b (field (link (tables_thing (geometry (part_type kind) (depth + 1)))) t 7) (held_weight (tables_item laid))) → (has_parts kind ≡ false → laid ≡ empty)
        → IsUnbroken b (geometry_part outer depth t) (4 + fields_weight (with_fields none 0 (shape_items kind own rings lists laid)))
    level_unbroken behind nothing =
        let front = fields_both b t (own_type outer) (ring_fields kind) 0 (held_weight (numbers_item 4 (told_ends rings))) (own_type_unbroken b t kind (at 6) outer) (rings_unbroken (has_rings kind) refl) in
        let middle = fields_both b t (own_type outer ++ ring_fields kind) (point_fields kind) (0 + held_weight (numbers_item 4 (told_ends rings))) (points_weight own lists) front (points_unbroken (has_points kind) refl) in
        let whole = fields_both b t (own_type outer ++ ring_fields kind ++ point_fields kind) (part_fields depth kind) (0 + held_weight (numbers_item 4 (told_ends rings)) + points_weight own lists) (held_weight (tables_item laid))
        middle (parts_unbroken (has_parts kind) refl behind nothing) in
        let read : AreFields b t (fields (geometry outer depth) b t) all_weight = subst (λ fs. AreFields b t fs all_weight) (sym (fields_shown b t kind (at 6) outer suits is.known depth)) whole in
        subst (λ w. IsUnbroken b (geometry_part outer depth t) (4 + w)) weight_is (table_unbroken b t (geometry outer depth) all_weight has.inside by_table read)
