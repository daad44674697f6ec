-- A shape that was read weighs no more than the paths from its table, for which a meter was paid. And what a shape
-- weighs, by its lists.
use Rattle.std.proofs.Common.{◌≡◌, inl, inr, ℕ, zero, suc, ◌+◌, ◌-◌, ◌*◌, ◌<◌, ◌≤◌, ◌==◌, Bool, true, false, List, [], ◌∷◌, ◌++◌, length, map, Some, if◌then◌else◌, refl, ap, sym, subst, ◌∙◌, arith}
use Rattle.std.specs.Prelude.{slice_get}
use Rattle.std.specs.List.{range_with_len}
use Rattle.std.proofs.lemmas.Bool.{cases_Bool}
use Rattle.std.proofs.lemmas.Bool.Decides.{eqb_tells, nat_tests}
use Rattle.std.proofs.lemmas.List.FromFn.{map-range_with_len_more}
use Rattle.flat_layout.specs.Layout.{is_table, is_absent, is_vector, led_to, count, entry_place, target}
use Rattle.flat_layout.specs.Promises.{IsClean}
use Rattle.flat_layout.proofs.Numbers.{length-longs, length-words}
use Rattle.fgb_schema.specs.Tables.{Name, geometry, table, tables, is_kind, kind_of, type_of, has_points, has_rings, has_parts, part_type}
use Rattle.fgb_schema.specs.Paths.{Breaks, count_in, point_count, geometry_part, thing}
use Rattle.fgb_schema.specs.Shapes.{Shape, Shapes, shape, none, more, Ordinates, no_ordinates, shapes_of, pairs_of, longs_in, words_in, rings_of, parts_by, shape_at, shape_with, points_in, rings_in, ordinates_in, parts_in}
use Rattle.fgb_schema.specs.Weights.{total, weight_within, IsPaid}
use Rattle.fgb_schema.proofs.CleanEntries.{entry_offset, entry_table, entry_target}
use Rattle.fgb_schema.proofs.TablesParts.{entry_part, entry_parts, entries_more}
use Rattle.fgb_schema.proofs.Weighing.{IsLeast, AreLeast, least_none, least_last, least_offset, within_rises}
use Rattle.geometry_view.specs.Lists.{BreaksVectors, weight_of}
use Rattle.geometry_view.specs.Weights.{shape_weight, parts_weight}
use Rattle.geometry_view.proofs.OwnLevel.{own_breaks, own_least, own_least_alone, parts_breaks, parts_link, parts_sound}
use Rattle.geometry_view.proofs.OwnNumbers.{length-pairs, length-rings_from}
use Rattle.geometry_view.proofs.OwnType.{breaks_under, clean_kind, clean_known, clean_type, kind_given, not_zero, shape_under, weight_under}

known_least : (k : ℕ) → is_kind k ≡ true → 1 ≤ k
known_least k known = grind (arith, nat_tests)

known_some : (k : ℕ) → is_kind k ≡ true → (k == 0) ≡ false
known_some k known = not_zero k (known_least k known)

-- for each part 4, and the part itself
abbrev pub with_entries : List Shape → ℕ
with_entries parts = total (λ part. 4 + shape_weight part) parts

-- what is one of some weighs no more than all
total_one : (f : Shape → ℕ) (xs : List Shape) (i : ℕ) (x : Shape) → slice_get xs i ≡ Some x → f x ≤ total f xs
total_one f [] i x is = absurd cc
total_one f (y ∷ ys) zero x is = let e : y ≡ x = cc in subst (λ z. f z ≤ f y + total f ys) e (omega arith)
total_one f (y ∷ ys) (suc i) x is = omega (arith, total_one f ys i x is)

total_last : (f : Shape → ℕ) (xs : List Shape) (x : Shape) → total f (xs ++ x ∷ []) ≡ total f xs + f x
total_last f [] x = omega arith
total_last f (y ∷ ys) x = omega (arith, total_last f ys x)

parts_by_list : (kind : ℕ) (own rings : List (ℕ × ℕ)) (ordinates : Ordinates) (parts : Shapes) → parts_weight parts ≡ with_entries (parts_in (shape kind own rings ordinates parts))
parts_by_list kind own rings ordinates none = refl
parts_by_list kind own rings ordinates (more first rest) = ap (λ n. 4 + shape_weight first + n) (parts_by_list kind own rings ordinates rest)

parts_of_list : (parts : List Shape) → parts_weight (shapes_of parts) ≡ with_entries parts
parts_of_list [] = refl
parts_of_list (first ∷ rest) = ap (λ n. 4 + shape_weight first + n) (parts_of_list rest)

-- what a shape weighs, by its lists
pub weight_by : (s : Shape)
    → shape_weight s ≡ 4 + 4 * (length (rings_in s) - 1) + 16 * length (points_in s)
    + 8 * (length (ordinates_in s).z + length (ordinates_in s).m + length (ordinates_in s).t + length (ordinates_in s).tm) + with_entries (parts_in s)
weight_by (shape kind own rings ordinates parts) =
    ap (λ n. 4 + 4 * (length rings - 1) + 16 * length own + 8 * (length ordinates.z + length ordinates.m + length ordinates.t + length ordinates.tm) + n) (parts_by_list kind own rings ordinates parts)

-- a part weighs less
pub part_lighter : (s part : Shape) (i : ℕ) → slice_get (parts_in s) i ≡ Some part → 4 + shape_weight part ≤ shape_weight s
part_lighter s part i is = omega (arith, weight_by s, total_one (λ part. 4 + shape_weight part) (parts_in s) i part is)

module _ (b : List ℕ) where
  longs_count : (t f : ℕ) → length (longs_in b t f) ≡ count_in b t f
  longs_count t f = elim (cases_Bool (is_absent b t f)) [
    | inl absent ↦ rw absent refl
    | inr present ↦ rw present (length-longs b (led_to b t f))
  ]

  words_count : (t f : ℕ) → length (words_in b t f) ≡ count_in b t f
  words_count t f = elim (cases_Bool (is_absent b t f)) [
    | inl absent ↦ rw absent refl
    | inr present ↦ rw present (length-words b (led_to b t f))
  ]

  rings_count : (ends : List ℕ) (points : ℕ) → length (rings_of ends points) - 1 ≤ length ends
  rings_count [] points = elim (eqb_tells points 0) [
    | inl nothing ↦ rw nothing.0 (omega arith)
    | inr several ↦ rw several.0 (omega arith)
  ]
  rings_count (end ∷ rest) points = omega (arith, length-rings_from 0 (end ∷ rest))

  -- a table by itself, without the list of its parts
  abbrev own_of : Bool → Bool → ℕ → ℕ
  own_of rings points t =
      4 + (if rings then 4 * count_in b t 0 else 0)
      + (if points then 8 * (count_in b t 1 + count_in b t 2 + count_in b t 3 + count_in b t 4 + count_in b t 5) else 0)

  abbrev shape_by : Bool → Bool → ℕ → ℕ → Shapes → Shape
  shape_by rings points k t parts = shape k
      (if points then pairs_of (longs_in b t 1) else [])
      (if rings then rings_of (words_in b t 0) (point_count b t) else [])
      (if points then record { z = longs_in b t 2; m = longs_in b t 3; t = longs_in b t 4; tm = longs_in b t 5 } else no_ordinates)
      parts

  own_within : (rings points : Bool) (k t : ℕ) (parts : Shapes) → shape_weight (shape_by rings points k t parts) ≤ own_of rings points t + parts_weight parts
  own_within true true k t parts = omega (arith, rings_count (words_in b t 0) (point_count b t), words_count t 0, length-pairs (longs_in b t 1), longs_count t 1, longs_count t 2, longs_count t 3, longs_count t 4, longs_count t 5)
  own_within true false k t parts = omega (arith, rings_count (words_in b t 0) (point_count b t), words_count t 0)
  own_within false true k t parts = omega (arith, length-pairs (longs_in b t 1), longs_count t 1, longs_count t 2, longs_count t 3, longs_count t 4, longs_count t 5)
  own_within false false k t parts = omega arith

  -- the entries of a list weigh what their shapes do
  module _ (name : Name) (v : ℕ) (show : ℕ → Shape) where
    abbrev shapes_to : ℕ → List Shape
    shapes_to n = map show (range_with_len 0 n)

    record EntriesLeast (n : ℕ) : Type 0 where
      weight : ℕ
      by_shapes : with_entries (shapes_to n) ≡ 4 * n + weight
      least : AreLeast b (entry_parts b name v n) weight

    one_more : (n : ℕ) → EntriesLeast n → IsLeast b (entry_part b name v n) (shape_weight (show n)) → EntriesLeast (n + 1)
    one_more n before one =
        let more_shapes : shapes_to (n + 1) ≡ shapes_to n ++ show n ∷ [] = map-range_with_len_more show 0 n n (omega arith) in
        record {
          weight = before.weight + shape_weight (show n);
          by_shapes = ap with_entries more_shapes ∙ total_last (λ part. 4 + shape_weight part) (shapes_to n) (show n) ∙ (omega (arith, before.by_shapes));
          least = subst (λ xs. AreLeast b xs (before.weight + shape_weight (show n))) (sym (entries_more b name v n))
              (least_last b (entry_parts b name v n) (entry_part b name v n) before.weight (shape_weight (show n)) before.least one);
        }

    entries_least : (n : ℕ) → ((i : ℕ) → i < n → IsLeast b (entry_part b name v i) (shape_weight (show i))) → EntriesLeast n
    entries_least zero each = record { weight = 0; by_shapes = refl; least = least_none b (entry_parts b name v 0) }
    entries_least (suc n) each =
        let e : n + 1 ≡ suc n = omega arith in
        subst EntriesLeast e (one_more n (entries_least n (λ i early. each i (omega (arith, early)))) (each n (omega arith)))

  -- a shape with so many levels below weighs at most what its table does
  abbrev IsLeastAt : ℕ → Type 0
  IsLeastAt levels = (outer depth t : ℕ) → is_table b t ≡ true → IsClean (Breaks b (geometry_part outer depth t))
      → IsLeast b (geometry_part outer depth t) (shape_weight (shape_at levels outer b t))

  -- one whose type is given
  module _ (k depth t : ℕ) (sound : is_table b t ≡ true) (known : is_kind k ≡ true) (clean : IsClean (Breaks b (geometry_part k depth t))) where
    vectors : IsClean (BreaksVectors k b t)
    vectors q r broken = clean q r (own_breaks k depth b t sound known q r (inl broken))

    own : (parts : Shapes) → shape_weight (shape_with k b t parts) ≤ own_of (has_rings k) (has_points k) t + parts_weight parts
    own parts = own_within (has_rings k) (has_points k) k t parts

    least_none_below : (parts : Shapes) → parts_weight parts ≡ 0 → IsLeast b (geometry_part k depth t) (shape_weight (shape_with k b t parts))
    least_none_below parts nothing =
        let least = own_least_alone k depth b t sound known vectors in
        (least.0, omega (arith, least.1, own parts, nothing))

    abbrev parts_name : Name
    parts_name = geometry (part_type k) (depth + 1)

    module _ (levels : ℕ) (each : IsLeastAt levels) where
      abbrev parts_below : Shapes
      parts_below = parts_by (shape_at levels (part_type k) b) b t

      module _ (has : has_parts k ≡ true) (present : is_absent b t 7 ≡ false) where
        abbrev v : ℕ
        v = led_to b t 7

        abbrev show : ℕ → Shape
        show i = shape_at levels (part_type k) b (target b (entry_place b v i))

        room : is_vector 4 b v ≡ true
        room = parts_sound k depth b t sound known vectors has present

        list_clean : IsClean (Breaks b (thing (tables parts_name) v))
        list_clean q r broken = clean q r (parts_breaks k depth b t sound known has (parts_link k depth b t sound known vectors has present) q r broken)

        entry : (i : ℕ) → i < count b v → IsLeast b (entry_part b parts_name v i) (shape_weight (show i))
        entry i early =
            let p = entry_place b v i in
            least_offset b (table parts_name) p (shape_weight (show i)) (entry_offset b parts_name v room list_clean i early)
            (each (part_type k) (depth + 1) (target b p) (entry_table b parts_name v room list_clean i early) (entry_target b parts_name v room list_clean i early))

        all : EntriesLeast parts_name v show (count b v)
        all = entries_least parts_name v show (count b v) entry

        below_by : parts_weight parts_below ≡ 4 * count b v + all.weight
        below_by = rw present (parts_of_list (shapes_to parts_name v show (count b v)) ∙ all.by_shapes)

        own_by : own_of (has_rings k) (has_points k) t + 4 * count b v ≡ weight_of k b t
        own_by = rw (has, present) refl

        least_there : IsLeast b (geometry_part k depth t) (shape_weight (shape_with k b t parts_below))
        least_there =
            let least = own_least k depth b t sound known vectors has present all.weight all.least in
            (least.0, omega (arith, least.1, own parts_below, below_by, own_by))

      least_below : has_parts k ≡ true → IsLeast b (geometry_part k depth t) (shape_weight (shape_with k b t parts_below))
      least_below has = elim (cases_Bool (is_absent b t 7)) [
        | inl absent ↦ least_none_below parts_below (rw absent refl)
        | inr present ↦ least_there has present
      ]

      least_parts : IsLeast b (geometry_part k depth t) (shape_weight (shape_with k b t (if has_parts k then parts_below else none)))
      least_parts = elim (cases_Bool (has_parts k)) [
        | inl has ↦ rw has (least_below has)
        | inr lacks ↦ rw lacks (least_none_below none refl)
      ]

    least_known : (levels : ℕ) → ((lower : ℕ) → lower + 1 ≡ levels → IsLeastAt lower) → IsLeast b (geometry_part k depth t) (shape_weight (shape_at levels k b t))
    unfolding shape_at
    least_known zero each = let given = kind_given k b t (known_some k known) in rw given (least_none_below none refl)
    least_known (suc levels) each = let given = kind_given k b t (known_some k known) in rw given (least_parts levels (each levels (omega arith)))

  -- the type that holds is given from outside, or is its own
  least_under : (levels : ℕ) → ((lower : ℕ) → lower + 1 ≡ levels → IsLeastAt lower) → IsLeastAt levels
  least_under levels each outer depth t sound clean =
      let k = type_of outer b t in
      let holds : kind_of outer b t ≡ k = clean_kind outer depth b t sound clean in
      let known : is_kind k ≡ true = clean_known outer depth b t sound clean in
      let some : 1 ≤ k = known_least k known in
      let readable = clean_type outer depth b t sound clean in
      let least = least_known k depth t sound known (λ q r broken. clean q r (breaks_under b t outer k depth sound holds some readable q r broken)) levels each in (
        least.0,
        subst (λ s. shape_weight s ≤ weight_within b least.0 (geometry_part outer depth t)) (sym (shape_under b t outer k depth sound holds some readable levels))
            (subst (λ w. shape_weight (shape_at levels k b t) ≤ w) (sym (weight_under b t outer k depth sound holds some readable least.0)) least.1),
      )

  pub least_shape : (levels : ℕ) → IsLeastAt levels
  least_shape zero = least_under zero (λ lower less. absurd (omega (arith, less)))
  least_shape (suc levels) = least_under (suc levels) (λ lower less. let e : levels ≡ lower = omega (arith, less) in subst IsLeastAt e (least_shape levels))

  -- a meter that had at most so much was paid for it
  pub light_paid : (levels outer depth t before after limit : ℕ) → is_table b t ≡ true → IsClean (Breaks b (geometry_part outer depth t)) → IsPaid b (geometry_part outer depth t) before after
      → before ≤ limit → shape_weight (shape_at levels outer b t) ≤ limit
  light_paid levels outer depth t before after limit sound clean paid within =
      let least = least_shape levels outer depth t sound clean in
      let enough = least.0 + paid.weighs.0 in
      omega (arith, within, least.1, paid.taken, paid.weighs.1 enough (omega arith), within_rises b least.0 enough (omega arith) (geometry_part outer depth t))
