-- What a view of a geometry shows has the form of a record.
use Rattle.std.proofs.Common.{◌≡◌, inl, inr, ℕ, zero, suc, ◌+◌, ◌-◌, ◌*◌, ◌/◌, ◌<◌, ◌≤◌, ◌==◌, true, false, List, [], ◌∷◌, length, map, if◌then◌else◌, refl, ap, sym, subst, ◌∙◌, arith}
use Rattle.std.specs.Prelude.{slice_index}
use Rattle.std.specs.List.{All, range_with_len}
use Rattle.std.proofs.lemmas.Bool.{cases_Bool, cases_eq, cases_lt, eqb-true}
use Rattle.std.proofs.lemmas.Bool.Decides.{nat_tests}
use Rattle.std.proofs.lemmas.List.Elements.{All-cons, All-nil}
use Rattle.std.proofs.lemmas.List.FromFn.{length-map-range_with_len}
use Rattle.flat_layout.specs.declared.Rule.TheVariants.{PointCount, Ends, Ordinates as OrdinateCount}
use Rattle.flat_layout.specs.Layout.{is_absent, is_table, is_vector, led_to, count, entry_place, target, words}
use Rattle.flat_layout.specs.Promises.{IsClean}
use Rattle.flat_layout.proofs.Numbers.{length-longs, length-words}
use Rattle.flat_views.specs.Tables.{bytes_of, place_of}
use Rattle.fgb_schema.specs.Tables.{is_kind, has_points, has_rings, has_parts, part_type, kind_of, type_of, is_typed}
use Rattle.fgb_schema.specs.Paths.{Breaks, geometry_part, several, descending, wrong_end, count_in, is_listed, point_count}
use Rattle.fgb_schema.specs.Shapes.{Shape, shape, Shapes, none, shapes_of, Ordinates, no_ordinates, pairs_of, longs_in, words_in, rings_from, rings_of, parts_by, shape_at, shape_with, type_in, points_in, rings_in, ordinates_in, parts_in}
use Rattle.geometry_view.specs.declared.geometry.GeometryView.{GeometryView}
use Rattle.geometry_view.specs.declared.kind.Kind.{Kind}
use Rattle.geometry_view.specs.declared.kind.Kind.TheVariants.{Point, LineString, Polygon, MultiPoint, MultiLineString, MultiPolygon, GeometryCollection}
use Rattle.geometry_view.specs.Kinds.{number_of}
use Rattle.geometry_view.specs.Lists.{BreaksOwn, BreaksVectors, pairs, ends, ordinates}
use Rattle.geometry_view.specs.Views.{geometry_shown}
use Rattle.geometry_view.proofs.Fitting.{rings_points}
use Rattle.geometry_view.proofs.OwnLevel.{own_breaks, parts_sound}
use Rattle.geometry_view.proofs.OwnNumbers.{length-pairs, length-rings_from}
use Rattle.geometry_view.proofs.OwnShapes.{among_points}
use Rattle.geometry_view.proofs.VectorFields.{listed, listed_sound, point_clean, ring_clean, count_there, count_absent}
use Rattle.owned_shape.specs.Records.{depth, deepest, AreChained}
use Rattle.owned_shape.proofs.Chains.{chained_ends}
use Rattle.owned_shape.proofs.Parts.{parts_listed}

-- a number of a type
known_kind : (kind : Kind) → is_kind (number_of kind) ≡ true
known_kind Point = refl
known_kind LineString = refl
known_kind Polygon = refl
known_kind MultiPoint = refl
known_kind MultiLineString = refl
known_kind MultiPolygon = refl
known_kind GeometryCollection = refl

given : (k : ℕ) (b : List ℕ) (t : ℕ) → is_kind k ≡ true → kind_of k b t ≡ k
unfolding is_typed type_of
given k b t known = let some : (k == 0) ≡ false = grind (arith, nat_tests) in rw some refl

-- how many elements a vector has in a buffer that is not too long
module _ (b : List ℕ) (small : length b ≤ 268435456) where
  few : (width v : ℕ) → is_vector width b v ≡ true → width * count b v ≤ 268435456
  unfolding is_vector
  few width v sound = let room : v + 4 + width * count b v ≤ length b = grind (arith, nat_tests) in omega (arith, room, small)

  few_in : (width t f : ℕ) → (is_absent b t f ≡ false → is_vector width b (led_to b t f) ≡ true) → width * count_in b t f ≤ 268435456
  few_in width t f sound = elim (cases_Bool (is_absent b t f)) [
    | inl absent ↦ rw (count_absent b t f absent) (omega arith)
    | inr present ↦ rw (count_there b t f present) (few width (led_to b t f) (sound present))
  ]

-- the lists in the fields of a table
module _ (b : List ℕ) (t : ℕ) where
  longs_counted : (f : ℕ) → length (longs_in b t f) ≡ count_in b t f
  longs_counted f = elim (cases_Bool (is_absent b t f)) [
    | inl absent ↦ rw absent refl
    | inr present ↦ rw present (length-longs b (led_to b t f))
  ]

  points_counted : length (pairs_of (longs_in b t 1)) ≡ point_count b t
  points_counted = length-pairs (longs_in b t 1) ∙ ap (λ n. n / 2) (longs_counted 1)

  words_counted : (f : ℕ) → length (words_in b t f) ≡ count_in b t f
  words_counted f = elim (cases_Bool (is_absent b t f)) [
    | inl absent ↦ rw absent refl
    | inr present ↦ rw present (length-words b (led_to b t f))
  ]

-- ends that do not descend, the last of which is the number of points
chained_rings : (ends : List ℕ) (points : ℕ) → ((i : ℕ) → i + 1 < length ends → slice_index ends i ≤ slice_index ends (i + 1))
    → (0 < length ends → slice_index ends (length ends - 1) ≡ points) → AreChained 0 points (rings_of ends points)
chained_rings [] points up whole = elim (cases_Bool (points == 0)) [
  | inl empty ↦ rw empty (sym (eqb-true points 0 empty))
  | inr some ↦ rw some (refl, omega arith, refl)
]
chained_rings (end ∷ rest) points up whole =
    let same : length (end ∷ rest) - 1 ≡ length rest = omega arith in
    let last : slice_index (end ∷ rest) (length rest) ≡ points = ap (slice_index (end ∷ rest)) (sym same) ∙ whole (omega arith) in
    subst (λ n. AreChained 0 n (rings_from 0 (end ∷ rest))) last (chained_ends 0 end rest (omega arith) up)

few_rings_of : (ends : List ℕ) (points : ℕ) → length (rings_of ends points) ≤ length ends + 1
few_rings_of [] points = elim (cases_Bool (points == 0)) [ inl empty ↦ rw empty (omega arith) | inr some ↦ rw some (omega arith) ]
few_rings_of (end ∷ rest) points = omega (arith, length-rings_from 0 (end ∷ rest))

-- what the table of a geometry breaks by itself: nothing
module _ (k d : ℕ) (b : List ℕ) (t : ℕ) (sound : is_table b t ≡ true) (known : is_kind k ≡ true) (clean : IsClean (Breaks b (geometry_part k d t))) where
  own_clean : IsClean (BreaksOwn k b t)
  own_clean q r broken = clean q r (own_breaks k d b t sound known q r broken)

  vectors : IsClean (BreaksVectors k b t)
  vectors q r broken = own_clean q r (inl broken)

  points_listed : has_points k ≡ true → (f : ℕ) → 1 ≤ f → f ≤ 5 → is_listed 8 b t f ≡ true
  points_listed has f first last = listed 8 b t f (point_clean k b t vectors has (f, 8) (among_points f first last))

  ends_listed : has_rings k ≡ true → is_listed 4 b t 0 ≡ true
  ends_listed has = listed 4 b t 0 (ring_clean k b t vectors has)

  one_point : k ≡ 1 → has_points k ≡ true → point_count b t ≤ 1
  one_point is has = elim (cases_Bool (is_absent b t 1)) [
    | inl absent ↦ rw (count_absent b t 1 absent) (omega arith)
    | inr present ↦ elim (cases_lt 1 (count b (led_to b t 1) / 2)) [
      | inl more ↦ absurd (own_clean (led_to b t 1) PointCount (inr (pairs has present (points_listed has 1 (omega arith) (omega arith)) (several is more))))
      | inr one ↦ rw (count_there b t 1 present) one
    ]
  ]

  beside : has_points k ≡ true → (f : ℕ) → 2 ≤ f → f ≤ 5 → 0 < count_in b t f → count_in b t f ≡ point_count b t
  beside has f low high some = elim (cases_eq (count_in b t f) (point_count b t)) [
    | inl same ↦ same
    | inr other ↦ absurd (own_clean (led_to b t f) OrdinateCount (inr (ordinates f has low high (record {
      listed = points_listed has f (omega (arith, low)) high;
      beside = points_listed has 1 (omega arith) (omega arith);
      some = some;
      other = other;
      place = refl;
      rule = refl;
    }))))
  ]

  module _ (has : has_rings k ≡ true) (present : is_absent b t 0 ≡ false) where
    up : (i : ℕ) → i + 1 < length (words b (led_to b t 0)) → slice_index (words b (led_to b t 0)) i ≤ slice_index (words b (led_to b t 0)) (i + 1)
    up i early = elim (cases_lt (slice_index (words b (led_to b t 0)) (i + 1)) (slice_index (words b (led_to b t 0)) i)) [
      | inl down ↦ absurd (own_clean (led_to b t 0) Ends (inr (ends has present (descending (ends_listed has) (record { index = i; early = early; below = down })))))
      | inr level ↦ level
    ]

    last_end : 0 < length (words b (led_to b t 0)) → slice_index (words b (led_to b t 0)) (length (words b (led_to b t 0)) - 1) ≡ point_count b t
    last_end some = rw length-words (elim (cases_eq (slice_index (words b (led_to b t 0)) (count b (led_to b t 0) - 1)) (point_count b t)) [
      | inl same ↦ same
      | inr other ↦
          let size = length-words b (led_to b t 0) in
          absurd (own_clean (led_to b t 0) Ends (inr (ends has present (wrong_end (ends_listed has) (points_listed (rings_points k has) 1 (omega arith) (omega arith)) (omega (arith, size, some)) other))))
    ])

  chained_read : has_rings k ≡ true → AreChained 0 (point_count b t) (rings_of (words_in b t 0) (point_count b t))
  chained_read has = elim (cases_Bool (is_absent b t 0)) [
    | inl absent ↦ rw absent (chained_rings [] (point_count b t) (λ i early. absurd (omega (arith, early))) (λ some. absurd (omega (arith, some))))
    | inr present ↦ rw present (chained_rings (words b (led_to b t 0)) (point_count b t) (up has present) (last_end has present))
  ]

-- a shape that was read, but for the patterns of its numbers
pub record IsRead (s : Shape) : Type 0 where
  pub known : is_kind (type_in s) ≡ true
  pub single : type_in s ≡ 1 → length (points_in s) ≤ 1
  pub chained : has_rings (type_in s) ≡ true → AreChained 0 (length (points_in s)) (rings_in s)
  pub z : 0 < length (ordinates_in s).z → length (ordinates_in s).z ≡ length (points_in s)
  pub m : 0 < length (ordinates_in s).m → length (ordinates_in s).m ≡ length (points_in s)
  pub t' : 0 < length (ordinates_in s).t → length (ordinates_in s).t ≡ length (points_in s)
  pub tm : 0 < length (ordinates_in s).tm → length (ordinates_in s).tm ≡ length (points_in s)
  pub no_points : has_points (type_in s) ≡ false → (points_in s ≡ []) × (ordinates_in s ≡ no_ordinates)
  pub no_rings : has_rings (type_in s) ≡ false → rings_in s ≡ []
  pub few_points : length (points_in s) ≤ 268435456
  pub few_rings : length (rings_in s) ≤ 268435456

-- and what its parts are
pub record ArePartsRead (s : Shape) : Type 0 where
  pub polygons : type_in s ≡ 6 → All (λ part. type_in part ≡ 3) (parts_in s)
  pub no_parts : has_parts (type_in s) ≡ false → parts_in s ≡ []
  pub few_parts : length (parts_in s) ≤ 268435456

all_shown : (P : Shape → Type 0) (show : ℕ → Shape) → ((i : ℕ) → P (show i)) → (is : List ℕ) → All P (map show is)
all_shown P show each [] = All-nil P
all_shown P show each (i ∷ is) = All-cons P (show i) (map show is) (each i) (all_shown P show each is)

are_read : (kind : ℕ) (own rings : List (ℕ × ℕ)) (lists : Ordinates) (list : List Shape) → (kind ≡ 6 → All (λ part. type_in part ≡ 3) list)
    → (has_parts kind ≡ false → list ≡ []) → length list ≤ 268435456 → ArePartsRead (shape kind own rings lists (shapes_of list))
are_read kind own rings lists list polygons lacking few =
    let same = parts_listed kind own rings lists list in
    record {
      polygons = λ is. subst (All (λ part. type_in part ≡ 3)) (sym same) (polygons is);
      no_parts = λ lacks. same ∙ lacking lacks;
      few_parts = omega (arith, ap length same, few);
    }

module _ (k d : ℕ) (b : List ℕ) (t : ℕ) (sound : is_table b t ≡ true) (known : is_kind k ≡ true) (small : length b ≤ 268435456) (clean : IsClean (Breaks b (geometry_part k d t))) where
  one_list : has_points k ≡ true → (f : ℕ) → 2 ≤ f → f ≤ 5 → 0 < length (longs_in b t f) → length (longs_in b t f) ≡ length (pairs_of (longs_in b t 1))
  one_list has f low high some = rw (longs_counted b t f, points_counted b t) (beside k d b t sound known clean has f low high (rw longs_counted at some))

  few_own : has_points k ≡ true → length (pairs_of (longs_in b t 1)) ≤ 268435456
  few_own has =
      let room = few_in b small 8 t 1 (listed_sound 8 b t 1 (points_listed k d b t sound known clean has 1 (omega arith) (omega arith))) in
      omega (arith, room, points_counted b t)

  few_ends : has_rings k ≡ true → length (rings_of (words_in b t 0) (point_count b t)) ≤ 268435456
  few_ends has =
      let room = few_in b small 4 t 0 (listed_sound 4 b t 0 (ends_listed k d b t sound known clean has)) in
      omega (arith, room, words_counted b t 0, few_rings_of (words_in b t 0) (point_count b t))

  -- with any parts
  module _ (parts : Shapes) where
    with_points_read : has_points k ≡ true → IsRead (shape_with k b t parts)
    with_points_read has = record {
      known = known;
      single = λ is. rw (has, points_counted b t) (one_point k d b t sound known clean is has);
      chained = λ rings. rw (has, rings, points_counted b t) (chained_read k d b t sound known clean rings);
      z = rw has (one_list has 2 (omega arith) (omega arith));
      m = rw has (one_list has 3 (omega arith) (omega arith));
      t' = rw has (one_list has 4 (omega arith) (omega arith));
      tm = rw has (one_list has 5 (omega arith) (omega arith));
      no_points = λ lacks. absurd (cc (has, lacks));
      no_rings = λ lacks. rw lacks refl;
      few_points = rw has (few_own has);
      few_rings = elim (cases_Bool (has_rings k)) [ inl rings ↦ rw rings (few_ends rings) | inr lacks ↦ rw lacks (omega arith) ];
    }

    without_points_read : has_points k ≡ false → has_rings k ≡ false → IsRead (shape_with k b t parts)
    without_points_read has rings = rw (has, rings) (record {
      known = known;
      single = λ is. omega arith;
      chained = λ given. absurd (cc (rings, given));
      z = λ some. absurd (omega (arith, some));
      m = λ some. absurd (omega (arith, some));
      t' = λ some. absurd (omega (arith, some));
      tm = λ some. absurd (omega (arith, some));
      no_points = λ lacks. (refl, refl);
      no_rings = λ lacks. refl;
      few_points = omega arith;
      few_rings = omega arith;
    })

    own_read : IsRead (shape_with k b t parts)
    own_read = elim (cases_Bool (has_points k)) [
      | inl has ↦ with_points_read has
      | inr lacks ↦ elim (cases_Bool (has_rings k)) [
        | inl rings ↦ absurd (cc (rings_points k rings, lacks))
        | inr others ↦ without_points_read lacks others
      ]
    ]

  pub shape_read : (levels : ℕ) → IsRead (shape_at levels k b t)
  unfolding shape_at
  shape_read zero = rw (given k b t known) (own_read none)
  shape_read (suc levels) = rw (given k b t known) (own_read (if has_parts k then parts_by (shape_at levels (part_type k) b) b t else none))

  -- its parts
  type_read : (levels : ℕ) (s : List ℕ) (p o : ℕ) → is_kind o ≡ true → type_in (shape_at levels o s p) ≡ o
  unfolding shape_at
  type_read zero s p o is = given o s p is
  type_read (suc levels) s p o is = given o s p is

  parts_with : (levels : ℕ) → ArePartsRead (shape_with k b t (if has_parts k then parts_by (shape_at levels (part_type k) b) b t else none))
  parts_with levels = elim (cases_Bool (has_parts k)) [
    | inl has ↦
        let show : ℕ → Shape = λ i. shape_at levels (part_type k) b (target b (entry_place b (led_to b t 7) i)) in
        let list : List Shape = map show (range_with_len 0 (count_in b t 7)) in
        let room = few_in b small 4 t 7 (parts_sound k d b t sound known (vectors k d b t sound known clean) has) in
        rw has (are_read k _ _ _ list
        (λ is. all_shown (λ part. type_in part ≡ 3) show (λ i. subst (λ o. type_in (shape_at levels (part_type o) b (target b (entry_place b (led_to b t 7) i))) ≡ 3) (sym is) (type_read levels b (target b (entry_place b (led_to b t 7) i)) 3 refl)) (range_with_len 0 (count_in b t 7)))
        (λ lacks. absurd (cc (has, lacks)))
        (omega (arith, room, length-map-range_with_len show 0 (count_in b t 7))))
    | inr lacks ↦ rw lacks (record { polygons = λ is. All-nil (λ part. type_in part ≡ 3); no_parts = λ _. refl; few_parts = omega arith })
  ]

  pub parts_read : (levels : ℕ) → ArePartsRead (shape_at levels k b t)
  unfolding shape_at
  parts_read zero = rw (given k b t known) (record { polygons = λ is. All-nil (λ part. type_in part ≡ 3); no_parts = λ _. refl; few_parts = omega arith })
  parts_read (suc levels) = rw (given k b t known) (parts_with levels)

-- how deep it is
deepest_of : (n : ℕ) (show : ℕ → Shape) → ((i : ℕ) → depth (show i) ≤ n) → (is : List ℕ) → deepest (shapes_of (map show is)) ≤ n
deepest_of n show each [] = omega arith
deepest_of n show each (i ∷ is) = omega (arith, each i, deepest_of n show each is)

depth_read : (levels outer : ℕ) (b : List ℕ) (t : ℕ) → depth (shape_at levels outer b t) ≤ levels + 1
unfolding shape_at
depth_read zero outer b t = omega arith
depth_read (suc levels) outer b t = elim (cases_Bool (has_parts (kind_of outer b t))) [
  | inl has ↦ rw has (omega (arith, deepest_of (levels + 1) (λ i. shape_at levels (part_type (kind_of outer b t)) b (target b (entry_place b (led_to b t 7) i))) (λ i. depth_read levels (part_type (kind_of outer b t)) b (target b (entry_place b (led_to b t 7) i))) (range_with_len 0 (count_in b t 7))))
  | inr lacks ↦ rw lacks (omega arith)
]

module _ (g : GeometryView) where
  pub view_read : IsRead (geometry_shown g)
  view_read = shape_read (number_of g.kind) g.depth (bytes_of g.table) (place_of g.table) g.table.sound (known_kind g.kind) g.table.buf.small g.clean (16 - g.depth)

  pub view_parts_read : ArePartsRead (geometry_shown g)
  view_parts_read = parts_read (number_of g.kind) g.depth (bytes_of g.table) (place_of g.table) g.table.sound (known_kind g.kind) g.table.buf.small g.clean (16 - g.depth)

  pub view_shallow : depth (geometry_shown g) ≤ 16
  view_shallow = let deep : 1 ≤ g.depth = g.deep in omega (arith, deep, depth_read (16 - g.depth) (number_of g.kind) (bytes_of g.table) (place_of g.table))
