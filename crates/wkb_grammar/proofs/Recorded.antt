-- The shape of a value that is not too long is that of a record.
use Rattle.std.proofs.Common.{◌≡◌, inl, inr, ℕ, zero, suc, ◌^◌, ◌≤◌, ◌<◌, Bool, true, false, IsTrue, List, [], ◌∷◌, length, if◌then◌else◌, refl, sym, ap, subst, arith, length-append}
use Rattle.std.specs.List.{All, AllByRecursion, concat}
use Rattle.std.proofs.lemmas.Bool.{false≢true, both_ways, not-true}
use Rattle.std.proofs.lemmas.Bool.Decides.{nat_tests}
use Rattle.std.proofs.lemmas.List.Elements.{All-nil, All-cons, All-append, recursion_from_All}
use Rattle.fgb_schema.specs.Tables.{is_kind, has_points, has_rings, has_parts}
use Rattle.fgb_schema.specs.Shapes.{Shape, shape, no_ordinates, type_in, parts_in}
use Rattle.owned_shape.specs.Records.{depth, IsPoint, IsBeside, IsLevel, IsSound, AreSound, IsRecord}
use Rattle.wkb_writer.specs.declared.dialect.Dialect.{Dialect}
use Rattle.wkb_writer.specs.declared.dialect.Dialect.TheVariants.{Iso}
use Rattle.wkb_writer.specs.declared.dimension.Dimension.{Dimension}
use Rattle.wkb_grammar.specs.Grammar.{Spelling, Position, Value, value, point, line, polygon, multi, Values, nothing, also, body_in, bytes_of, each_bytes, is_nowhere, IsPosition, IsLine, is_multi, is_member, IsValue, IsBody, AreMembers}
use Rattle.wkb_grammar.specs.ShapesShown.{shape_of_points, rings_along, joined, positions_in, positions_of_each, shape_of, shapes_in}
use Rattle.wkb_grammar.specs.Wkb.{IsValueOf, Wkb, most_bytes}
use Rattle.wkb_grammar.proofs.Sizes.{length-value, line_long, polygon_long, members_inside, members_long, length-positions_of_each}
use Rattle.wkb_grammar.proofs.Levels.{level_with_points, lines_chained, length-rings_along}

-- what holds at each kind of a value with members
by_multi : (P : ℕ → Type 0) → P 4 → P 5 → P 6 → P 7 → (kind : ℕ) → IsTrue (is_multi kind) → P kind
by_multi P a b c d zero is = absurd (grind (arith, nat_tests))
by_multi P a b c d (suc zero) is = absurd (false≢true is)
by_multi P a b c d (suc (suc zero)) is = absurd (false≢true is)
by_multi P a b c d (suc (suc (suc zero))) is = absurd (false≢true is)
by_multi P a b c d (suc (suc (suc (suc zero)))) is = a
by_multi P a b c d (suc (suc (suc (suc (suc zero))))) is = b
by_multi P a b c d (suc (suc (suc (suc (suc (suc zero)))))) is = c
by_multi P a b c d (suc (suc (suc (suc (suc (suc (suc zero))))))) is = d
by_multi P a b c d (suc (suc (suc (suc (suc (suc (suc (suc kind)))))))) is = absurd (grind (arith, nat_tests))

-- a point that is somewhere has a finite x and y
somewhere_is : (d : Dimension) (p : Position) → IsBody d (point p) → is_nowhere p ≡ false → IsPosition d p
somewhere_is d p is apart = elim is [ inl position ↦ position | inr empty ↦ absurd (both_ways (is_nowhere p) apart empty.1) ]

-- the points of a Point
point_points : (d : Dimension) (p : Position) (nowhere : Bool) → is_nowhere p ≡ nowhere → IsBody d (point p) → IsLevel (shape_of_points 1 d (if nowhere then [] else p ∷ []) [])
point_points d p true told is = level_with_points d 1 [] [] (record {
  known = refl;
  pointed = refl;
  all = All-nil (IsPosition d);
  single = λ one. omega arith;
  chained = λ has. absurd (false≢true has);
  no_rings = λ has. refl;
  few_points = omega arith;
  few_rings = omega arith;
})
point_points d p false told is = level_with_points d 1 (p ∷ []) [] (record {
  known = refl;
  pointed = refl;
  all = All-cons (IsPosition d) p [] (somewhere_is d p is told) (All-nil (IsPosition d));
  single = λ one. omega arith;
  chained = λ has. absurd (false≢true has);
  no_rings = λ has. refl;
  few_points = omega arith;
  few_rings = omega arith;
})

line_level : (d : Dimension) (ps : List Position) → IsLine d ps → length ps ≤ most_bytes → IsLevel (shape_of_points 2 d ps [])
line_level d ps is few = level_with_points d 2 ps [] (record {
  known = refl;
  pointed = refl;
  all = is.0;
  single = λ one. absurd (omega arith);
  chained = λ has. absurd (false≢true has);
  no_rings = λ has. refl;
  few_points = few;
  few_rings = omega arith;
})

-- the points of lines
joined_are : (d : Dimension) (lines : List (List Position)) → AllByRecursion (IsLine d) lines → All (IsPosition d) (joined lines)
joined_are d [] is = All-nil (IsPosition d)
joined_are d (ps ∷ lines) is = All-append (IsPosition d) ps (joined lines) is.0.0 (joined_are d lines is.1)

polygon_level : (d : Dimension) (lines : List (List Position)) → AllByRecursion (IsLine d) lines → length lines ≤ most_bytes → length (joined lines) ≤ most_bytes
    → IsLevel (shape_of_points 3 d (joined lines) (rings_along 0 lines))
polygon_level d lines is few_lines few_points = level_with_points d 3 (joined lines) (rings_along 0 lines) (record {
  known = refl;
  pointed = refl;
  all = joined_are d lines is;
  single = λ one. absurd (omega arith);
  chained = λ has. lines_chained lines;
  no_rings = λ has. absurd (false≢true (sym has));
  few_points = few_points;
  few_rings = omega (arith, few_lines, length-rings_along 0 lines);
})

lines_level : (d : Dimension) (lines : List (List Position)) → AllByRecursion (IsLine d) lines → length lines ≤ most_bytes → length (joined lines) ≤ most_bytes
    → IsLevel (shape_of_points 5 d (joined lines) (rings_along 0 lines))
lines_level d lines is few_lines few_points = level_with_points d 5 (joined lines) (rings_along 0 lines) (record {
  known = refl;
  pointed = refl;
  all = joined_are d lines is;
  single = λ one. absurd (omega arith);
  chained = λ has. lines_chained lines;
  no_rings = λ has. absurd (false≢true (sym has));
  few_points = few_points;
  few_rings = omega (arith, few_lines, length-rings_along 0 lines);
})

points_level : (d : Dimension) (ps : List Position) → All (IsPosition d) ps → length ps ≤ most_bytes → IsLevel (shape_of_points 4 d ps [])
points_level d ps is few = level_with_points d 4 ps [] (record {
  known = refl;
  pointed = refl;
  all = is;
  single = λ one. absurd (omega arith);
  chained = λ has. absurd (false≢true has);
  no_rings = λ has. refl;
  few_points = few;
  few_rings = omega arith;
})

-- what the members of a MultiPoint, of a MultiLineString and of a MultiPolygon are
point_member : (d : Dimension) (v : Value) → IsTrue (is_member 4 (body_in v)) → IsValue d v → All (IsPosition d) (positions_in v)
point_member d (value o own (point p)) member is =
    All-cons (IsPosition d) p [] (somewhere_is d p is.1 (not-true (is_nowhere p) member)) (All-nil (IsPosition d))
point_member d (value o own (line ps)) member is = absurd (false≢true member)
point_member d (value o own (polygon rings)) member is = absurd (false≢true member)
point_member d (value o own (multi kind members)) member is = absurd (false≢true member)

line_member : (d : Dimension) (v : Value) → IsTrue (is_member 5 (body_in v)) → IsValue d v → IsLine d (positions_in v)
line_member d (value o own (point p)) member is = absurd (false≢true member)
line_member d (value o own (line ps)) member is = is.1
line_member d (value o own (polygon rings)) member is = absurd (false≢true member)
line_member d (value o own (multi kind members)) member is = absurd (false≢true member)

polygon_member : (v : Value) → IsTrue (is_member 6 (body_in v)) → type_in (shape_of v) ≡ 3
polygon_member (value o own (point p)) member = absurd (false≢true member)
polygon_member (value o own (line ps)) member = absurd (false≢true member)
polygon_member (value o own (polygon rings)) member = refl
polygon_member (value o own (multi kind members)) member = absurd (false≢true member)

point_members : (d : Dimension) (members : Values) → AreMembers 4 d members → All (IsPosition d) (joined (positions_of_each members))
point_members d nothing is = All-nil (IsPosition d)
point_members d (also first rest) is =
    All-append (IsPosition d) (positions_in first) (joined (positions_of_each rest)) (point_member d first is.0 is.1) (point_members d rest is.2)

line_members : (d : Dimension) (members : Values) → AreMembers 5 d members → AllByRecursion (IsLine d) (positions_of_each members)
line_members d nothing is = tt
line_members d (also first rest) is = (line_member d first is.0 is.1, line_members d rest is.2)

polygon_members : (d : Dimension) (kind : ℕ) (members : Values) → AreMembers 6 d members → All (λ part. type_in part ≡ 3) (parts_in (shape kind [] [] no_ordinates (shapes_in members)))
polygon_members d kind nothing is = All-nil (λ (part : Shape). type_in part ≡ 3)
polygon_members d kind (also first rest) is =
    All-cons (λ part. type_in part ≡ 3) (shape_of first) (parts_in (shape kind [] [] no_ordinates (shapes_in rest))) (polygon_member first is.0) (polygon_members d kind rest is.2)

length-parts : (kind : ℕ) (members : Values) → length (parts_in (shape kind [] [] no_ordinates (shapes_in members))) ≡ length (each_bytes members)
length-parts kind nothing = refl
length-parts kind (also first rest) = ap suc (length-parts kind rest)

no_list : IsBeside 0 []
no_list = ((λ some. absurd (omega (arith, some))), All-nil (λ x. x < 2 ^ 64))

-- a level with parts alone
parts_level : (kind : ℕ) (members : Values) → IsTrue (is_kind kind) → has_points kind ≡ false → has_rings kind ≡ false → has_parts kind ≡ true → (kind ≡ 1 → ⊥)
    → (kind ≡ 6 → All (λ part. type_in part ≡ 3) (parts_in (shape kind [] [] no_ordinates (shapes_in members)))) → length (each_bytes members) ≤ most_bytes
    → IsLevel (shape kind [] [] no_ordinates (shapes_in members))
parts_level kind members known pointless ringless parted several polygons few = record {
  known = known;
  points = All-nil IsPoint;
  single = λ one. absurd (several one);
  chained = λ has. absurd (both_ways (has_rings kind) ringless has);
  z = no_list;
  m = no_list;
  t' = no_list;
  tm = no_list;
  polygons = polygons;
  no_points = λ has. (refl, refl);
  no_rings = λ has. refl;
  no_parts = λ has. absurd (both_ways (has_parts kind) has parted);
  few_points = omega arith;
  few_rings = omega arith;
  few_parts = omega (arith, few, length-parts kind members);
}

-- a value with members, whose shapes are sound
multi_sound : (o : Spelling) (d : Dimension) (members : Values) (kind : ℕ) → IsTrue (is_multi kind) → AreMembers kind d members → length (concat (each_bytes members)) ≤ most_bytes
    → AreSound (shapes_in members) → IsSound (shape_of (value o d (multi kind members)))
multi_sound o d members kind is all few sound =
    let long = members_long members in
    let lines = length-positions_of_each members in
    by_multi (λ k. AreMembers k d members → IsSound (shape_of (value o d (multi k members))))
    (λ points. (points_level d (joined (positions_of_each members)) (point_members d members points) (omega (arith, long, few)), tt))
    (λ each. (lines_level d (positions_of_each members) (line_members d members each) (omega (arith, long, few, lines)) (omega (arith, long, few)), tt))
    (λ polygons. (parts_level 6 members refl refl refl refl (λ one. absurd (omega (arith, one))) (λ six. polygon_members d 6 members polygons) (omega (arith, long, few)), sound))
    (λ any. (parts_level 7 members refl refl refl refl (λ one. absurd (omega (arith, one))) (λ six. absurd (omega (arith, six))) (omega (arith, long, few)), sound))
    kind is all

mutual
  value_sound : (d : Dimension) (v : Value) → IsValue d v → length (bytes_of v) ≤ most_bytes → IsSound (shape_of v)
  value_sound d (value o own (point p)) is small = (point_points own p (is_nowhere p) refl (subst (λ e. IsBody e (point p)) (sym is.0) is.1), tt)
  value_sound d (value o own (line ps)) is small =
      (line_level own ps (subst (λ e. IsLine e ps) (sym is.0) is.1) (omega (arith, small, length-value o own (line ps), line_long o.order ps)), tt)
  value_sound d (value o own (polygon rings)) is small =
      let lines = recursion_from_All (IsLine own) rings (subst (λ e. IsBody e (polygon rings)) (sym is.0) is.1).0 in
      let long = polygon_long o.order rings in
      let whole = length-value o own (polygon rings) in
      (polygon_level own rings lines (omega (arith, small, whole, long)) (omega (arith, small, whole, long)), tt)
  value_sound d (value o own (multi kind members)) is small =
      let few : length (concat (each_bytes members)) ≤ most_bytes = omega (arith, small, length-value o own (multi kind members), members_inside o.order kind members) in
      multi_sound o own members kind is.1.0 (subst (λ e. AreMembers kind e members) (sym is.0) is.1.1) few (members_sound d kind members is.1.1 few)

  members_sound : (d : Dimension) (kind : ℕ) (members : Values) → AreMembers kind d members → length (concat (each_bytes members)) ≤ most_bytes → AreSound (shapes_in members)
  members_sound d kind nothing is small = tt
  members_sound d kind (also first rest) is small =
      let both = length-append (bytes_of first) (concat (each_bytes rest)) in
      (value_sound d first is.1 (omega (arith, small, both)), members_sound d kind rest is.2 (omega (arith, small, both)))

-- the shape of a value of at most 16 levels that is not too long is a record's
pub value_is_record : (d : Dimension) (v : Value) → IsValue d v → depth (shape_of v) ≤ 16 → length (bytes_of v) ≤ most_bytes → IsRecord (shape_of v)
value_is_record d v is shallow small = record { sound = value_sound d v is small; shallow = shallow }

-- and so is every shape of which some bytes are a value
pub shape_is_record : (dialect : Dialect) (g : Shape) (bytes : List ℕ) → IsValueOf dialect g bytes → IsRecord g
shape_is_record dialect g bytes w =
    let shallow : depth (shape_of w.spelled) ≤ 16 = subst (λ s. depth s ≤ 16) w.shown w.shallow in
    let small : length (bytes_of w.spelled) ≤ most_bytes = subst (λ l. length l ≤ most_bytes) w.spells w.small in
    subst IsRecord (sym w.shown) (value_is_record w.dimension w.spelled w.is shallow small)

pub wkb_is_record : (g : Shape) (bytes : List ℕ) → Wkb g bytes → IsRecord g
wkb_is_record g bytes w = shape_is_record Iso g bytes w
