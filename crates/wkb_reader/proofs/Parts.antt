-- Values that are members of others, taken one after another.
use Rattle.std.proofs.Common.{◌≡◌, inl, inr, ℕ, ◌+◌, ◌*◌, ◌==◌, ◌<◌, ◌≤◌, ◌^◌, false, true, IsTrue, List, [], ◌∷◌, ◌++◌, length, map, refl, sym, ap, ap₂, subst, ◌∙◌, arith, length-append}
use Rattle.std.specs.List.{All, AllByRecursion, concat, flat_map}
use Rattle.std.proofs.lemmas.Bool.{both_ways, false≢true, not-true}
use Rattle.std.proofs.lemmas.Bool.Decides.{nat_tests}
use Rattle.std.proofs.lemmas.List.{length-map, map_push}
use Rattle.std.proofs.lemmas.List.Elements.{All-cons, All-map, All-nil, All-weaker, recursion_from_All}
use Rattle.flat_layout.specs.declared.Rule.{Rule}
use Rattle.fgb_schema.specs.Shapes.{Shape, shape, more, no_ordinates, parts_in, shapes_of, type_in}
use Rattle.fgb_schema.specs.Tables.{has_parts}
use Rattle.owned_shape.specs.Puts.{takes_part, with_part}
use Rattle.owned_shape.proofs.Parts.{parts_listed}
use Rattle.wkb_writer.specs.declared.dialect.Dialect.{Dialect}
use Rattle.wkb_writer.specs.declared.dimension.Dimension.{Dimension}
use Rattle.wkb_writer.specs.declared.error.WkbError.{WkbError}
use Rattle.wkb_grammar.specs.Grammar.{Order, Body, kind_in, IsBody, Value, value, point, line, polygon, multi, AreIn, AreMembers, IsIn, IsPosition, is_nowhere, body_in, bytes_of, counted_in, each_bytes, is_member, is_multi, number_bytes, IsValue}
use Rattle.wkb_grammar.specs.ShapesShown.{joined, positions_in, positions_of_each, shape_of, shape_of_body, shapes_in}
use Rattle.wkb_grammar.proofs.Heads.{multi_kind}
use Rattle.wkb_grammar.proofs.Forms.{are_members}
use Rattle.wkb_grammar.proofs.Spelling.{values_of}
use Rattle.wkb_grammar.proofs.Sizes.{value_long}
use Rattle.wkb_grammar.proofs.Told.{concat-map}
use Rattle.wkb_reader.specs.declared.cursor.Cursor.{Cursor}
use Rattle.wkb_reader.specs.Broken.{BreaksBody, BreaksValue, IsMember, in_member, level_below, member_of, no_members, takes_kind}
use Rattle.wkb_reader.specs.Cursors.{Passes, TakesEach}
use Rattle.wkb_reader.specs.Heads.{Stands, TakesBody}
use Rattle.wkb_reader.specs.Refusals.{IsCut, cut_item, Refuses}
use Rattle.wkb_reader.proofs.Loops.{far, passed_all}
use Rattle.wkb_reader.proofs.Passing.{carry, turned}
use Rattle.wkb_reader.proofs.Rings.{all_joined, joined_more}

-- what a list of members is to the values of a body
each_of : (members : List Value) → each_bytes (values_of members) ≡ map bytes_of members
each_of [] = refl
each_of (first ∷ rest) = ap (λ things. bytes_of first ∷ things) (each_of rest)

pub positions_of_list : (members : List Value) → positions_of_each (values_of members) ≡ map positions_in members
positions_of_list [] = refl
positions_of_list (first ∷ rest) = ap (λ things. positions_in first ∷ things) (positions_of_list rest)

are_list : (dialect : Dialect) (level kind : ℕ) (d : Dimension) (members : List Value) → All (IsMember dialect level kind d) members → AreMembers kind d (values_of members)
are_list dialect level kind d members all =
    let Fits : Value → Type 0 = λ v. IsTrue (is_member kind (body_in v)) × IsValue d v in
    are_members kind d members (recursion_from_All Fits members (All-weaker (IsMember dialect level kind d) Fits (λ v is. (is.fits, is.is)) members all))

all_speak : (dialect : Dialect) (level kind : ℕ) (d : Dimension) (members : List Value) → All (IsMember dialect level kind d) members → AreIn dialect (values_of members)
all_speak dialect level kind d members all =
    each members (recursion_from_All (IsIn dialect) members (All-weaker (IsMember dialect level kind d) (IsIn dialect) (λ v is. is.speaks) members all))
  where
    each : (members : List Value) → AllByRecursion (IsIn dialect) members → AreIn dialect (values_of members)
    each [] are = tt
    each (first ∷ rest) are = (are.0, each rest are.1)

-- the points that members give to the value
pub points_of_point : (dialect : Dialect) (level : ℕ) (d : Dimension) (v : Value) → IsMember dialect level 4 d v → All (IsPosition d) (positions_in v)
points_of_point dialect level d (value o own (point p)) m =
    elim m.is.1 [
      | inl position ↦ All-cons (IsPosition d) p [] position (All-nil (IsPosition d))
      | inr empty ↦ absurd (both_ways (is_nowhere p) (not-true (is_nowhere p) m.fits) empty.1)
    ]
points_of_point dialect level d (value o own (line ps)) m = absurd (false≢true m.fits)
points_of_point dialect level d (value o own (polygon rings)) m = absurd (false≢true m.fits)
points_of_point dialect level d (value o own (multi kind members)) m = absurd (false≢true m.fits)

pub points_of_line : (dialect : Dialect) (level : ℕ) (d : Dimension) (v : Value) → IsMember dialect level 5 d v → All (IsPosition d) (positions_in v)
points_of_line dialect level d (value o own (point p)) m = absurd (false≢true m.fits)
points_of_line dialect level d (value o own (line ps)) m = m.is.1.0
points_of_line dialect level d (value o own (polygon rings)) m = absurd (false≢true m.fits)
points_of_line dialect level d (value o own (multi kind members)) m = absurd (false≢true m.fits)

pub all_points : (dialect : Dialect) (level kind : ℕ) (d : Dimension) → ((v : Value) → IsMember dialect level kind d v → All (IsPosition d) (positions_in v)) → (members : List Value) → All (IsMember dialect level kind d) members
    → All (IsPosition d) (joined (map positions_in members))
all_points dialect level kind d each members all =
    all_joined d (map positions_in members)
    (All-map (λ ps. All (IsPosition d) ps) positions_in members (All-weaker (IsMember dialect level kind d) (λ v. All (IsPosition d) (positions_in v)) each members all))

pub points_more : (members : List Value) (v : Value) → joined (map positions_in (members ++ v ∷ [])) ≡ joined (map positions_in members) ++ positions_in v
points_more members v = ap joined (map_push positions_in members v) ∙ joined_more (map positions_in members) (positions_in v)

-- how many bytes members have at least
pub members_bytes : (members : List Value) → 4 * length (map positions_in members) + 16 * length (joined (map positions_in members)) ≤ length (flat_map bytes_of members)
members_bytes [] = omega arith
members_bytes (v ∷ rest) =
    omega (arith, members_bytes rest, value_long v, length-append (bytes_of v) (flat_map bytes_of rest), length-append (positions_in v) (joined (map positions_in rest)))

-- bytes that end inside the count
pub members_cut : (dialect : Dialect) (order : Order) (level kind : ℕ) (d : Dimension) → IsTrue (is_multi kind) → (e : WkbError) (start : ℕ) (b : List ℕ) → Refuses start (IsCut 4 b) e
    → Refuses start (BreaksBody dialect level order kind d b) e
members_cut dialect order level kind d several e start b told = turned e start (IsCut 4 b) (BreaksBody dialect level order kind d b) (λ q r broken. no_number q r broken) told
  where
    no_number : (q : ℕ) (r : Rule) → IsCut 4 b q r → BreaksBody dialect level order kind d b q r
    no_number q r (cut_item short) = no_members several short

body_is : (d : Dimension) (v : Value) → IsValue d v → IsBody d (body_in v)
body_is d (value o own body) is = is.1

module _ (dialect : Dialect) (order : Order) (level kind : ℕ) (d : Dimension) (several : IsTrue (is_multi kind)) (count i : ℕ) (start a b : Cursor) (Shows : List Value → Type 0) (small : count < 2 ^ 32)
    (front : Passes start a (number_bytes order 4 count)) (each : TakesEach i a b bytes_of (IsMember dialect (level_below level kind) kind d) Shows) where
  pub member_fails : (e : WkbError) → i < count → Refuses b.at (BreaksValue dialect (level_below level kind) (member_of kind d) b.rest.now) e → Refuses start.at (BreaksBody dialect level order kind d start.rest.now) e
  member_fails e early told =
      let Is = IsMember dialect (level_below level kind) kind d in
      carry e start.at b.at (4 + length (flat_map bytes_of each.taken)) (BreaksValue dialect (level_below level kind) (member_of kind d) b.rest.now) (BreaksBody dialect level order kind d start.rest.now)
      (far bytes_of Is order count i start a b Shows small front each)
      (λ q r broken. in_member several count each.taken b.rest.now small (passed_all bytes_of Is order count i start a b Shows small front each).stood (omega (arith, early, each.is.1)) each.is.0 broken) told

  pub members_taken : (s : Shape) → i ≡ count → ((members : List Value) → All (IsMember dialect (level_below level kind) kind d) members → Shows members → s ≡ shape_of_body d (multi kind (values_of members)))
      → TakesBody dialect start b order kind d s
  members_taken s whole shown =
      let Is = IsMember dialect (level_below level kind) kind d in
      let members = each.taken in
      let many : length (each_bytes (values_of members)) ≡ length members = ap length (each_of members) ∙ length-map members bytes_of in
      let same : number_bytes order 4 count ++ flat_map bytes_of members ≡ counted_in order (each_bytes (values_of members)) =
      ap₂ (λ n xs. number_bytes order 4 n ++ xs) (omega (arith, whole, each.is.1, many)) (sym (ap concat (each_of members) ∙ concat-map bytes_of members)) in
      record {
        taken = multi kind (values_of members);
        is = record {
          is = (several, are_list dialect (level_below level kind) kind d members each.is.0, omega (arith, small, whole, each.is.1, many));
          speaks = all_speak dialect (level_below level kind) kind d members each.is.0;
          same = refl;
        };
        passed = subst (Passes start b) same (passed_all bytes_of Is order count i start a b Shows small front each);
        shown = shown members each.is.0 each.shown;
      }

-- kinds whose members are parts
module _ (kind : ℕ) (parted : has_parts kind ≡ true) where
  pub parted_multi : IsTrue (is_multi kind)
  parted_multi = grind (arith, nat_tests)

  pub parted_level : (level : ℕ) → level_below level kind ≡ level + 1
  parted_level level = grind (arith, nat_tests)

  part_fits : (d : Dimension) (body : Body) → IsBody d body → IsTrue (takes_kind kind (kind_in body)) → IsTrue (is_member kind body)
  part_fits d (point p) is takes = grind (arith, nat_tests)
  part_fits d (line ps) is takes = grind (arith, nat_tests)
  part_fits d (polygon rings) is takes = grind (arith, nat_tests)
  part_fits d (multi inner members) is takes =
      let known = multi_kind inner is.0 in
      grind (arith, nat_tests)

  -- a value that may stand as a part is a member
  pub part_member : (dialect : Dialect) (level : ℕ) (d : Dimension) (v : Value) → Stands dialect (level + 1) (member_of kind d) v → IsMember dialect (level_below level kind) kind d v
  part_member dialect level d v stands =
      let is : IsValue d v = subst (λ e. IsValue e v) stands.suits.1 stands.is in
      record {
        is = is;
        speaks = stands.speaks;
        fits = part_fits d (body_in v) (body_is d v is) stands.suits.0;
        shallow = omega (arith, stands.shallow, parted_level level);
      }

  part_type : (dialect : Dialect) (level : ℕ) (d : Dimension) (v : Value) → IsMember dialect level kind d v → IsTrue (takes_part kind (type_in (shape_of v)))
  part_type dialect level d (value o own (point p)) m = let fits = m.fits in grind (arith, nat_tests)
  part_type dialect level d (value o own (line ps)) m = let fits = m.fits in grind (arith, nat_tests)
  part_type dialect level d (value o own (polygon rings)) m = let fits = m.fits in grind (arith, nat_tests)
  part_type dialect level d (value o own (multi inner members)) m = let fits = m.fits in grind (arith, nat_tests)

  -- a shape of this kind with these parts
  abbrev with_parts : List Value → Shape
  with_parts members = shape kind [] [] no_ordinates (shapes_of (map shape_of members))

  pub parts_shown : (d : Dimension) (members : List Value) → with_parts members ≡ shape_of_body d (multi kind (values_of members))
  parts_shown d members =
      let four : (kind == 4) ≡ false = grind (arith, nat_tests) in
      let five : (kind == 5) ≡ false = grind (arith, nat_tests) in
      rw (four, five) (ap (shape kind [] [] no_ordinates) (listed members))
    where
      listed : (members : List Value) → shapes_of (map shape_of members) ≡ shapes_in (values_of members)
      listed [] = refl
      listed (first ∷ rest) = ap (more (shape_of first)) (listed rest)

  -- one part more
  module _ (s part : Shape) (members : List Value) (v : Value) (has : s ≡ with_parts members) (is : part ≡ shape_of v) where
    pub part_suits : (dialect : Dialect) (level : ℕ) (d : Dimension) → IsMember dialect level kind d v → IsTrue (takes_part (type_in s) (type_in part))
    part_suits dialect level d m =
        subst (λ t. IsTrue (takes_part (type_in t) (type_in part))) (sym has) (subst (λ t. IsTrue (takes_part kind (type_in t))) (sym is) (part_type dialect level d v m))

    pub one_part_more : (t : Shape) → t ≡ with_part s part → t ≡ with_parts (members ++ v ∷ [])
    one_part_more t put =
        put ∙ ap (λ u. with_part u part) has
        ∙ ap (λ parts. shape kind [] [] no_ordinates (shapes_of (parts ++ part ∷ []))) (parts_listed kind [] [] no_ordinates (map shape_of members))
        ∙ ap (λ p. shape kind [] [] no_ordinates (shapes_of (map shape_of members ++ p ∷ []))) is
        ∙ ap (λ parts. shape kind [] [] no_ordinates (shapes_of parts)) (sym (map_push shape_of members v))

  pub parts_few : (s : Shape) (members : List Value) → s ≡ with_parts members → 4 * length (parts_in s) ≤ length (flat_map bytes_of members)
  parts_few s members has =
      omega (
        arith,
        ap (λ t. length (parts_in t)) has,
        ap length (parts_listed kind [] [] no_ordinates (map shape_of members)),
        length-map members shape_of,
        length-map members positions_in,
        members_bytes members,
      )
