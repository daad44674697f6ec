-- Bytes in which an item breaks a rule begin with no value.
use Rattle.std.proofs.Common.{◌≡◌, inl, inr, ℕ, ◌+◌, ◌*◌, ◌<◌, ◌≤◌, ◌^◌, ◌==◌, ◌&&◌, Bool, false, true, IsTrue, Option, Some, None, List, [], ◌∷◌, ◌++◌, length, map, drop, get_or, refl, sym, ap, subst, ◌∙◌, append_assoc, arith, length-append}
use Rattle.std.specs.List.{All, concat, flat_map}
use Rattle.std.proofs.lemmas.Bool.{both_ways, cases_lt, not-true}
use Rattle.std.proofs.lemmas.Bool.Decides.{nat_tests}
use Rattle.std.proofs.lemmas.List.{length-map}
use Rattle.std.proofs.lemmas.List.Elements.{All-nil, All-cons, All-head, All-tail}
use Rattle.flat_layout.specs.declared.Rule.{Rule}
use Rattle.order_keys.specs.Keys.{is_finite}
use Rattle.fgb_schema.specs.Shapes.{Shape, shape}
use Rattle.owned_shape.specs.Records.{depth, deepest}
use Rattle.wkb_writer.specs.declared.dialect.Dialect.{Dialect}
use Rattle.wkb_writer.specs.declared.dimension.Dimension.{Dimension}
use Rattle.wkb_grammar.specs.Grammar.{Order, big, little, Spelling, Position, Value, value, Body, point, line, polygon, multi, Values, also, nothing, AreCounted, AreIn, AreMembers, IsBody, IsBodyIn, IsIn, IsLine, IsPosition, IsSpelled, IsValue, beside_of, body_bytes, body_in, bytes_of, counted_in, each_bytes, has_srid, head_in, srid_bytes, srid_in, type_in, is_member, is_multi, is_nowhere, kind_in, line_bytes_in, number_bytes, order_byte, ordinates_of, position_bytes}
use Rattle.wkb_grammar.specs.ShapesShown.{shape_of, shape_of_body, shapes_in}
use Rattle.wkb_grammar.specs.Wkb.{IsValueOf}
use Rattle.wkb_grammar.proofs.Apart.{line_told, position_told, values_are_told_apart}
use Rattle.wkb_grammar.proofs.Forms.{begins_as}
use Rattle.wkb_grammar.proofs.Heads.{head_told, kind_known, multi_kind, same_dimension, same_order, type_low}
use Rattle.wkb_grammar.proofs.Sizes.{length-number, length-value}
use Rattle.wkb_grammar.proofs.Told.{IsTold, concat-map, number_told, told_weaker}
use Rattle.wkb_reader.proofs.Types.{is_kind_of, kind_in_range}
use Rattle.wkb_reader.specs.Broken.{BreaksBody, BreaksCounted, BreaksFinite, BreaksHead, BreaksLine, BreaksPosition, BreaksValue, IsHeadOf, IsMember, Misfits, Standing, alone, member_of, deepest_level, level_below, takes_kind, bad_x, bad_y, cut, not_finite, no_count, in_thing, no_order, other_order, too_deep, no_type, other_type, misfit, no_srid, other_kind, other_dimension, in_head, empty_member, in_body, in_point, in_line, in_polygon, no_members, in_member}

-- the ordinates of a point
length-ordinates : (o : Order) (xs : List ℕ) → length (flat_map (number_bytes o 8) xs) ≡ 8 * length xs
length-ordinates o [] = refl
length-ordinates o (x ∷ xs) = omega (arith, length-append (number_bytes o 8 x) (flat_map (number_bytes o 8) xs), length-number o 8 x, length-ordinates o xs)

length-position : (o : Order) (d : Dimension) (p : Position) → IsSpelled d p → length (position_bytes o p) ≡ 8 * (2 + beside_of d)
length-position o d p is = omega (arith, length-ordinates o (ordinates_of p), is.enough)

not_both : (x : ℕ) → is_finite x ≡ false → IsTrue (is_finite x) → ⊥
not_both x lacks has = both_ways (is_finite x) lacks has

no_finite : (p : Position) (q : ℕ) (r : Rule) → BreaksFinite p q r → IsTrue (is_finite p.x) → IsTrue (is_finite p.y) → ⊥
no_finite p q r (bad_x bad) x y = not_both p.x bad x
no_finite p q r (bad_y good bad) x y = not_both p.y bad y

no_position : (o : Order) (d : Dimension) (e : Bool) (b : List ℕ) (q : ℕ) (r : Rule) → BreaksPosition o d e b q r → (p : Position) (behind : List ℕ) → IsSpelled d p
    → ((e && is_nowhere p) ≡ false → IsPosition d p) → b ≡ position_bytes o p ++ behind → ⊥
no_position o d e b q r (cut i early low high) p behind is judged same =
    absurd (omega (arith, early, high, ap length same, length-append (position_bytes o p) behind, length-position o d p is))
no_position o d e b q r (not_finite u rest stood spelled somewhere broken) p behind is judged same =
    let one : u ≡ p = ((position_told o d).told u p rest behind spelled is (sym stood ∙ same)).0 in
    let position = judged (subst (λ v. (e && is_nowhere v) ≡ false) one somewhere) in
    no_finite p q r (subst (λ v. BreaksFinite v q r) one broken) position.finite_x position.finite_y

-- what stands behind the first of some things
record Next {A : Type 0} (Is : A → Type 0) (bytes : A → List ℕ) (rest : List ℕ) : Type 0 where
  thing : A
  behind : List ℕ
  is : Is thing
  begins : rest ≡ bytes thing ++ behind

next_thing : {A : Type 0} (Is : A → Type 0) (bytes : A → List ℕ) → IsTold Is bytes → (front things : List A) (rest more : List ℕ) → length front < length things → All Is front → All Is things
    → flat_map bytes front ++ rest ≡ flat_map bytes things ++ more → Next Is bytes rest
next_thing Is bytes t [] [] rest more early some all same = absurd (omega arith)
next_thing Is bytes t [] (x ∷ xs) rest more early some all same =
    record { thing = x; behind = flat_map bytes xs ++ more; is = All-head Is x xs all; begins = same ∙ append_assoc (bytes x) (flat_map bytes xs) more }
next_thing Is bytes t (y ∷ ys) [] rest more early some all same = absurd (omega arith)
next_thing Is bytes t (y ∷ ys) (x ∷ xs) rest more early some all same =
    let one = t.told y x (flat_map bytes ys ++ rest) (flat_map bytes xs ++ more) (All-head Is y ys some) (All-head Is x xs all)
    (sym (append_assoc (bytes y) (flat_map bytes ys) rest) ∙ same ∙ append_assoc (bytes x) (flat_map bytes xs) more) in
    next_thing Is bytes t ys xs rest more (omega arith) (All-tail Is y ys some) (All-tail Is x xs all) one.1

counted_next : {A : Type 0} (o : Order) (Is : A → Type 0) (bytes : A → List ℕ) → IsTold Is bytes → (count : ℕ) (front things : List A) (rest more : List ℕ) → count < 2 ^ 32 → length front < count
    → All Is front → All Is things → AreCounted things → number_bytes o 4 count ++ flat_map bytes front ++ rest ≡ counted_in o (map bytes things) ++ more → Next Is bytes rest
counted_next o Is bytes t count front things rest more small early some all counted same =
    let many = length-map things bytes in
    let number = (number_told o 4).told count (length (map bytes things)) (flat_map bytes front ++ rest) (concat (map bytes things) ++ more) small (omega (arith, counted, many))
    (sym (append_assoc (number_bytes o 4 count) (flat_map bytes front) rest) ∙ same ∙ append_assoc (number_bytes o 4 (length (map bytes things))) (concat (map bytes things)) more) in
    next_thing Is bytes t front things rest more (omega (arith, early, number.0, many)) some all (number.1 ∙ ap (λ l. l ++ more) (concat-map bytes things))

long_enough : (o : Order) (things : List (List ℕ)) (more b : List ℕ) → b ≡ counted_in o things ++ more → 4 ≤ length b
long_enough o things more b same =
    omega (arith, ap length same, length-append (counted_in o things) more, length-append (number_bytes o 4 (length things)) (concat things), length-number o 4 (length things))

no_counted : {A : Type 0} (o : Order) (Is : A → Type 0) (bytes : A → List ℕ) (Breaks : List ℕ → ℕ → Rule → Type 0) → IsTold Is bytes
    → ((rest : List ℕ) (q : ℕ) (r : Rule) → Breaks rest q r → (thing : A) (behind : List ℕ) → Is thing → rest ≡ bytes thing ++ behind → ⊥)
    → (b : List ℕ) (q : ℕ) (r : Rule) → BreaksCounted o Is bytes Breaks b q r → (things : List A) (more : List ℕ) → All Is things → AreCounted things
    → b ≡ counted_in o (map bytes things) ++ more → ⊥
no_counted o Is bytes Breaks t none b q r (no_count short) things more all counted same = absurd (omega (arith, short, long_enough o (map bytes things) more b same))
no_counted o Is bytes Breaks t none b q r (in_thing {q = p} {r = s} count front rest small stood early some broken) things more all counted same =
    let next = counted_next o Is bytes t count front things rest more small early some all counted (sym stood ∙ same) in
    none rest p s broken next.thing next.behind next.is next.begins

no_line : (o : Order) (d : Dimension) (b : List ℕ) (q : ℕ) (r : Rule) → BreaksLine o d b q r → (ps : List Position) (more : List ℕ) → IsLine d ps → b ≡ line_bytes_in o ps ++ more → ⊥
no_line o d b q r broken ps more is same =
    no_counted o (IsPosition d) (position_bytes o) (BreaksPosition o d false) (told_weaker (IsSpelled d) (IsPosition d) (position_bytes o) (λ p position. position.spelled) (position_told o d))
    (λ rest p s cut' thing behind position begins. no_position o d false rest p s cut' thing behind position.spelled (λ _. position) begins)
    b q r broken ps more is.0 is.1 same

-- a value at this level that may stand so
record Stays (dialect : Dialect) (level : ℕ) (standing : Standing) (v : Value) : Type 0 where
  dimension : Dimension
  is : IsValue dimension v
  speaks : IsIn dialect v
  shallow : level + depth (shape_of v) ≤ deepest_level + 1
  fits : (outer : ℕ) (e : Dimension) → standing ≡ member_of outer e → IsTrue (is_member outer (body_in v)) × (dimension ≡ e)

depth_above : (s : Shape) → 1 ≤ depth s
depth_above (shape kind own rings lists parts) = omega arith

order_low : (o : Order) → order_byte o ≤ 1
order_low big = omega arith
order_low little = omega arith

-- the kind of a member's body
kind_of_member : (outer : ℕ) (body : Body) → IsTrue (is_member outer body) → IsTrue (takes_kind outer (kind_in body))
kind_of_member outer (point p) member = grind (arith, nat_tests)
kind_of_member outer (line ps) member = grind (arith, nat_tests)
kind_of_member outer (polygon rings) member = grind (arith, nat_tests)
kind_of_member outer (multi kind members) member = grind (arith, nat_tests)

-- what follows this head, where a value that may stand so begins the same bytes
record Begun (dialect : Dialect) (level : ℕ) (standing : Standing) (s : Spelling) (kind : ℕ) (d : Dimension) (rest behind : List ℕ) : Type 0 where
  body : Body
  same : kind_in body ≡ kind
  is : IsBody d body
  stays : Stays dialect level standing (value s d body)
  bytes : rest ≡ body_bytes s.order body ++ behind

begun : (dialect : Dialect) (level : ℕ) (standing : Standing) (v : Value) (s : Spelling) (kind : ℕ) (d : Dimension) (rest behind : List ℕ) → IsHeadOf dialect s kind d
    → Stays dialect level standing v → head_in s kind ++ (srid_in s ++ rest) ≡ bytes_of v ++ behind → Begun dialect level standing s kind d rest behind
begun dialect level standing v s kind d rest behind head stays same =
    let one = begins_as stays.dimension v s kind d behind rest stays.is (kind_in_range kind head.known) head.is (sym same) in
    let stays' : Stays dialect level standing (value s d one.body) = subst (Stays dialect level standing) one.is stays in
    record {
      body = one.body;
      same = one.kind';
      is = subst (λ e. IsBody e one.body) (sym stays'.is.0) stays'.is.1;
      stays = stays';
      bytes = sym one.bytes;
    }

-- the same of its byte order and its type alone
record Fronted (t : Spelling) (own : Dimension) (body : Body) (kind : ℕ) (d : Dimension) (srid : Option ℕ) (rest behind : List ℕ) : Type 0 where
  kinds : kind_in body ≡ kind
  dimensions : own ≡ d
  numbered : has_srid srid ≡ has_srid t.srid
  follows : rest ≡ (srid_in t ++ body_bytes t.order body) ++ behind

fronted : (dialect : Dialect) (t : Spelling) (e own : Dimension) (body : Body) (s : Spelling) (kind : ℕ) (d : Dimension) (rest behind : List ℕ) → IsHeadOf dialect s kind d
    → IsValue e (value t own body) → head_in s kind ++ rest ≡ bytes_of (value t own body) ++ behind → Fronted t own body kind d s.srid rest behind
fronted dialect t e own body s kind d rest behind head is same =
    let ahead = srid_in t ++ body_bytes t.order body in
    let one = head_told s t kind (kind_in body) rest (ahead ++ behind) (kind_in_range kind head.known) (kind_known e body is.1)
    (same ∙ append_assoc (head_in t (kind_in body)) ahead behind) in
    record {
      kinds = sym one.type.kind;
      dimensions = sym is.2.says ∙ sym (same_dimension s t kind (kind_in body) one.type) ∙ head.is.says;
      numbered = one.type.srid;
      follows = one.behind;
    }

no_misfit : (dialect : Dialect) (level : ℕ) (standing : Standing) (kind : ℕ) (d : Dimension) (r : Rule) → Misfits standing kind d r → (t : Spelling) (own : Dimension) (body : Body)
    → Stays dialect level standing (value t own body) → kind_in body ≡ kind → own ≡ d → ⊥
no_misfit dialect level standing kind d r (other_kind outer e stands lacks) t own body stays kinds dimensions =
    both_ways (takes_kind outer kind) lacks (subst (λ k. IsTrue (takes_kind outer k)) kinds (kind_of_member outer body (stays.fits outer e stands).0))
no_misfit dialect level standing kind d r (other_dimension outer e stands takes differ) t own body stays kinds dimensions =
    differ (sym dimensions ∙ stays.is.0 ∙ (stays.fits outer e stands).1)

srid_long : (o : Order) (srid : Option ℕ) → true ≡ has_srid srid → length (srid_bytes o srid) ≡ 4
srid_long o None has = absurd (cc has)
srid_long o (Some n) has = length-number o 4 n

no_head : (dialect : Dialect) (level : ℕ) (standing : Standing) (b : List ℕ) (q : ℕ) (r : Rule) → BreaksHead dialect level standing b q r → (v : Value) (behind : List ℕ)
    → Stays dialect level standing v → b ≡ bytes_of v ++ behind → ⊥
no_head dialect level standing b q r (no_order none) (value t d body) behind stays same = absurd (omega (arith, ap length (sym none ∙ same)))
no_head dialect level standing b q r (other_order first rest stood above) (value t d body) behind stays same =
    absurd (omega (arith, above, ap (λ l. get_or l 0 0) (sym stood ∙ same), order_low t.order))
no_head dialect level standing b q r (too_deep order rest stood deep) v behind stays same = absurd (omega (arith, deep, stays.shallow, depth_above (shape_of v)))
no_head dialect level standing b q r (no_type order rest stood shallow short) (value t d body) behind stays same =
    absurd (omega (arith, short, ap length (sym stood ∙ same), length-append (bytes_of (value t d body)) behind, length-value t d body))
no_head dialect level standing b q r (other_type order number rest stood shallow small other) (value t d body) behind stays same =
    let known = kind_known stays.dimension body stays.is.1 in
    let ahead = srid_in t ++ body_bytes t.order body in
    let one : order ≡ t.order = same_order order t.order (ap (λ l. get_or l 0 0) (sym stood ∙ same)) in
    let words : number_bytes t.order 4 number ++ rest ≡ number_bytes t.order 4 (type_in t (kind_in body)) ++ (ahead ++ behind) =
    ap (λ w. number_bytes w 4 number ++ rest) (sym one) ∙ ap (drop 1) (sym stood ∙ same) ∙ append_assoc (number_bytes t.order 4 (type_in t (kind_in body))) ahead behind in
    other t (kind_in body) (is_kind_of (kind_in body) known.above known.below) stays.speaks.0
    ((number_told t.order 4).told number (type_in t (kind_in body)) rest (ahead ++ behind) small (type_low t (kind_in body) known) words).0
no_head dialect level standing b q r (misfit s kind d rest stood shallow head bad) (value t own body) behind stays same =
    let one = fronted dialect t stays.dimension own body s kind d rest behind head stays.is (sym stood ∙ same) in
    no_misfit dialect level standing kind d r bad t own body stays one.kinds one.dimensions
no_head dialect level standing b q r (no_srid s kind d rest stood shallow head suits has short) (value t own body) behind stays same =
    let one = fronted dialect t stays.dimension own body s kind d rest behind head stays.is (sym stood ∙ same) in
    let long = srid_long t.order t.srid (sym has ∙ one.numbered) in
    absurd (omega (arith, short, ap length one.follows, length-append (srid_in t ++ body_bytes t.order body) behind, length-append (srid_in t) (body_bytes t.order body), long))

-- what a body of each kind is
point_form : (d : Dimension) (body : Body) → IsBody d body → kind_in body ≡ 1 → (p : Position) × (body ≡ point p)
point_form d (point p) is same = (p, refl)
point_form d (line ps) is same = absurd (omega arith)
point_form d (polygon rings) is same = absurd (omega arith)
point_form d (multi kind members) is same = absurd (omega (arith, (multi_kind kind is.0).0))

line_form : (d : Dimension) (body : Body) → IsBody d body → kind_in body ≡ 2 → (ps : List Position) × (body ≡ line ps)
line_form d (point p) is same = absurd (omega arith)
line_form d (line ps) is same = (ps, refl)
line_form d (polygon rings) is same = absurd (omega arith)
line_form d (multi kind members) is same = absurd (omega (arith, (multi_kind kind is.0).0))

polygon_form : (d : Dimension) (body : Body) → IsBody d body → kind_in body ≡ 3 → (rings : List (List Position)) × (body ≡ polygon rings)
polygon_form d (point p) is same = absurd (omega arith)
polygon_form d (line ps) is same = absurd (omega arith)
polygon_form d (polygon rings) is same = (rings, refl)
polygon_form d (multi kind members) is same = absurd (omega (arith, (multi_kind kind is.0).0))

multi_form : (kind : ℕ) (body : Body) → IsTrue (is_multi kind) → kind_in body ≡ kind → (members : Values) × (body ≡ multi kind members)
multi_form kind (point p) several same = absurd (omega (arith, (multi_kind kind several).0))
multi_form kind (line ps) several same = absurd (omega (arith, (multi_kind kind several).0))
multi_form kind (polygon rings) several same = absurd (omega (arith, (multi_kind kind several).0))
multi_form kind (multi other members) several same = (members, ap (λ k. multi k members) same)

-- a point of a value, also of an empty Point
point_spelled : (d : Dimension) (p : Position) → IsBody d (point p) → IsSpelled d p
point_spelled d p is = elim is [ inl somewhere ↦ somewhere.spelled | inr empty ↦ empty.0 ]

point_somewhere : (d : Dimension) (p : Position) → IsBody d (point p) → is_nowhere p ≡ false → IsPosition d p
point_somewhere d p is somewhere = elim is [ inl position ↦ position | inr empty ↦ absurd (both_ways (is_nowhere p) somewhere empty.1) ]

-- the members of a value in a list
abbrev listed : Values → List Value
listed nothing = []
listed (also first rest) = first ∷ listed rest

each_listed : (members : Values) → each_bytes members ≡ map bytes_of (listed members)
each_listed nothing = refl
each_listed (also first rest) = ap (λ things. bytes_of first ∷ things) (each_listed rest)

-- members that are parts, and others
parts_shallow : (dialect : Dialect) (level kind : ℕ) (d : Dimension) (members : Values) → AreMembers kind d members → AreIn dialect members → level + deepest (shapes_in members) ≤ deepest_level + 1 → All (IsMember dialect level kind d) (listed members)
parts_shallow dialect level kind d nothing are speak low = All-nil (IsMember dialect level kind d)
parts_shallow dialect level kind d (also first rest) are speak low =
    All-cons (IsMember dialect level kind d) first (listed rest) (record { is = are.1; speaks = speak.0; fits = are.0; shallow = omega (arith, low) }) (parts_shallow dialect level kind d rest are.2 speak.1 (omega (arith, low)))

member_flat : (kind : ℕ) (d : Dimension) (v : Value) → kind ≤ 5 → IsTrue (is_member kind (body_in v)) → depth (shape_of v) ≡ 1
member_flat kind d (value t own (point p)) low member = refl
member_flat kind d (value t own (line ps)) low member = refl
member_flat kind d (value t own (polygon rings)) low member = refl
member_flat kind d (value t own (multi inner members)) low member = absurd (grind (arith, nat_tests))

others_shallow : (dialect : Dialect) (level kind : ℕ) (d : Dimension) (members : Values) → kind ≤ 5 → AreMembers kind d members → AreIn dialect members → level ≤ deepest_level → All (IsMember dialect level kind d) (listed members)
others_shallow dialect level kind d nothing flat are speak low = All-nil (IsMember dialect level kind d)
others_shallow dialect level kind d (also first rest) flat are speak low =
    All-cons (IsMember dialect level kind d) first (listed rest) (record { is = are.1; speaks = speak.0; fits = are.0; shallow = omega (arith, low, member_flat kind d first flat are.0) })
    (others_shallow dialect level kind d rest flat are.2 speak.1 low)

parts_depth : (kind : ℕ) (d : Dimension) (members : Values) → 6 ≤ kind → depth (shape_of_body d (multi kind members)) ≡ deepest (shapes_in members) + 1
parts_depth kind d members high =
    let four : (kind == 4) ≡ false = grind (arith, nat_tests) in
    let five : (kind == 5) ≡ false = grind (arith, nat_tests) in
    rw (four, five) refl

members_shallow : (dialect : Dialect) (level kind : ℕ) (d : Dimension) (members : Values) → AreMembers kind d members → AreIn dialect members
    → level + depth (shape_of_body d (multi kind members)) ≤ deepest_level + 1
    → All (IsMember dialect (level_below level kind) kind d) (listed members)
members_shallow dialect level kind d members are speak low = elim (cases_lt kind 6) [
  | inl below ↦
      let under : level_below level kind ≡ level = grind (arith, nat_tests) in
      subst (λ l. All (IsMember dialect l kind d) (listed members)) (sym under)
      (others_shallow dialect level kind d members (omega arith) are speak (omega (arith, low, depth_above (shape_of_body d (multi kind members)))))
  | inr above ↦
      let under : level_below level kind ≡ level + 1 = grind (arith, nat_tests) in
      subst (λ l. All (IsMember dialect l kind d) (listed members)) (sym under)
      (parts_shallow dialect (level + 1) kind d members are speak (omega (arith, low, parts_depth kind d members above)))
]

member_told : (dialect : Dialect) (level kind : ℕ) (d : Dimension) → IsTold (IsMember dialect level kind d) bytes_of
member_told dialect level kind d = record { told = λ a b r s first next same. values_are_told_apart d d a b r s first.is next.is same }

member_stays : (dialect : Dialect) (level kind : ℕ) (d : Dimension) (v : Value) → IsMember dialect level kind d v → Stays dialect level (member_of kind d) v
member_stays dialect level kind d v is = record {
  dimension = d;
  is = is.is;
  speaks = is.speaks;
  shallow = is.shallow;
  fits = λ outer e stands. same_standing outer e stands;
}
  where
    same_standing : (outer : ℕ) (e : Dimension) → member_of kind d ≡ member_of outer e → IsTrue (is_member outer (body_in v)) × (d ≡ e)
    same_standing outer e stands =
        let kinds : kind ≡ outer = cc in
        let dimensions : d ≡ e = cc in
        (subst (λ k. IsTrue (is_member k (body_in v))) kinds is.fits, dimensions)

mutual
  no_value : (dialect : Dialect) (level : ℕ) (standing : Standing) (b : List ℕ) (q : ℕ) (r : Rule) → BreaksValue dialect level standing b q r → (v : Value) (behind : List ℕ)
      → Stays dialect level standing v → b ≡ bytes_of v ++ behind → ⊥
  no_value dialect level standing b q r (in_head broken) v behind stays same = no_head dialect level standing b q r broken v behind stays same
  no_value dialect level standing b q r (empty_member s d p rest stood shallow head spelled nowhere) v behind stays same =
      let g = begun dialect level standing v s 1 d (position_bytes s.order p ++ rest) behind head stays (sym stood ∙ same) in
      let form = point_form d g.body g.is g.same in
      let is : IsBody d (point form.0) = subst (IsBody d) form.1 g.is in
      let one : p ≡ form.0 = ((position_told s.order d).told p form.0 rest behind spelled (point_spelled d form.0 is) (g.bytes ∙ ap (λ body. body_bytes s.order body ++ behind) form.1)).0 in
      let member : IsTrue (is_member 4 (point form.0)) = subst (λ body. IsTrue (is_member 4 body)) form.1 (g.stays.fits 4 d refl).0 in
      both_ways (is_nowhere p) (subst (λ u. is_nowhere u ≡ false) (sym one) (not-true (is_nowhere form.0) member)) nowhere
  no_value dialect level standing b q r (in_body {q = p} s kind d rest stood shallow head suits broken) v behind stays same =
      let g = begun dialect level standing v s kind d rest behind head stays (sym stood ∙ same) in
      no_body dialect level s.order kind d rest p r broken g.body behind g.is g.stays.speaks.1 g.same g.stays.shallow g.bytes

  no_body : (dialect : Dialect) (level : ℕ) (o : Order) (kind : ℕ) (d : Dimension) (b : List ℕ) (q : ℕ) (r : Rule) → BreaksBody dialect level o kind d b q r → (body : Body) (behind : List ℕ)
      → IsBody d body → IsBodyIn dialect body → kind_in body ≡ kind → level + depth (shape_of_body d body) ≤ deepest_level + 1 → b ≡ body_bytes o body ++ behind → ⊥
  no_body dialect level o kind d b q r (in_point broken) body behind is speaks same shallow bytes =
      let form = point_form d body is same in
      let has : IsBody d (point form.0) = subst (IsBody d) form.1 is in
      no_position o d true b q r broken form.0 behind (point_spelled d form.0 has) (point_somewhere d form.0 has) (bytes ∙ ap (λ x. body_bytes o x ++ behind) form.1)
  no_body dialect level o kind d b q r (in_line broken) body behind is speaks same shallow bytes =
      let form = line_form d body is same in
      no_line o d b q r broken form.0 behind (subst (IsBody d) form.1 is) (bytes ∙ ap (λ x. body_bytes o x ++ behind) form.1)
  no_body dialect level o kind d b q r (in_polygon broken) body behind is speaks same shallow bytes =
      let form = polygon_form d body is same in
      let has : IsBody d (polygon form.0) = subst (IsBody d) form.1 is in
      no_counted o (IsLine d) (line_bytes_in o) (BreaksLine o d) (line_told o d) (λ rest p s cut' thing more line' begins. no_line o d rest p s cut' thing more line' begins)
      b q r broken form.0 behind has.0 has.1 (bytes ∙ ap (λ x. body_bytes o x ++ behind) form.1)
  no_body dialect level o kind d b q r (no_members several short) body behind is speaks same shallow bytes =
      let form = multi_form kind body several same in
      absurd (omega (arith, short, long_enough o (each_bytes form.0) behind b (bytes ∙ ap (λ x. body_bytes o x ++ behind) form.1)))
  no_body dialect level o kind d b q r (in_member {q = p} several count front rest small stood early some broken) body behind is speaks same shallow bytes =
      let form = multi_form kind body several same in
      let has : IsBody d (multi kind form.0) = subst (IsBody d) form.1 is in
      let all = members_shallow dialect level kind d form.0 has.1 (subst (IsBodyIn dialect) form.1 speaks) (subst (λ x. level + depth (shape_of_body d x) ≤ deepest_level + 1) form.1 shallow) in
      let many : length (listed form.0) < 2 ^ 32 = omega (arith, has.2, ap length (each_listed form.0), length-map (listed form.0) bytes_of) in
      let next = counted_next o (IsMember dialect (level_below level kind) kind d) bytes_of (member_told dialect (level_below level kind) kind d) count front (listed form.0) rest behind small early some all many
      (sym stood ∙ bytes ∙ ap (λ x. body_bytes o x ++ behind) form.1 ∙ ap (λ things. counted_in o things ++ behind) (each_listed form.0)) in
      no_value dialect (level_below level kind) (member_of kind d) rest p r broken next.thing next.behind (member_stays dialect (level_below level kind) kind d next.thing next.is) next.begins

-- no front of the bytes is a value of a shape
pub no_wkb : (dialect : Dialect) (b behind front : List ℕ) (q : ℕ) (r : Rule) (g : Shape) → BreaksValue dialect 1 alone b q r → IsValueOf dialect g front → b ≡ front ++ behind → ⊥
no_wkb dialect b behind front q r g broken w same =
    no_value dialect 1 alone b q r broken w.spelled behind
    (record {
      dimension = w.dimension;
      is = w.is;
      speaks = w.speaks;
      shallow = omega (arith, w.shallow, ap depth w.shown);
      fits = λ outer e stands. absurd (cc stands);
    })
    (same ∙ ap (λ l. l ++ behind) w.spells)
