-- The shape of a value has a spelling: all its points have one dimension, and it has no times.
use Rattle.std.proofs.Common.{◌≡◌, inl, inr, ℕ, ◌+◌, ◌≤◌, ◌==◌, nat_lt, Bool, true, false, List, [], ◌∷◌, ◌++◌, length, take, drop, if◌then◌else◌, refl, sym, ap, subst, ◌∙◌, arith, length-append}
use Rattle.std.specs.List.{All, AllByRecursion, flat_map}
use Rattle.std.proofs.lemmas.Bool.{lt-ltb}
use Rattle.std.proofs.lemmas.List.Elements.{All-append, All-cons, All-head, All-nil, All-weaker, recursion_from_All}
use Rattle.fgb_schema.specs.Shapes.{Shape, shape, Shapes, none, more, no_ordinates, points, points_in, points_of_all}
use Rattle.wkb_writer.specs.declared.dimension.Dimension.{Dimension}
use Rattle.wkb_writer.specs.Dimensions.{Fits, flat, tree, trees}
use Rattle.wkb_writer.specs.Wkb.{value as written}
use Rattle.wkb_writer.proofs.OnlyOne.{only_one}
use Rattle.wkb_grammar.specs.Grammar.{AreMembers, IsBody, IsLine, IsPosition, IsSpelled, IsValue, Position, Value, Values, also, line, multi, nothing, point, polygon, value, is_nowhere}
use Rattle.wkb_grammar.specs.ShapesShown.{joined, positions_in, positions_of_each, rings_along, shape_of, shape_of_points, shapes_in}
use Rattle.wkb_grammar.specs.Wkb.{Wkb, most_bytes}
use Rattle.wkb_grammar.proofs.Recorded.{wkb_is_record}
use Rattle.wkb_grammar.proofs.Written.{written_values_are_read}
use Rattle.wkb_file.specs.Spellings.{HasWkb, SpellingsOf}
use Rattle.wkb_file.specs.Values.{ValuesOf}

-- some points have a z just where their dimension has one
has_z : (z m : Bool) (beside others : List ℕ) → length beside ≡ (if z then 1 else 0) + (if m then 1 else 0) → nat_lt 0 (length (if z then take 1 beside ++ others else [])) ≡ z
has_z false m beside others enough = refl
has_z true m [] others enough = absurd (omega arith)
has_z true m (x ∷ beside) others enough = lt-ltb 0 (length (x ∷ others)) (omega arith)

has_m : (z m : Bool) (beside others : List ℕ) → length beside ≡ (if z then 1 else 0) + (if m then 1 else 0) → nat_lt 0 (length (if m then drop (if z then 1 else 0) beside ++ others else [])) ≡ m
has_m z false beside others enough = refl
has_m false true [] others enough = absurd (omega arith)
has_m false true (x ∷ beside) others enough = lt-ltb 0 (length (x ∷ (beside ++ others))) (omega arith)
has_m true true [] others enough = absurd (omega arith)
has_m true true (x ∷ []) others enough = absurd (omega arith)
has_m true true (x ∷ y ∷ beside) others enough = lt-ltb 0 (length (y ∷ (beside ++ others))) (omega arith)

points_fit : (d : Dimension) (kind : ℕ) (ps : List Position) (rings : List (ℕ × ℕ)) → All (IsSpelled d) ps → Fits d (shape_of_points kind d ps rings)
points_fit d kind [] rings are = record { no_t = refl; no_tm = refl; same = λ some. absurd (some refl) }
points_fit d kind (p ∷ ps) rings are = record {
  no_t = refl;
  no_tm = refl;
  same = λ some.
      let enough = (All-head (IsSpelled d) p ps are).enough in
      let z = has_z d.z d.m p.beside (flat_map (λ (q : Position). take 1 q.beside) ps) enough in
      let m = has_m d.z d.m p.beside (flat_map (λ (q : Position). drop (if d.z then 1 else 0) q.beside) ps) enough in
      λ i. record { z = z i; m = m i };
}

-- a shape without parts
alone : (d : Dimension) (kind : ℕ) (ps : List Position) (rings : List (ℕ × ℕ)) → All (IsSpelled d) ps → All (Fits d) (tree (shape_of_points kind d ps rings))
alone d kind ps rings are = All-cons (Fits d) (shape_of_points kind d ps rings) [] (points_fit d kind ps rings are) (All-nil (Fits d))

-- the points of lines, and of the members that are Points and lines
line_spelled : (d : Dimension) (ps : List Position) → IsLine d ps → All (IsSpelled d) ps
line_spelled d ps is = All-weaker (IsPosition d) (IsSpelled d) (λ p position. position.spelled) ps is.0

lines_spelled : (d : Dimension) (lines : List (List Position)) → All (IsLine d) lines → All (IsSpelled d) (joined lines)
lines_spelled d lines are = each lines (recursion_from_All (IsLine d) lines are)
  where
    each : (lines : List (List Position)) → AllByRecursion (IsLine d) lines → All (IsSpelled d) (joined lines)
    each [] are = All-nil (IsSpelled d)
    each (ps ∷ rest) are = All-append (IsSpelled d) ps (joined rest) (line_spelled d ps are.0) (each rest are.1)

point_spelled : (d : Dimension) (p : Position) → IsBody d (point p) → IsSpelled d p
point_spelled d p is = elim is [ inl somewhere ↦ somewhere.spelled | inr empty ↦ empty.0 ]

member_spelled : (d : Dimension) (v : Value) → IsValue d v → All (IsSpelled d) (positions_in v)
member_spelled d (value order own (point p)) is = All-cons (IsSpelled d) p [] (point_spelled d p is.1) (All-nil (IsSpelled d))
member_spelled d (value order own (line ps)) is = line_spelled d ps is.1
member_spelled d (value order own (polygon rings)) is = All-nil (IsSpelled d)
member_spelled d (value order own (multi kind members)) is = All-nil (IsSpelled d)

members_spelled : (d : Dimension) (kind : ℕ) (members : Values) → AreMembers kind d members → All (IsSpelled d) (joined (positions_of_each members))
members_spelled d kind nothing are = All-nil (IsSpelled d)
members_spelled d kind (also first rest) are =
    All-append (IsSpelled d) (positions_in first) (joined (positions_of_each rest)) (member_spelled d first are.1) (members_spelled d kind rest are.2)

-- one of three shapes
either : (P : Shape → Type 0) (a b : Bool) (s t u : Shape) → P s → P t → P u → P (if a then s else if b then t else u)
either P true b s t u first second third = first
either P false true s t u first second third = second
either P false false s t u first second third = third

nowhere_spelled : (d : Dimension) (p : Position) (b : Bool) → IsSpelled d p → All (IsSpelled d) (if b then [] else p ∷ [])
nowhere_spelled d p true is = All-nil (IsSpelled d)
nowhere_spelled d p false is = All-cons (IsSpelled d) p [] is (All-nil (IsSpelled d))

-- every level has no times, and points of this dimension if it has some
mutual
  value_fits : (d : Dimension) (v : Value) → IsValue d v → All (Fits d) (tree (shape_of v))
  value_fits d (value order own (point p)) is =
      subst (λ e. All (Fits d) (tree (shape_of_points 1 e (if is_nowhere p then [] else p ∷ []) []))) (sym is.0)
      (alone d 1 (if is_nowhere p then [] else p ∷ []) [] (nowhere_spelled d p (is_nowhere p) (point_spelled d p is.1)))
  value_fits d (value order own (line ps)) is = subst (λ e. All (Fits d) (tree (shape_of_points 2 e ps []))) (sym is.0) (alone d 2 ps [] (line_spelled d ps is.1))
  value_fits d (value order own (polygon rings)) is =
      subst (λ e. All (Fits d) (tree (shape_of_points 3 e (joined rings) (rings_along 0 rings)))) (sym is.0)
      (alone d 3 (joined rings) (rings_along 0 rings) (lines_spelled d rings is.1.0))
  value_fits d (value order own (multi kind members)) is =
      let ps = joined (positions_of_each members) in
      let rings = rings_along 0 (positions_of_each members) in
      let spelled = members_spelled d kind members is.1.1 in
      let whole = shape kind [] [] no_ordinates (shapes_in members) in
      subst (λ e. All (Fits d) (tree (shape_of (value order e (multi kind members))))) (sym is.0)
      (either (λ s. All (Fits d) (tree s)) (kind == 4) (kind == 5) (shape_of_points 4 d ps []) (shape_of_points 5 d ps rings) whole
      (alone d 4 ps [] spelled) (alone d 5 ps rings spelled)
      (All-cons (Fits d) whole (trees (shapes_in members)) (record { no_t = refl; no_tm = refl; same = λ some. absurd (some refl) }) (members_fit d kind members is.1.1)))

  members_fit : (d : Dimension) (kind : ℕ) (members : Values) → AreMembers kind d members → All (Fits d) (trees (shapes_in members))
  members_fit d kind nothing are = All-nil (Fits d)
  members_fit d kind (also first rest) are = All-append (Fits d) (tree (shape_of first)) (trees (shapes_in rest)) (value_fits d first are.1) (members_fit d kind rest are.2)

-- parts of nothing are nothing
front_none : {A : Type 0} (xs ys : List A) → xs ++ ys ≡ [] → xs ≡ []
front_none [] ys gone = refl
front_none (x ∷ xs) ys gone = absurd (cc gone)

rest_none : {A : Type 0} (xs ys : List A) → xs ++ ys ≡ [] → ys ≡ []
rest_none [] ys gone = gone
rest_none (x ∷ xs) ys gone = absurd (cc gone)

abbrev HasNone : Shape → Type 0
HasNone s = points_in s ≡ []

-- where a shape has no points, none of its parts has some
mutual
  none_at_all : (g : Shape) → points g ≡ [] → All HasNone (tree g)
  none_at_all (shape kind own rings lists parts) gone =
      All-cons HasNone (shape kind own rings lists parts) (trees parts) (front_none own (points_of_all parts) gone) (none_in_parts parts (rest_none own (points_of_all parts) gone))

  none_in_parts : (parts : Shapes) → points_of_all parts ≡ [] → All HasNone (trees parts)
  none_in_parts none gone = All-nil HasNone
  none_in_parts (more first rest) gone =
      All-append HasNone (tree first) (trees rest) (none_at_all first (front_none (points first) (points_of_all rest) gone)) (none_in_parts rest (rest_none (points first) (points_of_all rest) gone))

-- so they fit any dimension
fit_any : (d e : Dimension) (g : Shape) → points g ≡ [] → All (Fits d) (tree g) → All (Fits e) (tree g)
fit_any d e g gone fits = λ k otherwise early.
    let fit = fits k otherwise early in
    record { no_t = fit.no_t; no_tm = fit.no_tm; same = λ some. absurd (some (none_at_all g gone k otherwise early)) }

spelling_by : (g : Shape) (d : Dimension) → All (Fits d) (tree g) → (ps : List (ℕ × ℕ)) → points g ≡ ps → HasWkb g
spelling_by g d fits [] gone = record {
  bytes = written flat g;
  is = record { dimension = flat; is = record { fits = fit_any d flat g gone fits; pointless = λ _. refl }; spelled = refl };
}
spelling_by g d fits (p ∷ ps) some = record {
  bytes = written d g;
  is = record { dimension = d; is = record { fits = fits; pointless = λ gone. absurd (cc (gone, some)) }; spelled = refl };
}

pub value_has_spelling : (g : Shape) (bytes : List ℕ) → Wkb g bytes → HasWkb g
value_has_spelling g bytes w = subst HasWkb (sym w.shown) (spelling_by (shape_of w.spelled) w.dimension (value_fits w.dimension w.spelled w.is) (points (shape_of w.spelled)) refl)

pub values_have_spellings : (shapes : List Shape) (bytes : List ℕ) → ValuesOf shapes bytes → All HasWkb shapes
values_have_spellings [] bytes gone = All-nil HasWkb
values_have_spellings (g ∷ shapes) bytes are = All-cons HasWkb g shapes (value_has_spelling g are.piece are.is) (values_have_spellings shapes are.rest are.others)

-- the spellings of shapes of values are values of the same shapes
pub spellings_are_values : (shapes : List Shape) (bytes spelled : List ℕ) → ValuesOf shapes bytes → SpellingsOf shapes spelled → length spelled ≤ most_bytes → ValuesOf shapes spelled
spellings_are_values [] bytes spelled are written small = written
spellings_are_values (g ∷ shapes) bytes spelled are written small =
    let later : length written.rest ≤ most_bytes = omega (arith, small, ap length written.stands, length-append written.piece written.rest) in
    let first : length written.piece ≤ most_bytes = omega (arith, small, ap length written.stands, length-append written.piece written.rest) in
    record {
      piece = written.piece;
      rest = written.rest;
      stands = written.stands;
      is = written_values_are_read g written.piece (wkb_is_record g are.piece are.is) written.is first;
      others = spellings_are_values shapes are.rest written.rest are.others written.others later;
    }

pub one_spelling : (shapes : List Shape) (a b : List ℕ) → SpellingsOf shapes a → SpellingsOf shapes b → a ≡ b
one_spelling [] a b first second = first ∙ sym second
one_spelling (g ∷ shapes) a b first second =
    first.stands ∙ (λ i. only_one g first.piece second.piece first.is second.is i ++ one_spelling shapes first.rest second.rest first.others second.others i) ∙ sym second.stands
