-- Values one after another, and what follows them.
use Rattle.std.proofs.Common.{◌≡◌, ℕ, ◌≤◌, List, [], ◌∷◌, ◌++◌, length, refl, sym, ap, subst, ◌∙◌, append-nil, append_assoc, arith, length-append}
use Rattle.fgb_schema.specs.Shapes.{Shape}
use Rattle.wkb_grammar.specs.Grammar.{Value, value, bytes_of}
use Rattle.wkb_grammar.specs.ShapesShown.{shape_of}
use Rattle.wkb_grammar.specs.Wkb.{Wkb}
use Rattle.wkb_grammar.proofs.Apart.{values_are_told_apart}
use Rattle.wkb_grammar.proofs.Sizes.{length-value}
use Rattle.wkb_file.specs.InTurn.{InTurn}
use Rattle.wkb_file.specs.Values.{ValuesOf}

-- one more piece
pub one_more : (Is : Shape → List ℕ → Type 0) (shapes : List Shape) (g : Shape) (front piece : List ℕ) → InTurn Is shapes front → Is g piece → InTurn Is (shapes ++ g ∷ []) (front ++ piece)
one_more Is [] g front piece all is = record {
  piece = piece;
  rest = [];
  stands = ap (λ f. f ++ piece) all ∙ sym (append-nil piece);
  is = is;
  others = refl;
}
one_more Is (h ∷ shapes) g front piece all is = record {
  piece = all.piece;
  rest = all.rest ++ piece;
  stands = ap (λ f. f ++ piece) all.stands ∙ append_assoc all.piece all.rest piece;
  is = all.is;
  others = one_more Is shapes g all.rest piece all.others is;
}

-- a value has some bytes
long : (v : Value) → 5 ≤ length (bytes_of v)
long (value order d body) = omega (arith, length-value order d body)

pub some_bytes : (g : Shape) (bytes : List ℕ) → Wkb g bytes → 5 ≤ length bytes
some_bytes g bytes w = omega (arith, ap length w.spells, long w.spelled)

-- two values in front of the same bytes
told : (g h : Shape) (a b r s : List ℕ) → Wkb g a → Wkb h b → a ++ r ≡ b ++ s → (g ≡ h) × (r ≡ s)
told g h a b r s first second same =
    let both = values_are_told_apart first.dimension second.dimension first.spelled second.spelled r s first.is second.is
    (ap (λ l. l ++ r) (sym first.spells) ∙ same ∙ ap (λ l. l ++ s) second.spells) in
    (first.shown ∙ ap shape_of both.0 ∙ sym second.shown, both.1)

-- values of these shapes stand in front of others, which are the rest
pub record Follows (shapes all : List Shape) (rest : List ℕ) : Type 0 where
  pub later : List Shape
  pub same : all ≡ shapes ++ later
  pub are : ValuesOf later rest

pub follows : (shapes all : List Shape) (front bytes rest : List ℕ) → ValuesOf shapes front → ValuesOf all bytes → bytes ≡ front ++ rest → Follows shapes all rest
follows [] all front bytes rest none are same = record {
  later = all;
  same = refl;
  are = subst (ValuesOf all) (same ∙ ap (λ f. f ++ rest) none) are;
}
follows (g ∷ shapes) [] front bytes rest some none same =
    absurd (omega (arith, some_bytes g some.piece some.is, ap length some.stands, length-append some.piece some.rest, ap length same, length-append front rest, ap length none))
follows (g ∷ shapes) (h ∷ all) front bytes rest some are same =
    let both = told h g are.piece some.piece are.rest (some.rest ++ rest) are.is some.is
    (sym are.stands ∙ same ∙ ap (λ f. f ++ rest) some.stands ∙ append_assoc some.piece some.rest rest) in
    let later = follows shapes all some.rest are.rest rest some.others are.others both.1 in
    record { later = later.later; same = λ i. both.0 i ∷ later.same i; are = later.are }

-- no bytes are values of no shapes
none_left : (shapes : List Shape) → ValuesOf shapes [] → shapes ≡ []
none_left [] none = refl
none_left (g ∷ shapes) some = absurd (omega (arith, some_bytes g some.piece some.is, ap length some.stands, length-append some.piece some.rest))

pub one_list : (shapes others : List Shape) (bytes : List ℕ) → ValuesOf shapes bytes → ValuesOf others bytes → shapes ≡ others
one_list shapes others bytes first second =
    let after = follows shapes others bytes bytes [] first second (sym (append-nil bytes)) in
    sym (after.same ∙ ap (λ l. shapes ++ l) (none_left after.later after.are) ∙ append-nil shapes)
