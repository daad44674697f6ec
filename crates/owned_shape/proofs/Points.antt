-- Points, as x and y by turns.
use Rattle.std.proofs.Common.{◌≡◌, ℕ, ◌%◌, List, [], ◌∷◌, ◌++◌, length, refl, ap, ◌∙◌, append_assoc, arith}
use Rattle.std.specs.List.{All}
use Rattle.std.proofs.lemmas.List.Elements.{All-nil, All-cons, All-head, All-tail}
use Rattle.fgb_schema.specs.Shapes.{pairs_of}
use Rattle.owned_shape.specs.Records.{IsNumber, IsPoint}

pub pairs_of-append : (xs ys : List ℕ) → length xs % 2 ≡ 0 → pairs_of (xs ++ ys) ≡ pairs_of xs ++ pairs_of ys
pairs_of-append [] ys even = refl
pairs_of-append (x ∷ []) ys even = absurd (omega (arith, even))
pairs_of-append (x ∷ y ∷ rest) ys even = ap (λ ps. (x, y) ∷ ps) (pairs_of-append rest ys (omega (arith, even)))

pub points_of-numbers : (xs : List ℕ) → All IsNumber xs → All IsPoint (pairs_of xs)
points_of-numbers [] all = All-nil IsPoint
points_of-numbers (x ∷ []) all = All-nil IsPoint
points_of-numbers (x ∷ y ∷ rest) all =
    let later = All-tail IsNumber x (y ∷ rest) all in
    All-cons IsPoint (x, y) (pairs_of rest) (All-head IsNumber x (y ∷ rest) all, All-head IsNumber y rest later) (points_of-numbers rest (All-tail IsNumber y rest later))

-- one point more
pub one_more : (xs ys zs : List ℕ) (x y : ℕ) → length xs % 2 ≡ 0 → ys ≡ xs ++ x ∷ [] → zs ≡ ys ++ y ∷ [] → pairs_of zs ≡ pairs_of xs ++ (x, y) ∷ []
one_more xs ys zs x y even first second =
    ap pairs_of (second ∙ ap (λ s. s ++ y ∷ []) first ∙ append_assoc xs (x ∷ []) (y ∷ [])) ∙ pairs_of-append xs (x ∷ y ∷ []) even
