-- Lists that are taken from the front piece by piece.
use Rattle.std.proofs.Common.{◌≡◌, ℕ, ◌+◌, ◌-◌, List, length, ◌++◌, take, drop, zero, suc, refl, sym, ap, ◌∙◌, [], ◌∷◌, arith}
use Rattle.std.proofs.lemmas.List.{take-append-drop, take_all, length-drop, drop-drop}

take_nil : (n : ℕ) → take {A = ℕ} n [] ≡ []
take_nil zero = refl
take_nil (suc n) = refl

-- what stands before a place further on
front_further : (xs : List ℕ) (at n : ℕ) → take (at + n) xs ≡ take at xs ++ take n (drop at xs)
front_further xs zero n = let e : 0 + n ≡ n = omega arith in ap (λ k. take k xs) e
front_further [] (suc at) n = take_nil (suc at + n) ∙ sym (take_nil n)
front_further (x ∷ xs) (suc at) n =
    let e : suc at + n ≡ suc (at + n) = omega arith in
    ap (λ k. take k (x ∷ xs)) e ∙ ap (λ ys. x ∷ ys) (front_further xs at n)

-- n elements at the front of `into` are those at a place of the list: how they part what is left there, and what is passed then
pub placed : (xs into : List ℕ) (at n : ℕ) → take n into ≡ take n (take (length xs - at) (drop at xs))
    → (drop at xs ≡ take n into ++ drop (at + n) xs) × (take (at + n) xs ≡ take at xs ++ take n into)
placed xs into at n same =
    let all : take (length xs - at) (drop at xs) ≡ drop at xs = take_all (length xs - at) (drop at xs) (omega (arith, length-drop at xs)) in
    let front : take n into ≡ take n (drop at xs) = same ∙ ap (take n) all in
    let parts : drop at xs ≡ take n (drop at xs) ++ drop (at + n) xs = sym (take-append-drop n (drop at xs)) ∙ ap (λ ys. take n (drop at xs) ++ ys) (drop-drop n at xs) in
    (parts ∙ ap (λ ys. ys ++ drop (at + n) xs) (sym front), front_further xs at n ∙ ap (λ ys. take at xs ++ ys) (sym front))
