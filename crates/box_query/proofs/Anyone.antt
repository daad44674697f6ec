-- Lists of boxes, of which one is met.
use Rattle.std.proofs.Common.{◌≡◌, Bool, true, false, ◌||◌, List, [], ◌∷◌, refl, ap, ◌∙◌}
use Rattle.std.specs.List.{list_any}

either_leads : (a b c d : Bool) → (a ≡ true → c ≡ true) → (b ≡ true → d ≡ true) → (a || b) ≡ true → (c || d) ≡ true
either_leads true b c d first rest is = ap (λ x. x || d) (first refl)
either_leads false b true d first rest is = refl
either_leads false b false d first rest is = rest is

-- where each that passes one test passes the other
pub any_leads : {X : Type 0} (p q : X → Bool) → ((x : X) → p x ≡ true → q x ≡ true) → (xs : List X) → list_any p xs ≡ true → list_any q xs ≡ true
any_leads p q leads [] is = is
any_leads p q leads (x ∷ xs) is = either_leads (p x) (list_any p xs) (q x) (list_any q xs) (leads x) (any_leads p q leads xs) is

-- where the tests are the same
pub any_same : {X : Type 0} (p q : X → Bool) → ((x : X) → p x ≡ q x) → (xs : List X) → list_any p xs ≡ list_any q xs
any_same p q same [] = refl
any_same p q same (x ∷ xs) = ap (λ b. b || list_any p xs) (same x) ∙ ap (λ b. q x || b) (any_same p q same xs)
