-- Filters, and lists joined from parts.
use Rattle.std.proofs.Common.{◌≡◌, ℕ, zero, suc, ◌+◌, ◌<◌, ◌≤◌, Bool, true, false, ◌&&◌, List, [], ◌∷◌, ◌++◌, refl, ap, ◌∙◌, arith}
use Rattle.std.specs.Prelude.{cond}
use Rattle.std.specs.List.{filter, flat_map, range_with_len}
use Rattle.std.proofs.lemmas.List.Elements.{filter-append}

-- parts, one after another

pub flat_map_same : {X A : Type 0} (f g : X → List A) → ((x : X) → f x ≡ g x) → (xs : List X) → flat_map f xs ≡ flat_map g xs
flat_map_same f g same [] = refl
flat_map_same f g same (x ∷ xs) =
    ap (λ l. l ++ flat_map f xs) (same x) ∙ ap (λ l. g x ++ l) (flat_map_same f g same xs)

pub filter-flat_map : {X A : Type 0} (p : A → Bool) (f : X → List A) (xs : List X) → filter p (flat_map f xs) ≡ flat_map (λ x. filter p (f x)) xs
filter-flat_map p f [] = refl
filter-flat_map p f (x ∷ xs) = filter-append p (f x) (flat_map f xs) ∙ ap (λ l. filter p (f x) ++ l) (filter-flat_map p f xs)

kept_step : {X A : Type 0} (f : X → List A) (x : X) (xs : List X) (l : List A) (b : Bool) → l ≡ flat_map f xs → cond b (f x) [] ++ l ≡ flat_map f (cond b (x ∷ xs) xs)
kept_step f x xs l true e = ap (λ m. f x ++ m) e
kept_step f x xs l false e = e

-- the parts of what passes
pub flat_map_kept : {X A : Type 0} (q : X → Bool) (f : X → List A) (xs : List X) → flat_map (λ x. cond (q x) (f x) []) xs ≡ flat_map f (filter q xs)
flat_map_kept q f [] = refl
flat_map_kept q f (x ∷ xs) = kept_step f x (filter q xs) _ (q x) (flat_map_kept q f xs)

-- two tests, one after the other

both_step : {X : Type 0} (q : X → Bool) (x : X) (xs ys : List X) (b : Bool) → xs ≡ filter q ys → cond (b && q x) (x ∷ xs) xs ≡ filter q (cond b (x ∷ ys) ys)
both_step q x xs ys true e = ap (λ l. cond (q x) (x ∷ l) l) e
both_step q x xs ys false e = e

pub filter_both : {X : Type 0} (p q : X → Bool) (xs : List X) → filter (λ x. p x && q x) xs ≡ filter q (filter p xs)
filter_both p q [] = refl
filter_both p q (x ∷ xs) = both_step q x _ (filter p xs) (p x) (filter_both p q xs)

-- tests along a run of numbers

pub filter_same : (p q : ℕ → Bool) (a n : ℕ) → ((i : ℕ) → a ≤ i → i < a + n → p i ≡ q i) → filter p (range_with_len a n) ≡ filter q (range_with_len a n)
filter_same p q a zero same = refl
filter_same p q a (suc n) same =
    let here : p a ≡ q a = same a (omega arith) (omega arith) in
    let rest : filter p (range_with_len (a + 1) n) ≡ filter q (range_with_len (a + 1) n) = filter_same p q (a + 1) n (λ i from till. same i (omega arith) (omega arith)) in
    ap (λ b. cond b (a ∷ filter p (range_with_len (a + 1) n)) (filter p (range_with_len (a + 1) n))) here ∙ ap (λ l. cond (q a) (a ∷ l) l) rest

all_pass : (a n : ℕ) (b : Bool) → filter (λ _. b) (range_with_len a n) ≡ cond b (range_with_len a n) []
all_pass a zero true = refl
all_pass a zero false = refl
all_pass a (suc n) true = ap (λ l. a ∷ l) (all_pass (a + 1) n true)
all_pass a (suc n) false = all_pass (a + 1) n false

-- where the test is the same for all of them
pub filter_one : (p : ℕ → Bool) (b : Bool) (a n : ℕ) → ((i : ℕ) → a ≤ i → i < a + n → p i ≡ b) → filter p (range_with_len a n) ≡ cond b (range_with_len a n) []
filter_one p b a n same = filter_same p (λ _. b) a n same ∙ all_pass a n b

-- tests are free in order
pub and_turned : (a b : Bool) → (a && b) ≡ (b && a)
and_turned true true = refl
and_turned true false = refl
and_turned false true = refl
and_turned false false = refl
