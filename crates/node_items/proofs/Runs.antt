-- Lists of faults, and tests, along runs of numbers.
use Rattle.std.proofs.Common.{◌≡◌, ℕ, zero, suc, ◌+◌, ◌<◌, ◌≤◌, Bool, true, false, ◌&&◌, ◌⊎◌, List, [], ◌∷◌, ◌++◌, refl, ap, ◌∙◌, subst, inl, inr, arith}
use Rattle.std.proofs.lemmas.Bool.{cases_lt}
use Rattle.std.specs.List.{flat_map, list_all, range_with_len}
use Rattle.flat_layout.specs.declared.Broken.{Broken}

-- the list begins with this fault
abbrev pub BeginsWith : List Broken → Broken → Type 0
BeginsWith faults e = (rest : List Broken) × (faults ≡ e ∷ rest)

-- lists of faults, one after another
pub all_clean : (f : ℕ → List Broken) (a n : ℕ) → ((c : ℕ) → a ≤ c → c < a + n → f c ≡ []) → flat_map f (range_with_len a n) ≡ []
all_clean f a zero clean = refl
all_clean f a (suc n) clean =
    ap (λ s. s ++ flat_map f (range_with_len (a + 1) n)) (clean a (omega arith) (omega arith))
    ∙ all_clean f (a + 1) n (λ c from till. clean c (omega arith) (omega arith))

pub first_fault : (f : ℕ → List Broken) (a n c : ℕ) (e : Broken) → a ≤ c → c < a + n → ((d : ℕ) → a ≤ d → d < c → f d ≡ []) → BeginsWith (f c) e
    → BeginsWith (flat_map f (range_with_len a n)) e
first_fault f a zero c e from till before here = absurd (omega arith)
first_fault f a (suc n) c e from till before here = elim (cases_lt a c) [
  | inl below ↦
      let more = first_fault f (a + 1) n c e (omega arith) (omega arith) (λ d past under. before d (omega arith) under) here in
      (more.0, ap (λ s. s ++ flat_map f (range_with_len (a + 1) n)) (before a (omega arith) below) ∙ more.1)
  | inr above ↦
      let same : a ≡ c = omega arith in
      (here.0 ++ flat_map f (range_with_len (a + 1) n), ap (λ s. s ++ flat_map f (range_with_len (a + 1) n)) (ap f same ∙ here.1))
]

-- a test along a run of numbers
pub none_fails : (f : ℕ → Bool) (a n : ℕ) → ((c : ℕ) → a ≤ c → c < a + n → f c ≡ true) → list_all f (range_with_len a n) ≡ true
none_fails f a zero right = refl
none_fails f a (suc n) right =
    let here = right a (omega arith) (omega arith) in
    let rest = none_fails f (a + 1) n (λ c from till. right c (omega arith) (omega arith)) in
    rw (here, rest) refl

both_false : (b : Bool) → (b && false) ≡ false
both_false true = refl
both_false false = refl

pub one_fails : (f : ℕ → Bool) (a n c : ℕ) → a ≤ c → c < a + n → f c ≡ false → list_all f (range_with_len a n) ≡ false
one_fails f a zero c from till wrong = absurd (omega arith)
one_fails f a (suc n) c from till wrong = elim (cases_lt a c) [
  | inl below ↦
      ap (λ s. f a && s) (one_fails f (a + 1) n c (omega arith) (omega arith) wrong) ∙ both_false (f a)
  | inr above ↦
      let same : a ≡ c = omega arith in
      ap (λ s. s && list_all f (range_with_len (a + 1) n)) (ap f same ∙ wrong)
]

-- the same tests along two runs of numbers
pub all_along : (f g : ℕ → Bool) (a b n : ℕ) → ((c d j : ℕ) → c ≡ a + j → d ≡ b + j → j < n → f c ≡ g d) → list_all f (range_with_len a n) ≡ list_all g (range_with_len b n)
all_along f g a b zero same = refl
all_along f g a b (suc n) same =
    let here : f a ≡ g b = same a b 0 (omega arith) (omega arith) (omega arith) in
    let rest = all_along f g (a + 1) (b + 1) n (λ c d j p q below. same c d (j + 1) (omega arith) (omega arith) (omega arith)) in
    cc

-- a list of two parts begins in the first, or the first is empty
pub split_front : (xs ys : List Broken) (e : Broken) → BeginsWith (xs ++ ys) e → BeginsWith xs e ⊎ ((xs ≡ []) × BeginsWith ys e)
split_front [] ys e begins = inr (refl, begins)
split_front (x ∷ xs) ys e begins =
    let same : x ≡ e = let eq = begins.1 in cc in
    inl (xs, ap (λ d. d ∷ xs) same)

-- both parts of an empty list are empty
pub no_parts : (xs ys : List Broken) → xs ++ ys ≡ [] → (xs ≡ []) × (ys ≡ [])
no_parts [] ys none = (refl, none)
no_parts (x ∷ xs) ys none = cc

-- where the first fault of a run of nodes stands
pub record FaultIn (f : ℕ → List Broken) (a n : ℕ) (e : Broken) : Type 0 where
  pub at : ℕ
  pub after : a ≤ at
  pub before : at < a + n
  pub begins : BeginsWith (f at) e

pub fault_in : (f : ℕ → List Broken) (a n : ℕ) (e : Broken) → BeginsWith (flat_map f (range_with_len a n)) e → FaultIn f a n e
fault_in f a zero e begins = let eq = begins.1 in cc
fault_in f a (suc n) e begins = elim (split_front (f a) (flat_map f (range_with_len (a + 1) n)) e begins) [
  | inl here ↦ record { at = a; after = omega arith; before = omega arith; begins = here }
  | inr (none, later) ↦
      let rest = fault_in f (a + 1) n e later in
      record { at = rest.at; after = omega (arith, rest.after); before = omega (arith, rest.before); begins = rest.begins }
]

pub none_in : (f : ℕ → List Broken) (a n c : ℕ) → flat_map f (range_with_len a n) ≡ [] → a ≤ c → c < a + n → f c ≡ []
none_in f a zero c none after before = absurd (omega arith)
none_in f a (suc n) c none after before =
    let parts = no_parts (f a) (flat_map f (range_with_len (a + 1) n)) none in
    elim (cases_lt a c) [
      | inl below ↦ none_in f (a + 1) n c parts.1 (omega arith) (omega arith)
      | inr above ↦ let same : c ≡ a = omega arith in ap f same ∙ parts.0
    ]

-- where a test fails along a run of numbers
pub record FailsIn (f : ℕ → Bool) (a n : ℕ) : Type 0 where
  pub at : ℕ
  pub after : a ≤ at
  pub before : at < a + n
  pub wrong : f at ≡ false

pub fails_in : (f : ℕ → Bool) (a n : ℕ) → list_all f (range_with_len a n) ≡ false → FailsIn f a n
fails_in f a zero wrong = cc
fails_in f a (suc n) wrong = by_test (fails_in f (a + 1) n) (f a) refl
  where
    by_test : (list_all f (range_with_len (a + 1) n) ≡ false → FailsIn f (a + 1) n) → (b : Bool) → f a ≡ b → FailsIn f a (suc n)
    by_test later false here = record { at = a; after = omega arith; before = omega arith; wrong = here }
    by_test later true here =
        let rest = later (subst (λ b. (b && list_all f (range_with_len (a + 1) n)) ≡ false) here wrong) in
        record { at = rest.at; after = omega (arith, rest.after); before = omega (arith, rest.before); wrong = rest.wrong }

pub holds_in : (f : ℕ → Bool) (a n c : ℕ) → list_all f (range_with_len a n) ≡ true → a ≤ c → c < a + n → f c ≡ true
holds_in f a n c right after before = by_test (f c) refl
  where
    by_test : (b : Bool) → f c ≡ b → f c ≡ true
    by_test true here = here
    by_test false here = let wrong = one_fails f a n c after before here in cc
