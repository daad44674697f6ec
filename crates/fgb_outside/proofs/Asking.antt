-- How what several reads asked for follows from what each asked for.
use Rattle.std.proofs.Common.{◌≡◌, ℕ, ◌+◌, ◌-◌, ◌≤◌, List, [], ◌∷◌, ◌++◌, length, zero, suc, refl, sym, ap, ◌∙◌, append_assoc, arith}
use Rattle.std.specs.Prelude.{Result, Ok}
use Rattle.std.specs.List.{AllByRecursion, range_with_len}
use Rattle.std.proofs.lemmas.List.{append-nil}
use Rattle.std.proofs.lemmas.Grind.{flat_map-append}
use Rattle.fgb_outside.specs.declared.sources.SourceError.{SourceError}
use Rattle.fgb_outside.specs.Source.{Source, ReadsAt, added}
use Rattle.fgb_outside.specs.Asked.{positions, Reads, ReadsFront, Ascends, IsInside}
use Rattle.fgb_outside.proofs.Shown.{added-added, added-none, keeps_same, keeps_trans}

-- ranges

pub range_with_len-append : (a m n : ℕ) → range_with_len a (m + n) ≡ range_with_len a m ++ range_with_len (a + m) n
range_with_len-append a zero n =
    let e : 0 + n ≡ n = omega arith in
    let f : a ≡ a + 0 = omega arith in
    ap (range_with_len a) e ∙ ap (λ k. range_with_len k n) f
range_with_len-append a (suc m) n =
    let e : suc m + n ≡ suc (m + n) = omega arith in
    let f : a + 1 + m ≡ a + suc m = omega arith in
    ap (range_with_len a) e ∙ ap (λ l. a ∷ l) (range_with_len-append (a + 1) m n) ∙ ap (λ k. a ∷ (range_with_len (a + 1) m ++ range_with_len k n)) f

-- a range from a to c through b
pub range_split : (a b c : ℕ) → a ≤ b → b ≤ c → range_with_len a (c - a) ≡ range_with_len a (b - a) ++ range_with_len b (c - b)
range_split a b c ab bc =
    let e : c - a ≡ (b - a) + (c - b) = omega arith in
    let f : a + (b - a) ≡ b = omega arith in
    ap (range_with_len a) e ∙ range_with_len-append a (b - a) (c - b) ∙ ap (λ k. range_with_len a (b - a) ++ range_with_len k (c - b)) f

pub AllByRecursion-append : {X : Type 0} (P : X → Type 0) (xs ys : List X) → AllByRecursion P xs → AllByRecursion P ys → AllByRecursion P (xs ++ ys)
AllByRecursion-append P [] ys p q = q
AllByRecursion-append P (x ∷ xs) ys p q = (p.0, AllByRecursion-append P xs ys p.1 q)

pub AllByRecursion-weaken : {X : Type 0} (P Q : X → Type 0) → ((x : X) → P x → Q x) → (xs : List X) → AllByRecursion P xs → AllByRecursion Q xs
AllByRecursion-weaken P Q f [] p = tt
AllByRecursion-weaken P Q f (x ∷ xs) p = (f x p.0, AllByRecursion-weaken P Q f xs p.1)

pub positions-append : (ps qs : List (ℕ × ℕ)) → positions (ps ++ qs) ≡ positions ps ++ positions qs
positions-append ps qs = flat_map-append (λ p. range_with_len p.0 p.1) ps qs

-- just these positions

pub reads_nothing : {P : ℕ × ℕ → Type 0} (s : Source) → Reads P s s []
reads_nothing s = record { keeps = keeps_same s; pairs = []; asks = refl; allowed = tt; told = sym (added-none s.asked) }

-- one read
pub reads_one : {P : ℕ × ℕ → Type 0} {T : Type 0} {old new : Source} {at : ℕ} {into : List ℕ} {value : T} → P (at, length into) → ReadsAt old new at into (Ok value) → Reads P old new (range_with_len at (length into))
reads_one {at = at} {into = into} p r = record {
  keeps = r.keeps;
  pairs = (at, length into) ∷ [];
  asks = append-nil (range_with_len at (length into));
  allowed = (p, tt);
  told = r.asked;
}

pub reads_reads : {P : ℕ × ℕ → Type 0} {a b c : Source} {xs ys : List ℕ} → Reads P a b xs → Reads P b c ys → Reads P a c (xs ++ ys)
reads_reads {P = P} {a = a} {xs = xs} p q = record {
  keeps = keeps_trans p.keeps q.keeps;
  pairs = p.pairs ++ q.pairs;
  asks = positions-append p.pairs q.pairs ∙ ap (λ l. l ++ positions q.pairs) p.asks ∙ ap (λ l. xs ++ l) q.asks;
  allowed = AllByRecursion-append P p.pairs q.pairs p.allowed q.allowed;
  told = q.told ∙ ap (λ t. added t q.pairs) p.told ∙ added-added a.asked p.pairs q.pairs;
}

pub reads_weaken : (P Q : ℕ × ℕ → Type 0) {a b : Source} {xs : List ℕ} → ((p : ℕ × ℕ) → P p → Q p) → Reads P a b xs → Reads Q a b xs
reads_weaken P Q f r = record { keeps = r.keeps; pairs = r.pairs; asks = r.asks; allowed = AllByRecursion-weaken P Q f r.pairs r.allowed; told = r.told }

pub reads_along : {P : ℕ × ℕ → Type 0} {a b : Source} (xs ys : List ℕ) → xs ≡ ys → Reads P a b xs → Reads P a b ys
reads_along xs ys e r = record { keeps = r.keeps; pairs = r.pairs; asks = r.asks ∙ e; allowed = r.allowed; told = r.told }

-- a front of them

pub front_nothing : {P : ℕ × ℕ → Type 0} (s : Source) (xs : List ℕ) → ReadsFront P s s xs
front_nothing s xs = record { keeps = keeps_same s; pairs = []; rest = xs; asks = refl; allowed = tt; told = λ _. sym (added-none s.asked) }

-- one read that failed
pub front_one : {P : ℕ × ℕ → Type 0} {T : Type 0} {old new : Source} {at : ℕ} {into : List ℕ} {result : Result T SourceError} → P (at, length into) → ReadsAt old new at into result → ReadsFront P old new (range_with_len at (length into))
front_one {at = at} {into = into} p r = record {
  keeps = r.keeps;
  pairs = (at, length into) ∷ [];
  rest = [];
  asks = append-nil _ ∙ append-nil (range_with_len at (length into));
  allowed = (p, tt);
  told = r.asked_told;
}

-- all of them are a front of them and more
pub reads_front : {P : ℕ × ℕ → Type 0} {a b : Source} {xs : List ℕ} (ys : List ℕ) → Reads P a b xs → ReadsFront P a b (xs ++ ys)
reads_front ys r = record { keeps = r.keeps; pairs = r.pairs; rest = ys; asks = ap (λ l. l ++ ys) r.asks; allowed = r.allowed; told = λ _. r.told }

pub front_longer : {P : ℕ × ℕ → Type 0} {a b : Source} {xs : List ℕ} (ys : List ℕ) → ReadsFront P a b xs → ReadsFront P a b (xs ++ ys)
front_longer ys r = record {
  keeps = r.keeps;
  pairs = r.pairs;
  rest = r.rest ++ ys;
  asks = sym (append_assoc (positions r.pairs) r.rest ys) ∙ ap (λ l. l ++ ys) r.asks;
  allowed = r.allowed;
  told = r.told;
}

pub reads_then_front : {P : ℕ × ℕ → Type 0} {a b c : Source} {xs ys : List ℕ} → Reads P a b xs → ReadsFront P b c ys → ReadsFront P a c (xs ++ ys)
reads_then_front {P = P} {a = a} {xs = xs} p q = record {
  keeps = keeps_trans p.keeps q.keeps;
  pairs = p.pairs ++ q.pairs;
  rest = q.rest;
  asks = ap (λ l. l ++ q.rest) (positions-append p.pairs q.pairs) ∙ append_assoc (positions p.pairs) (positions q.pairs) q.rest ∙ ap (λ l. l ++ (positions q.pairs ++ q.rest)) p.asks ∙ ap (λ l. xs ++ l) q.asks;
  allowed = AllByRecursion-append P p.pairs q.pairs p.allowed q.allowed;
  told = λ is. q.told is ∙ ap (λ t. added t q.pairs) p.told ∙ added-added a.asked p.pairs q.pairs;
}

pub front_weaken : (P Q : ℕ × ℕ → Type 0) {a b : Source} {xs : List ℕ} → ((p : ℕ × ℕ) → P p → Q p) → ReadsFront P a b xs → ReadsFront Q a b xs
front_weaken P Q f r = record { keeps = r.keeps; pairs = r.pairs; rest = r.rest; asks = r.asks; allowed = AllByRecursion-weaken P Q f r.pairs r.allowed; told = r.told }

pub front_along : {P : ℕ × ℕ → Type 0} {a b : Source} (xs ys : List ℕ) → xs ≡ ys → ReadsFront P a b xs → ReadsFront P a b ys
front_along xs ys e r = record { keeps = r.keeps; pairs = r.pairs; rest = r.rest; asks = r.asks ∙ e; allowed = r.allowed; told = r.told }

-- a pair inside a place is inside a wider one
pub inside_wider : (from to low high : ℕ) → low ≤ from → to ≤ high → (p : ℕ × ℕ) → IsInside from to p → IsInside low high p
inside_wider from to low high a b p is = (omega arith, omega arith)

-- ascending

pub ascends_range : (a n : ℕ) → Ascends a (a + n) (range_with_len a n)
ascends_range a zero = omega arith
ascends_range a (suc n) =
    let e : a + 1 + n ≡ a + suc n = omega arith in
    (omega arith, rw (← e) (ascends_range (a + 1) n))

-- wider bounds
pub ascends_wider : (low low' high high' : ℕ) (xs : List ℕ) → low' ≤ low → high ≤ high' → Ascends low high xs → Ascends low' high' xs
ascends_wider low low' high high' [] l h p = omega arith
ascends_wider low low' high high' (x ∷ xs) l h p = (omega arith, ascends_wider (x + 1) (x + 1) high high' xs (omega arith) h p.1)

-- one list and then another from its end on
pub ascends_append : (low mid high : ℕ) (xs ys : List ℕ) → Ascends low mid xs → Ascends mid high ys → Ascends low high (xs ++ ys)
ascends_append low mid high [] ys p q = ascends_wider mid low high high ys p (omega arith) q
ascends_append low mid high (x ∷ xs) ys p q = (p.0, ascends_append (x + 1) mid high xs ys p.1 q)

ascends_bounds : (low high : ℕ) (xs : List ℕ) → Ascends low high xs → low ≤ high
ascends_bounds low high [] p = p
ascends_bounds low high (x ∷ xs) p = omega (arith, ascends_bounds (x + 1) high xs p.1)

-- a front of an ascending list ascends
pub ascends_front : (low high : ℕ) (xs ys : List ℕ) → Ascends low high (xs ++ ys) → Ascends low high xs
ascends_front low high [] ys p = ascends_bounds low high ys p
ascends_front low high (x ∷ xs) ys p = (p.0, ascends_front (x + 1) high xs ys p.1)
