-- Levels that are counted one by one, until one has a single node or they are too many.
use Rattle.std.proofs.Common.{◌≡◌, ℕ, ◌+◌, ◌-◌, ◌*◌, ◌^◌, ◌<◌, ◌≤◌, List, length, get_or, refl, sym, ap, ◌∙◌, subst, inl, inr, arith, below_more, get_or-set_other, get_or-set_same, length-set}
use Rattle.std.specs.Prelude.{slice_set}
use Rattle.std.specs.Int.{div_ceil}
use Rattle.std.proofs.lemmas.Bool.{cases_lt}
use Rattle.level_bounds.specs.Levels.{LacksLevels, too_many, node_count}
use Rattle.level_bounds.specs.Cut.{up_to}
use Rattle.level_bounds.specs.Growing.{IsBelowRoot, IsGrown}
use Rattle.level_bounds.proofs.Above.{cut_next, cut_none, cut_more}
use Rattle.level_bounds.proofs.Widths.{ceil_one, ceil_next, root_at, is_shape, two_below}

pub grown_start : (n s : ℕ) (through : List ℕ) → n ≤ 7036874417766 → get_or through 0 0 ≡ n → length through ≡ 49 → IsGrown n s 1 n through
grown_start n s through few first long = record {
  some = omega arith;
  few = omega arith;
  width = sym (ceil_one n s);
  wider = λ k from under. absurd (omega arith);
  sums = λ k under.
      let e : 0 ≡ k = omega arith in
      subst (λ j. get_or through j 0 ≡ node_count (up_to n s j)) e (first ∙ sym (cut_none n s));
  long = long;
  within = omega arith;
}

-- below the root all the levels above the leaves have two nodes
pub all_wider : {n s count last : ℕ} {through : List ℕ} → IsGrown n s count last through → IsBelowRoot count last → (k : ℕ) → 1 ≤ k → k < count → 1 < div_ceil n (s ^ k)
all_wider {n} {s} {count} {last} g below k from under = elim (cases_lt k (count - 1)) [
  | inl before ↦ g.wider k from before
  | inr here ↦ elim below [
    | inl leaves ↦ absurd (omega arith)
    | inr two ↦
        let e : count - 1 ≡ k = omega arith in
        subst (λ j. 1 < div_ceil n (s ^ j)) e (subst (λ m. 1 < m) g.width two)
  ]
]

-- so there are not many levels yet
pub grown_few : {n s count last : ℕ} {through : List ℕ} → IsGrown n s count last through → IsBelowRoot count last → 2 ≤ s → n ≤ 7036874417766 → count < 44
grown_few {n} {s} {count} {last} g below wide few = elim (cases_lt 1 count) [
  | inr one ↦ omega arith
  | inl more ↦
      let two : 1 < div_ceil n (s ^ (count - 1)) = all_wider g below (count - 1) (omega arith) (omega arith) in
      let near : count - 1 < 43 = two_below n s (count - 1) wide two (omega arith) in
      omega arith
]

next_width : (n s count last : ℕ) → 2 ≤ s → 1 ≤ count → last ≡ div_ceil n (s ^ (count - 1)) → div_ceil last s ≡ div_ceil n (s ^ count)
next_width n s count last wide some is =
    let e : count - 1 + 1 ≡ count = omega arith in
    ap (λ m. div_ceil m s) is ∙ ceil_next n s (count - 1) wide ∙ ap (λ k. div_ceil n (s ^ k)) e

next_sum : (n s count last next : ℕ) (through : List ℕ) → 2 ≤ s → IsGrown n s count last through → next ≡ div_ceil last s → get_or through (count - 1) 0 + next ≡ node_count (up_to n s count)
next_sum n s count last next through wide g is =
    let some : 1 ≤ count = g.some in
    let e : count - 1 + 1 ≡ count = omega arith in
    ap (λ m. m + next) (g.sums (count - 1) (omega arith))
    ∙ ap (λ m. node_count (up_to n s (count - 1)) + m) (is ∙ next_width n s count last wide g.some g.width ∙ ap (λ k. div_ceil n (s ^ k)) (sym e))
    ∙ sym (cut_next n s (count - 1))
    ∙ ap (λ k. node_count (up_to n s k)) e

pub grown_next : {n s count last : ℕ} {through : List ℕ} → IsGrown n s count last through → IsBelowRoot count last → (next : ℕ) → 2 ≤ s → n ≤ 7036874417766 → next ≡ div_ceil last s → get_or through (count - 1) 0 + next ≤ 7036874417766 → IsGrown n s (count + 1) next (slice_set through count (get_or through (count - 1) 0 + next))
grown_next {n} {s} {count} {last} {through} g below next wide few is within =
    let near : count < 44 = grown_few g below wide few in
    let long : length through ≡ 49 = g.long in
    let here : count < length through = omega arith in
    let sum = get_or through (count - 1) 0 + next in
    let e : count ≡ count + 1 - 1 = omega arith in
    let kept : get_or (slice_set through count sum) count 0 ≡ sum = get_or-set_same through count sum 0 here in
    record {
      some = omega arith;
      few = omega arith;
      width = is ∙ next_width n s count last wide g.some g.width ∙ ap (λ k. div_ceil n (s ^ k)) e;
      wider = λ k from under. all_wider g below k from (omega arith);
      sums = below_more _ _
          (λ k under. let ne : k ≡ count → ⊥ = omega arith in get_or-set_other through count k sum 0 ne ∙ g.sums k under)
          (kept ∙ next_sum n s count last next through wide g is);
      long = length-set through count sum ∙ long;
      within = subst (λ k. get_or (slice_set through count sum) k 0 ≤ 7036874417766) e (subst (λ m. m ≤ 7036874417766) (sym kept) within);
    }

-- the tree has more nodes than its lower levels
pub many_nodes : (n s k : ℕ) → 1 ≤ n → 2 ≤ s → 1 ≤ k → ((l : ℕ) → 1 ≤ l → l < k → 1 < div_ceil n (s ^ l)) → 7036874417766 < node_count (up_to n s k) → LacksLevels n s
many_nodes n s k some wide above wider many =
    let root = root_at n s some wide k in
    too_many (is_shape n s k some wide above wider root) refl refl (past (node_count (up_to n s k)) (node_count (up_to n s root.top)) many (cut_more n s k root.top root.later))
  where
    past : (a b : ℕ) → 7036874417766 < a → a ≤ b → 281474976710656 < 40 * b
    past a b many more = omega arith

pub many_leaves : (n s : ℕ) → 1 ≤ n → 2 ≤ s → 7036874417766 < n → LacksLevels n s
many_leaves n s some wide many =
    many_nodes n s 1 some wide (omega arith) (λ l from under. absurd (omega arith)) (past (node_count (up_to n s 0)) (node_count (up_to n s 1)) (cut_none n s) (cut_more n s 0 1 (omega arith)))
  where
    past : (a b : ℕ) → a ≡ n → a ≤ b → 7036874417766 < b
    past a b e more = omega arith

pub grown_many : {n s count last : ℕ} {through : List ℕ} → IsGrown n s count last through → IsBelowRoot count last → (next : ℕ) → 1 ≤ n → 2 ≤ s → next ≡ div_ceil last s → 7036874417766 < get_or through (count - 1) 0 + next → LacksLevels n s
grown_many {n} {s} {count} {last} {through} g below next some wide is many =
    many_nodes n s count some wide g.some (all_wider g below) (subst (λ m. 7036874417766 < m) (next_sum n s count last next through wide g is) many)
