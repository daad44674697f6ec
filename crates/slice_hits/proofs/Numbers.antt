-- The level of a node and its place there, by its number.
use Rattle.std.proofs.Common.{◌≡◌, ℕ, zero, suc, ◌+◌, ◌-◌, ◌<◌, ◌≤◌, Bool, true, false, ◌++◌, length, Some, refl, sym, ap, ◌∙◌, inl, inr, arith}
use Rattle.std.specs.Prelude.{ltb}
use Rattle.std.specs.List.{filter, range_with_len}
use Rattle.std.proofs.lemmas.Bool.{cases_lt, lt-ltb, ltb-true}
use Rattle.std.proofs.lemmas.List.{append-nil}
use Rattle.std.proofs.lemmas.List.Elements.{filter-append}
use Rattle.fgb_outside.proofs.Asking.{range_with_len-append}
use Rattle.level_bounds.specs.Levels.{Shape, IsShape, IsNode, width, place, nodes_above, node_count}
use Rattle.level_bounds.proofs.Stack.{apart}
use Rattle.level_bounds.proofs.Above.{levels_stand}
use Rattle.index_reader.proofs.Order.{inner_there}
use Rattle.tree_search.proofs.Filters.{filter_one}
use Rattle.slice_hits.specs.Preorder.{level_of, index_of, first_leaf, leaf_at}

true_or_false : (b : Bool) → (b ≡ true → ⊥) → b ≡ false
true_or_false true not = absurd (not refl)
true_or_false false not = refl

length_range : (a n : ℕ) → length (range_with_len a n) ≡ n
length_range a zero = refl
length_range a (suc n) = omega (arith, length_range (a + 1) n)

module _ (t : Shape) where
  -- the levels that begin behind a node are those below its own
  below_begins : (k i m : ℕ) → IsNode t k i → m < k → place t k i < place t m 0
  below_begins k i m is lower = in_front (nodes_above t k) (width t k) (nodes_above t m) (apart (levels_stand t) m k lower is.level) is.there
    where
      in_front : (a w b : ℕ) → a + w ≤ b → i < w → a + i < b + 0
      in_front a w b le lt = omega arith

  above_begins : (k i m : ℕ) → IsNode t k i → k ≤ m → m ≤ t.top → place t k i < place t m 0 → ⊥
  above_begins k i m is over under lt = elim (cases_lt k m) [
    | inl higher ↦ apart_not (nodes_above t m) (width t m) (nodes_above t k) (apart (levels_stand t) k m higher under) lt
    | inr le ↦ let e : k ≡ m = omega arith in same (nodes_above t k) (nodes_above t m) (ap (nodes_above t) e) lt
  ]
    where
      apart_not : (a w b : ℕ) → a + w ≤ b → b + i < a + 0 → ⊥
      apart_not a w b le lt = omega arith

      same : (a b : ℕ) → a ≡ b → a + i < b + 0 → ⊥
      same a b e lt = omega arith

  pub level_is : (k i : ℕ) → IsNode t k i → level_of t (place t k i) ≡ k
  unfolding level_of
  level_is k i is =
      let f = λ (m : ℕ). ltb (place t k i) (place t m 0) in
      let all : k + (t.top - k) ≡ t.top = omega (arith, is.level) in
      ap (λ n. length (filter f (range_with_len 0 n))) (sym all)
      ∙ count_under f k (t.top - k) (λ m lower. lt-ltb _ _ (below_begins k i m is lower)) (λ m over under. true_or_false _ (λ yes. above_begins k i m is over (omega (arith, all)) (ltb-true _ _ yes)))
    where
      count_under : (f : ℕ → Bool) (k n : ℕ) → ((m : ℕ) → m < k → f m ≡ true) → ((m : ℕ) → k ≤ m → m < k + n → f m ≡ false) → length (filter f (range_with_len 0 (k + n))) ≡ k
      count_under f k n front back =
          let one = filter_one f true 0 k (λ m from till. front m (omega arith)) in
          let two = filter_one f false (0 + k) n (λ m from till. back m (omega arith) (omega arith)) in
          ap (λ l. length (filter f l)) (range_with_len-append 0 k n)
          ∙ ap length (filter-append f (range_with_len 0 k) (range_with_len (0 + k) n))
          ∙ ap (λ l. length (l ++ filter f (range_with_len (0 + k) n))) one
          ∙ ap (λ l. length (range_with_len 0 k ++ l)) two
          ∙ ap length (append-nil (range_with_len 0 k)) ∙ length_range 0 k

  pub index_is : (k i : ℕ) → IsNode t k i → index_of t (place t k i) ≡ i
  index_is k i is = ap (λ m. place t k i - place t m 0) (level_is k i is) ∙ within (nodes_above t k)
    where
      within : (a : ℕ) → a + i - (a + 0) ≡ i
      within a = omega arith

  pub leaf_is : (k i : ℕ) → IsNode t k i → leaf_at t (Some (place t k i)) ≡ first_leaf t k i
  unfolding leaf_at
  leaf_is k i is = ap (λ m. first_leaf t m (index_of t (place t k i))) (level_is k i is) ∙ ap (first_leaf t k) (index_is k i is)

  -- each number is that of a node
  pub record Numbered (number : ℕ) : Type 0 where
    pub level : ℕ
    pub index : ℕ
    pub is : IsNode t level index
    pub stands : number ≡ place t level index

  pub node_there : IsShape t → (number : ℕ) → number < node_count t → Numbered number
  node_there shape number within = elim (cases_lt number (place t 0 0)) [
    | inl front ↦
        let inner = inner_there t shape number front in
        record { level = inner.k + 1; index = inner.i; is = inner.is; stands = inner.stands }
    | inr back ↦ record {
      level = 0;
      index = number - place t 0 0;
      is = record { level = omega arith; there = here (nodes_above t 0) (width t 0) back within };
      stands = behind (nodes_above t 0) back;
    }
  ]
    where
      here : (a w : ℕ) → a + 0 ≤ number → number < a + w → number - (a + 0) < w
      here a w back within = omega arith

      behind : (a : ℕ) → a + 0 ≤ number → number ≡ a + (number - (a + 0))
      behind a back = omega arith
