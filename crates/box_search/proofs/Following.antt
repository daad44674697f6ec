-- What stands behind a node, where that is wanted, too.
use Rattle.std.proofs.Common.{◌≡◌, ◌≢◌, ◌↔◌, ℕ, zero, suc, ◌+◌, ◌-◌, ◌*◌, ◌/◌, ◌<◌, ◌≤◌, min, Bool, true, false, List, [], ◌∷◌, ◌++◌, length, get_or, inl, inr, refl, sym, ap, subst, ◌∙◌, arith}
use Rattle.std.specs.Prelude.{◌==◌, ◌&&◌, ◌||◌, cond, nat_lt, if◌then◌else◌, Option, Some, None}
use Rattle.std.specs.List.{AllByRecursion, filter, range_with_len}
use Rattle.std.proofs.Math.Nat.{mul-le-mul_left}
use Rattle.std.proofs.lemmas.Bool.{cases_lt}
use Rattle.order_keys.specs.declared.bounds.Bounds.{Bounds}
use Rattle.level_bounds.specs.Levels.{IsShape, Shape, children_end, first_child, place, width}
use Rattle.level_bounds.proofs.Places.{first_child_there, parent_there}
use Rattle.node_items.specs.declared.item.NodeItem.{NodeItem}
use Rattle.tree_search.specs.Wanted.{hits, is_wanted, passes}
use Rattle.tree_search.proofs.Descent.{parent_of, wanted_under}
use Rattle.box_search.specs.declared.nodes.Hit.{Hit}
use Rattle.box_search.specs.Following.{HaveNext, Tells, next_before, next_of, next_under, one_for}
use Rattle.box_search.specs.Runs.{hole_between, is_near}

-- one more hit
pub have_more : (next : ℕ → Option ℕ) (hits : List Hit) (h : Hit) → HaveNext next hits → h.next ≡ next h.number → HaveNext next (hits ++ h ∷ [])
have_more next [] h all is = (is, tt)
have_more next (g ∷ hits) h all is = (all.0, have_more next hits h all.1 is)

pub have_same : (next other : ℕ → Option ℕ) → ((i : ℕ) → next i ≡ other i) → (hits : List Hit) → HaveNext next hits → HaveNext other hits
have_same next other same [] all = tt
have_same next other same (h ∷ hits) all = (all.0 ∙ same h.number, have_same next other same hits all.1)

pub yes_lt : (a b : ℕ) → a < b → nat_lt a b ≡ true
yes_lt a b lt = grind (arith, lt)

pub no_lt : (a b : ℕ) → b ≤ a → nat_lt a b ≡ false
no_lt a b le = grind (arith, le)

picked : (a b c d : Bool) (o : Option ℕ) → a ≡ c → b ≡ d → (if a && b then o else None) ≡ (if c && d then o else None)
picked a b c d o ac bd = ap (λ x. if x && b then o else None) ac ∙ ap (λ x. if c && x then o else None) bd

min_lt : (s p w n i : ℕ) → i + 1 < s * (p + 1) → i + 1 < w → i + 1 < min (s * (p + 1)) w + n
min_lt s p w n i a b = omega (arith, a, b)

min_ge : (s p w i : ℕ) → w ≤ i + 1 → min (s * (p + 1)) w + 0 ≤ i + 1
min_ge s p w i a = omega (arith, a)

no_room : (s p w i : ℕ) → w ≤ i + 1 → s * (p + 1) < w → i + 1 < s * (p + 1) → ⊥
no_room s p w i a b c = omega (arith, a, b, c)

min_is : (s p w i : ℕ) → i < min (s * (p + 1)) w → s * (p + 1) ≤ i + 1 → i + 1 ≡ s * (p + 1)
min_is s p w i a b = omega (arith, a, b)

min_one : (s p w i : ℕ) → i + 1 ≡ s * (p + 1) → s * (p + 1) < w → i + 1 < min (s * (p + 1)) w + 1
min_one s p w i a b = omega (arith, a, b)

min_none : (s p w i : ℕ) → i + 1 ≡ s * (p + 1) → min (s * (p + 1)) w + 0 ≤ i + 1
min_none s p w i a = omega (arith, a)

next_group : (s q i : ℕ) → 2 ≤ s → i + 1 ≡ s * q → i + 1 < s * (q + 1)
next_group s q i wide is = omega (arith, wide, is)

nothing : (w : Bool) (o : Option ℕ) → (if w && false then o else None) ≡ None
nothing true o = refl
nothing false o = refl

apart : false ≡ true → ⊥
apart e = cc

eq_yes : (a c : ℕ) → a ≡ c → (a == c) ≡ true
eq_yes a c e = grind (arith, e)

eq_no : (a c : ℕ) → (a ≡ c → ⊥) → (a == c) ≡ false
eq_no a c e = grind (arith, e)

-- the children of a node: what stands behind each of them
module _ (t : Shape) (shape : IsShape t) (nodes : ℕ → NodeItem) (k p : ℕ) (passing : ℕ → Bool) (b : Bool) (mine : passing p ≡ true) (later : passing (p + 1) ≡ b)
    (there : b ≡ true → p + 1 < width t (k + 1)) where
  inner : (i : ℕ) → first_child t p ≤ i → i < children_end t k p → i + 1 < t.node_size * (p + 1) → next_under t nodes k passing i ≡ next_before t nodes k (children_end t k p + one_for b) i
  inner i from till less =
      let up : (i + 1) / t.node_size ≡ p = parent_of t.node_size p (i + 1) (omega (arith, from)) less in
      let o = Some (nodes (place t k (i + 1))).offset in
      picked (nat_lt (i + 1) (width t k)) (passing ((i + 1) / t.node_size)) (nat_lt (i + 1) (width t k)) true o refl (ap passing up ∙ mine)
      ∙ ends (nat_lt (i + 1) (width t k)) refl b refl
    where
      ends : (w : Bool) → nat_lt (i + 1) (width t k) ≡ w → (c : Bool) → b ≡ c
          → (if w && true then Some (nodes (place t k (i + 1))).offset else None) ≡ next_before t nodes k (children_end t k p + one_for c) i
      ends true is c same =
          let lt : i + 1 < width t k = grind (arith, is) in
          ap (λ x. if x then Some (nodes (place t k (i + 1))).offset else None) (sym (yes_lt (i + 1) (children_end t k p + one_for c) (min_lt t.node_size p (width t k) (one_for c) i less lt)))
      ends false is false same =
          let ge : width t k ≤ i + 1 = grind (arith, is) in
          ap (λ x. if x then Some (nodes (place t k (i + 1))).offset else None) (sym (no_lt (i + 1) (children_end t k p + 0) (min_ge t.node_size p (width t k) i ge)))
      ends false is true same =
          let ge : width t k ≤ i + 1 = grind (arith, is) in
          let more : t.node_size * (p + 1) < width t k = first_child_there t shape k (p + 1) (there same) in
          absurd (no_room t.node_size p (width t k) i ge more less)

  outer : (i : ℕ) → i < children_end t k p → t.node_size * (p + 1) ≤ i + 1 → next_under t nodes k passing i ≡ next_before t nodes k (children_end t k p + one_for b) i
  outer i till more =
      let wide : 2 ≤ t.node_size = shape.wide in
      let is : i + 1 ≡ t.node_size * (p + 1) = min_is t.node_size p (width t k) i till more in
      let up : (i + 1) / t.node_size ≡ p + 1 = parent_of t.node_size (p + 1) (i + 1) more (next_group t.node_size (p + 1) i wide is) in
      let o = Some (nodes (place t k (i + 1))).offset in
      picked (nat_lt (i + 1) (width t k)) (passing ((i + 1) / t.node_size)) (nat_lt (i + 1) (width t k)) b o refl (ap passing up ∙ later)
      ∙ ends b refl is
    where
      ends : (c : Bool) → b ≡ c → i + 1 ≡ t.node_size * (p + 1)
          → (if nat_lt (i + 1) (width t k) && c then Some (nodes (place t k (i + 1))).offset else None) ≡ next_before t nodes k (children_end t k p + one_for c) i
      ends true same is =
          let more : t.node_size * (p + 1) < width t k = first_child_there t shape k (p + 1) (there same) in
          ap (λ x. if x && true then Some (nodes (place t k (i + 1))).offset else None) (yes_lt (i + 1) (width t k) (omega (arith, is, more)))
          ∙ ap (λ x. if x then Some (nodes (place t k (i + 1))).offset else None) (sym (yes_lt (i + 1) (children_end t k p + 1) (min_one t.node_size p (width t k) i is more)))
      ends false same is =
          nothing (nat_lt (i + 1) (width t k)) (Some (nodes (place t k (i + 1))).offset) ∙ ap (λ x. if x then Some (nodes (place t k (i + 1))).offset else None) (sym (no_lt (i + 1) (children_end t k p + 0) (min_none t.node_size p (width t k) i is)))

  pub behind_child : (i : ℕ) → first_child t p ≤ i → i < children_end t k p → next_under t nodes k passing i ≡ next_before t nodes k (children_end t k p + one_for b) i
  behind_child i from till = elim (cases_lt (i + 1) (t.node_size * (p + 1))) [
    | inl less ↦ inner i from till less
    | inr more ↦ outer i till more
  ]

-- what a test tells of the nodes of a list
pub tells_here : (passing : ℕ → Bool) (ps : List ℕ) (i : ℕ) → Tells passing ps → i < length ps → passing (get_or ps i 0) ≡ true
tells_here passing [] i tells under = absurd (omega arith)
tells_here passing (p ∷ []) zero tells under = tells.0
tells_here passing (p ∷ []) (suc i) tells under = absurd (omega arith)
tells_here passing (p ∷ q ∷ ps) zero tells under = tells.0
tells_here passing (p ∷ q ∷ ps) (suc i) tells under = tells_here passing (q ∷ ps) i tells.2 (omega arith)

-- where one is followed by the node behind it, and where not
pub tells_next : (passing : ℕ → Bool) (ps : List ℕ) (i : ℕ) (b : Bool) → Tells passing ps → i < length ps
    → (b ≡ true) ↔ ((i + 1 < length ps) × (get_or ps (i + 1) 0 ≡ get_or ps i 0 + 1)) → passing (get_or ps i 0 + 1) ≡ b
tells_next passing [] i b tells under is = absurd (omega arith)
tells_next passing (p ∷ []) zero true tells under is = let f = is.0 refl in absurd (omega (arith, f.0))
tells_next passing (p ∷ []) zero false tells under is = tells.1
tells_next passing (p ∷ []) (suc i) b tells under is = absurd (omega arith)
tells_next passing (p ∷ q ∷ ps) zero true tells under is = let f = is.0 refl in tells.1 ∙ eq_yes q (p + 1) f.1
tells_next passing (p ∷ q ∷ ps) zero false tells under is = tells.1 ∙ eq_no q (p + 1) (λ e. apart (is.1 (omega arith, e)))
tells_next passing (p ∷ q ∷ ps) (suc i) b tells under is =
    let e : suc i + 1 ≡ suc (i + 1) = omega arith in
    tells_next passing (q ∷ ps) i b tells.2 (omega arith) (
      λ y. let f = is.0 y in (omega (arith, f.0), sym (ap (λ n. get_or (p ∷ q ∷ ps) n 0) e) ∙ f.1),
      λ f. is.1 (omega (arith, f.0), ap (λ n. get_or (p ∷ q ∷ ps) n 0) e ∙ f.1),
    )

-- the front of a list behind which the node behind does not follow, and what comes behind it
pub tells_later : (passing : ℕ → Bool) (xs ys : List ℕ) → Tells passing (xs ++ ys) → Tells passing ys
tells_later passing [] ys tells = tells
tells_later passing (x ∷ []) [] tells = tt
tells_later passing (x ∷ []) (y ∷ ys) tells = tells.2
tells_later passing (x ∷ z ∷ xs) ys tells = tells_later passing (z ∷ xs) ys tells.2

pub tells_front : (passing : ℕ → Bool) (xs ys : List ℕ) → Tells passing (xs ++ ys) → (length xs < length (xs ++ ys) → get_or (xs ++ ys) (length xs) 0 ≢ get_or (xs ++ ys) (length xs - 1) 0 + 1)
    → Tells passing xs
tells_front passing [] ys tells apart = tt
tells_front passing (x ∷ []) [] tells apart = tells
tells_front passing (x ∷ []) (y ∷ ys) tells apart = (tells.0, tells.1 ∙ eq_no y (x + 1) (apart (omega arith)))
tells_front passing (x ∷ z ∷ xs) ys tells apart =
    let e : length (x ∷ z ∷ xs) - 1 ≡ suc (length (z ∷ xs) - 1) = omega arith in
    (tells.0, tells.1, tells_front passing (z ∷ xs) ys tells.2 (λ lt is. apart (omega (arith, lt)) (is ∙ ap (λ n. get_or (x ∷ z ∷ (xs ++ ys)) n 0 + 1) (sym e))))

-- where a hole stays, the next node is not the one behind
pub hole_parts : (t : Shape) (shape : IsShape t) (k gap p q : ℕ) → q < width t (k + 1) → is_near t k gap p q ≡ false → q ≢ p + 1
hole_parts t shape k gap p q there far is =
    let more : t.node_size * (p + 1) < width t k = first_child_there t shape k (p + 1) (subst (λ n. n < width t (k + 1)) is there) in
    let none : hole_between t k p q ≡ 0 = ap (λ n. 40 * (t.node_size * n - children_end t k p)) is ∙ closed (t.node_size * (p + 1)) (width t k) more in
    closed_far (hole_between t k p q) gap none far
  where
    closed : (a w : ℕ) → a < w → 40 * (a - min a w) ≡ 0
    closed a w lt = omega (arith, lt)

    closed_far : (h gap : ℕ) → h ≡ 0 → (h == 0 || nat_lt h gap) ≡ false → ⊥
    closed_far h gap none far = grind (arith, none, far)

-- the test by which nodes are kept tells of those that were kept
abbrev pub within : (ℕ → Bool) → ℕ → ℕ → Bool
within keep w i = nat_lt i w && keep i

module _ (keep : ℕ → Bool) (w : ℕ) where
  -- what is behind a node that was kept, where the node in front of a was not, or is that one
  not_behind : (x a : ℕ) → (x + 1 < a → keep (x + 1) ≡ false) → x + 1 < a → within keep w (x + 1) ≡ false
  not_behind x a skip lt = either (nat_lt (x + 1) w) (keep (x + 1)) (skip lt)
    where
      either : (b c : Bool) → c ≡ false → (b && c) ≡ false
      either true c is = is
      either false c is = refl

  none_left : (x a : ℕ) → a ≡ w → x + 1 ≤ a → (x + 1 < a → keep (x + 1) ≡ false) → within keep w (x + 1) ≡ false
  none_left x a end le skip = elim (cases_lt (x + 1) a) [
    | inl lt ↦ not_behind x a skip lt
    | inr ge ↦ ap (λ b. b && keep (x + 1)) (no_lt (x + 1) w (omega (arith, end, ge)))
  ]

  is_next : (x a : ℕ) → a < w → x + 1 ≤ a → (x + 1 < a → keep (x + 1) ≡ false) → keep a ≡ true → within keep w (x + 1) ≡ (a == x + 1)
  is_next x a under le skip kept = elim (cases_lt (x + 1) a) [
    | inl lt ↦ not_behind x a skip lt ∙ sym (eq_no a (x + 1) (λ e. below (x + 1) a lt e))
    | inr ge ↦
        let same : x + 1 ≡ a = omega (arith, le, ge) in
        ap (λ b. b && keep (x + 1)) (yes_lt (x + 1) w (omega (arith, same, under))) ∙ ap keep same ∙ kept ∙ sym (eq_yes a (x + 1) (sym same))
  ]
    where
      below : (c a : ℕ) → c < a → a ≡ c → ⊥
      below c a lt e = omega (arith, lt, e)

  step : (x a : ℕ) (l : List ℕ) (b : Bool) → keep a ≡ b → within keep w x ≡ true → (keep a ≡ true → within keep w (x + 1) ≡ (a == x + 1)) → (keep a ≡ true → Tells (within keep w) (a ∷ l)) → (keep a ≡ false → Tells (within keep w) (x ∷ l))
      → Tells (within keep w) (x ∷ cond b (a ∷ l) l)
  step x a l true is here next more skip = (here, next is, more is)
  step x a l false is here next more skip = skip is

  behind_kept : (n a x : ℕ) → a + n ≡ w → x + 1 ≤ a → (x + 1 < a → keep (x + 1) ≡ false) → within keep w x ≡ true → Tells (within keep w) (x ∷ filter keep (range_with_len a n))
  behind_kept zero a x end le skip here = (here, none_left x a (omega (arith, end)) le skip)
  behind_kept (suc n) a x end le skip here =
      step x a (filter keep (range_with_len (a + 1) n)) (keep a) refl here (λ kept. is_next x a (omega (arith, end)) le skip kept)
      (λ kept. behind_kept n (a + 1) a (omega (arith, end)) (omega arith) (λ lt. absurd (omega (arith, lt))) (ap (λ b. b && keep a) (yes_lt a w (omega (arith, end))) ∙ kept))
      (λ left. behind_kept n (a + 1) x (omega (arith, end)) (omega (arith, le)) (λ lt. left_out x a left le skip) here)
    where
      left_out : (x a : ℕ) → keep a ≡ false → x + 1 ≤ a → (x + 1 < a → keep (x + 1) ≡ false) → keep (x + 1) ≡ false
      left_out x a left le skip = elim (cases_lt (x + 1) a) [
        | inl lt ↦ skip lt
        | inr ge ↦ let same : x + 1 ≡ a = omega (arith, le, ge) in ap keep same ∙ left
      ]

  first_step : (a : ℕ) (l : List ℕ) (b : Bool) → keep a ≡ b → (keep a ≡ true → Tells (within keep w) (a ∷ l)) → Tells (within keep w) l → Tells (within keep w) (cond b (a ∷ l) l)
  first_step a l true is more rest = more is
  first_step a l false is more rest = rest

  pub kept_tell : (n a : ℕ) → a + n ≡ w → Tells (within keep w) (filter keep (range_with_len a n))
  kept_tell zero a end = tt
  kept_tell (suc n) a end =
      first_step a (filter keep (range_with_len (a + 1) n)) (keep a) refl
      (λ kept. behind_kept n (a + 1) a (omega (arith, end)) (omega arith) (λ lt. absurd (omega (arith, lt))) (ap (λ b. b && keep a) (yes_lt a w (omega (arith, end))) ∙ kept))
      (kept_tell n (a + 1) (omega (arith, end)))

-- so it is for the hits of a level, and what is wanted behind a node of the level below
module _ (t : Shape) (shape : IsShape t) (nodes : ℕ → NodeItem) (test : Bounds → Bool) (k : ℕ) where
  abbrev pub is_hit : ℕ → Bool
  is_hit i = is_wanted t nodes test k i && passes t nodes test k i

  pub hits_tell : Tells (within is_hit (width t k)) (hits t nodes test k)
  unfolding hits
  hits_tell = kept_tell is_hit (width t k) (width t k) 0 (omega arith)

pub next_told : (t : Shape) (shape : IsShape t) (nodes : ℕ → NodeItem) (test : Bounds → Bool) (k : ℕ) → k < t.top → (i : ℕ)
    → next_under t nodes k (within (λ j. is_wanted t nodes test (k + 1) j && passes t nodes test (k + 1) j) (width t (k + 1))) i ≡ next_of t nodes test k i
next_told t shape nodes test k below i = told (nat_lt (i + 1) (width t k)) refl
  where
    told : (b : Bool) → nat_lt (i + 1) (width t k) ≡ b
        → next_under t nodes k (within (λ j. is_wanted t nodes test (k + 1) j && passes t nodes test (k + 1) j) (width t (k + 1))) i ≡ next_of t nodes test k i
    told true is =
        let lt : i + 1 < width t k = grind (arith, is) in
        let there = (parent_there t shape k (i + 1) lt below).there in
        let o = Some (nodes (place t k (i + 1))).offset in
        picked (nat_lt (i + 1) (width t k)) _ (nat_lt (i + 1) (width t k)) (is_wanted t nodes test k (i + 1)) o refl
        (ap (λ b. b && (is_wanted t nodes test (k + 1) ((i + 1) / t.node_size) && passes t nodes test (k + 1) ((i + 1) / t.node_size))) (yes_lt ((i + 1) / t.node_size) (width t (k + 1)) there)
        ∙ sym (wanted_under t nodes test k (i + 1) below))
    told false is =
        ap (λ b. if b && within (λ j. is_wanted t nodes test (k + 1) j && passes t nodes test (k + 1) j) (width t (k + 1)) ((i + 1) / t.node_size) then Some (nodes (place t k (i + 1))).offset else None) is
        ∙ sym (ap (λ b. if b && is_wanted t nodes test k (i + 1) then Some (nodes (place t k (i + 1))).offset else None) is)
