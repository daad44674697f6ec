-- The inner nodes of a tree in the order of their numbers: the children of each stand behind those of the one before.
use Rattle.std.proofs.Common.{◌≡◌, ℕ, ◌+◌, ◌-◌, ◌*◌, ◌<◌, ◌≤◌, zero, suc, inl, inr, sym, ap, ◌∙◌, subst, arith}
use Rattle.std.proofs.lemmas.Bool.{cases_lt}
use Rattle.level_bounds.specs.Levels.{Shape, IsShape, IsNode, width, place, nodes_above, first_child, children_end}
use Rattle.level_bounds.proofs.Stack.{Stands}
use Rattle.level_bounds.proofs.Above.{levels_stand}
use Rattle.level_bounds.proofs.Places.{width_some, places_tell, root_first, level_follows, children_follow, last_children_end}

-- the node with this number, on a level that is no lower than k
record Above (a w : ℕ → ℕ) (top k number : ℕ) : Type 0 where
  pub level : ℕ
  pub within : ℕ
  pub higher : k ≤ level
  pub under : level ≤ top
  pub there : within < w level
  pub stands : number ≡ a level + within

node_above : {a w : ℕ → ℕ} {top : ℕ} → Stands a w top → (d k number : ℕ) → k + d ≡ top → number < a k + w k → Above a w top k number
node_above {a} {w} {top} s zero k number e before =
    let root : k ≡ top = omega arith in
    let none : a k ≡ 0 = ap a root ∙ s.root in
    record { level = k; within = number; higher = omega arith; under = omega arith; there = omega arith; stands = omega arith }
node_above {a} {w} {top} s (suc d) k number e before = elim (cases_lt number (a k)) [
  | inl lower ↦
      let up = node_above s d (k + 1) number (omega arith) (omega (arith, s.next k (omega arith))) in
      record { level = up.level; within = up.within; higher = omega (arith, up.higher); under = up.under; there = up.there; stands = up.stands }
  | inr here ↦ record { level = k; within = number - a k; higher = omega arith; under = omega arith; there = omega arith; stands = omega arith }
]

-- the inner node with this number
pub record Inner (t : Shape) (number : ℕ) : Type 0 where
  pub k : ℕ
  pub i : ℕ
  pub is : IsNode t (k + 1) i
  pub stands : number ≡ place t (k + 1) i

pub inner_there : (t : Shape) → IsShape t → (number : ℕ) → number < place t 0 0 → Inner t number
inner_there t shape number before =
    let s = levels_stand t in
    let all = node_above s (t.top - 1) 1 number (omega (arith, shape.above)) (in_front (nodes_above t 0) (nodes_above t 1) (width t 1) number (s.next 0 (omega (arith, shape.above))) before) in
    let e : all.level ≡ all.level - 1 + 1 = omega (arith, all.higher) in
    record {
      k = all.level - 1;
      i = all.within;
      is = subst (λ l. IsNode t l all.within) e (record { level = all.under; there = all.there });
      stands = all.stands ∙ ap (λ l. place t l all.within) e;
    }
  where
    in_front : (a b w n : ℕ) → a ≡ b + w → n < a + 0 → n < b + w
    in_front a b w n e before = omega arith

-- the root's children stand behind it
pub first_group : (t : Shape) → IsShape t → (k i : ℕ) → IsNode t (k + 1) i → 0 ≡ place t (k + 1) i → place t k (first_child t i) ≡ 1
first_group t shape k i is e =
    let one : 0 < width t t.top = width_some t shape t.top in
    let root : IsNode t t.top 0 = record { level = omega arith; there = one } in
    let same = places_tell t (k + 1) i t.top 0 is root (sym e ∙ sym (root_first t)) in
    let level : k ≡ t.top - 1 = omega (arith, same.0) in
    ap (λ n. place t k (first_child t n)) same.1
    ∙ ap (place t k) (none t.node_size)
    ∙ ap (λ l. place t l 0) level
    ∙ sym (level_follows t t.top (omega (arith, shape.above)) (omega arith))
    ∙ ap (place t t.top) shape.root
    ∙ second (nodes_above t t.top) (root_first t)
  where
    none : (s : ℕ) → s * 0 ≡ 0
    none s = omega arith

    second : (a : ℕ) → a + 0 ≡ 0 → a + 1 ≡ 1
    second a none = omega arith

-- the children of the next inner node stand behind those of one
pub next_group : (t : Shape) → IsShape t → (k i l j : ℕ) → IsNode t (k + 1) i → IsNode t (l + 1) j → place t (k + 1) i + 1 ≡ place t (l + 1) j → place t k (children_end t k i) ≡ place t l (first_child t j)
next_group t shape k i l j one next e = elim (cases_lt (i + 1) (width t (k + 1))) [
  | inl more ↦
      let behind : IsNode t (k + 1) (i + 1) = record { level = one.level; there = more } in
      let same = places_tell t (k + 1) (i + 1) (l + 1) j behind next (further (nodes_above t (k + 1)) i _ e) in
      let level : k ≡ l = omega (arith, same.0) in
      ap (place t k) (children_follow t shape k i more) ∙ ap (λ n. place t k (first_child t n)) same.1 ∙ ap (λ n. place t n (first_child t j)) level
  | inr last ↦
      let all : i + 1 ≡ width t (k + 1) = ends i (width t (k + 1)) last one.there in
      let first : IsNode t k 0 = record { level = omega (arith, one.level); there = width_some t shape k } in
      let below : place t (k + 1) (width t (k + 1)) ≡ place t k 0 = level_follows t (k + 1) (omega arith) one.level ∙ ap (λ n. place t n 0) (less k) in
      let same = places_tell t k 0 (l + 1) j first next (sym below ∙ ap (place t (k + 1)) (sym all) ∙ one_on (nodes_above t (k + 1)) i ∙ e) in
      let level : k - 1 ≡ l = omega (arith, same.0) in
      ap (λ n. place t k (children_end t k n)) (at_end i (width t (k + 1)) all)
      ∙ ap (place t k) (last_children_end t shape k)
      ∙ level_follows t k (omega (arith, same.0)) first.level
      ∙ ap (λ n. place t n 0) level
      ∙ ap (place t l) (none t.node_size)
      ∙ ap (λ n. place t l (first_child t n)) same.1
]
  where
    further : (a i n : ℕ) → a + i + 1 ≡ n → a + (i + 1) ≡ n
    further a i n e = omega arith

    one_on : (a i : ℕ) → a + (i + 1) ≡ a + i + 1
    one_on a i = omega arith

    none : (s : ℕ) → 0 ≡ s * 0
    none s = omega arith

    ends : (i w : ℕ) → w ≤ i + 1 → i < w → i + 1 ≡ w
    ends i w last there = omega arith

    less : (k : ℕ) → k + 1 - 1 ≡ k
    less k = omega arith

    at_end : (i w : ℕ) → i + 1 ≡ w → i ≡ w - 1
    at_end i w e = omega arith
