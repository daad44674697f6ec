-- Which numbers the nodes of each level have, and which nodes are a node's children and its parent.
use Rattle.std.proofs.Common.{◌≡◌, ℕ, ◌+◌, ◌-◌, ◌*◌, ◌/◌, ◌<◌, ◌≤◌, ap, subst, inl, inr, arith}
use Rattle.std.proofs.Math.Nat.{le_of_lt, mul-div-le, min-eq_left, min-eq_right}
use Rattle.std.proofs.lemmas.Bool.{cases_lt}
use Rattle.level_bounds.specs.Levels.{Shape, IsShape, IsNode, width, place, nodes_above, node_count, first_child, children_end}
use Rattle.level_bounds.proofs.Above.{levels_stand}
use Rattle.level_bounds.proofs.Stack.{apart, stack_tells}
use Rattle.level_bounds.proofs.Widths.{widths_fall, widths_some}

-- each level has a node
pub width_some : (t : Shape) → IsShape t → (k : ℕ) → 0 < width t k
width_some t shape k = widths_some t.leaves t.node_size shape.some shape.wide k

-- a place names one node
pub places_tell : (t : Shape) (k i j l : ℕ) → IsNode t k i → IsNode t j l → place t k i ≡ place t j l → (k ≡ j) × (i ≡ l)
places_tell t k i j l one other e =
    stack_tells (levels_stand t) k i j l one.level other.level one.there other.there e

-- levels follow one another, from the root down
pub root_first : (t : Shape) → place t t.top 0 ≡ 0
root_first t = ap (λ n. n + 0) (levels_stand t).root

follows : (a b w : ℕ) → a ≡ b + w → b + w ≡ a + 0
follows a b w e = omega arith

pub level_follows : (t : Shape) (k : ℕ) → 0 < k → k ≤ t.top → place t k (width t k) ≡ place t (k - 1) 0
level_follows t k above under =
    let e : k - 1 + 1 ≡ k = omega arith in
    let P = λ (j : ℕ). place t j (width t j) ≡ place t (k - 1) 0 in
    subst P e (follows (nodes_above t (k - 1)) (nodes_above t (k - 1 + 1)) (width t (k - 1 + 1)) ((levels_stand t).next (k - 1) (omega arith)))

inside : (a i w b : ℕ) → i < w → a + w ≤ b → a + i < b
inside a i w b under end = omega arith

-- a level stands inside the tree
pub level_within : (t : Shape) (k : ℕ) → k ≤ t.top → place t k (width t k) ≤ node_count t
level_within t k under = elim (cases_lt 0 k) [
  | inl above ↦ weaken (nodes_above t k + width t k) (nodes_above t 0) (width t 0) (apart (levels_stand t) 0 k above under)
  | inr leaf ↦ let e : 0 ≡ k = omega arith in subst (λ j. place t j (width t j) ≤ node_count t) e (all (node_count t))
]
  where
    weaken : (a b c : ℕ) → a ≤ b → a ≤ b + c
    weaken a b c le = omega arith

    all : (a : ℕ) → a ≤ a
    all a = omega arith

pub node_within : (t : Shape) (k i : ℕ) → IsNode t k i → place t k i < node_count t
node_within t k i is = inside (nodes_above t k) i (width t k) (node_count t) is.there (level_within t k is.level)

-- the inner nodes stand in front of the leaves
pub inner_in_front : (t : Shape) (k i : ℕ) → IsNode t (k + 1) i → place t (k + 1) i < place t 0 0
inner_in_front t k i is =
    inside (nodes_above t (k + 1)) i (width t (k + 1)) (nodes_above t 0 + 0) is.there (plus_none (nodes_above t (k + 1) + width t (k + 1)) (nodes_above t 0) (apart (levels_stand t) 0 (k + 1) (omega arith) is.level))
  where
    plus_none : (a b : ℕ) → a ≤ b → a ≤ b + 0
    plus_none a b le = omega arith

-- and no leaf does
pub front_is_inner : (t : Shape) (k i : ℕ) → place t k i < place t 0 0 → 0 < k
front_is_inner t k i front = elim (cases_lt 0 k) [
  | inl above ↦ above
  | inr leaf ↦ let e : k ≡ 0 = omega arith in absurd (at_leaf (nodes_above t k) (nodes_above t 0) (ap (nodes_above t) e) front)
]
  where
    at_leaf : (a b : ℕ) → a ≡ b → a + i < b + 0 → ⊥
    at_leaf a b same lt = omega arith

-- an inner node has a first child
pub first_child_there : (t : Shape) → IsShape t → (k i : ℕ) → i < width t (k + 1) → first_child t i < width t k
first_child_there t shape k i there = (widths_fall t.leaves t.node_size shape.wide).below k i there

-- the children of a node end where those of the next begin
pub children_follow : (t : Shape) → IsShape t → (k i : ℕ) → i + 1 < width t (k + 1) → children_end t k i ≡ first_child t (i + 1)
children_follow t shape k i there =
    min-eq_left (le_of_lt (first_child_there t shape k (i + 1) there))

-- the children of the last node end with the level
pub last_children_end : (t : Shape) → IsShape t → (k : ℕ) → children_end t k (width t (k + 1) - 1) ≡ width t k
last_children_end t shape k = elim (cases_lt (t.node_size * (width t (k + 1) - 1 + 1)) (width t k)) [
  | inl more ↦ absurd (last (width t (k + 1)) (width_some t shape (k + 1)) ((widths_fall t.leaves t.node_size shape.wide).above k (width t (k + 1) - 1 + 1) more))
  | inr all ↦ min-eq_right all
]
  where
    last : (w : ℕ) → 0 < w → w - 1 + 1 < w → ⊥
    last w some lt = omega arith

-- a node below the root has a parent
pub parent_there : (t : Shape) → IsShape t → (k c : ℕ) → c < width t k → k < t.top → IsNode t (k + 1) (c / t.node_size)
parent_there t shape k c there under = record {
  level = omega arith;
  there = (widths_fall t.leaves t.node_size shape.wide).above k (c / t.node_size) (let x : t.node_size * (c / t.node_size) ≤ c = mul-div-le c t.node_size in omega arith);
}
