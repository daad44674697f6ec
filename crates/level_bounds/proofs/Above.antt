-- How many nodes stand above a level.
use Rattle.std.proofs.Common.{◌≡◌, ℕ, ◌+◌, ◌-◌, ◌^◌, ◌<◌, ◌≤◌, suc, ap, ◌∙◌, zero-add, arith}
use Rattle.std.specs.Int.{div_ceil}
use Rattle.std.specs.List.{range_with_len, sum_by}
use Rattle.level_bounds.specs.Levels.{Shape, width, nodes_above, node_count}
use Rattle.level_bounds.specs.Cut.{up_to}
use Rattle.level_bounds.proofs.Stack.{Stands}
use Rattle.level_bounds.proofs.Sums.{sum_next, sum_split}
use Rattle.level_bounds.proofs.Widths.{ceil_one}

stands_next : (w : ℕ → ℕ) (top k : ℕ) → k < top → sum_by w (range_with_len (k + 1) (top - k)) ≡ sum_by w (range_with_len (k + 1 + 1) (top - (k + 1))) + w (k + 1)
stands_next w top k under =
    let e : top - k ≡ suc (top - (k + 1)) = omega arith in
    let x : sum_by w (range_with_len (k + 1) (top - k)) ≡ sum_by w (range_with_len (k + 1) (suc (top - (k + 1)))) = ap (λ n. sum_by w (range_with_len (k + 1) n)) e in
    let y : sum_by w (range_with_len (k + 1) (suc (top - (k + 1)))) ≡ w (k + 1) + sum_by w (range_with_len (k + 1 + 1) (top - (k + 1))) = sum_next w (k + 1) (top - (k + 1)) in
    omega arith

stands_root : (w : ℕ → ℕ) (top : ℕ) → sum_by w (range_with_len (top + 1) (top - top)) ≡ 0
stands_root w top = let e : top - top ≡ 0 = omega arith in ap (λ n. sum_by w (range_with_len (top + 1) n)) e

pub levels_stand : (t : Shape) → Stands (nodes_above t) (width t) t.top
unfolding nodes_above
levels_stand t = record { next = stands_next (width t) t.top; root = stands_root (width t) t.top }

cut_parts : (w : ℕ → ℕ) (k top m n : ℕ) → k ≤ top → m ≡ k → n ≡ top → (sum_by w (range_with_len 1 m) + w 0) + sum_by w (range_with_len (k + 1) (top - k)) ≡ sum_by w (range_with_len 1 n) + w 0
cut_parts w k top m n under lower all =
    let e : m + (top - k) ≡ n = omega arith in
    let f : 1 + m ≡ k + 1 = omega arith in
    let x : sum_by w (range_with_len 1 (m + (top - k))) ≡ sum_by w (range_with_len 1 m) + sum_by w (range_with_len (1 + m) (top - k)) = sum_split w 1 m (top - k) in
    let y : sum_by w (range_with_len 1 (m + (top - k))) ≡ sum_by w (range_with_len 1 n) = ap (λ l. sum_by w (range_with_len 1 l)) e in
    let z : sum_by w (range_with_len (1 + m) (top - k)) ≡ sum_by w (range_with_len (k + 1) (top - k)) = ap (λ l. sum_by w (range_with_len l (top - k))) f in
    omega arith

-- a tree has the nodes of its levels up to one, and those above
pub cut_count : (t : Shape) (k : ℕ) → k ≤ t.top → node_count (up_to t.leaves t.node_size k) + nodes_above t k ≡ node_count t
unfolding nodes_above
cut_count t k under = cut_parts (width t) k t.top (k - 0) (t.top - 0) under (omega arith) (omega arith)

more_nodes : (w : ℕ → ℕ) (k m n : ℕ) → m ≡ k → n ≡ k + 1 → sum_by w (range_with_len 1 n) + w 0 ≡ (sum_by w (range_with_len 1 m) + w 0) + w (k + 1)
more_nodes w k m n lower all =
    let e : m + 1 ≡ n = omega arith in
    let f : 1 + m ≡ k + 1 = omega arith in
    let x : sum_by w (range_with_len 1 (m + 1)) ≡ sum_by w (range_with_len 1 m) + sum_by w (range_with_len (1 + m) 1) = sum_split w 1 m 1 in
    let y : sum_by w (range_with_len 1 (m + 1)) ≡ sum_by w (range_with_len 1 n) = ap (λ l. sum_by w (range_with_len 1 l)) e in
    let z : sum_by w (range_with_len (1 + m) 1) ≡ w (1 + m) = zero-add (w (1 + m)) in
    let last : w (1 + m) ≡ w (k + 1) = ap w f in
    omega arith

-- one more level
pub cut_next : (leaves node_size k : ℕ) → node_count (up_to leaves node_size (k + 1)) ≡ node_count (up_to leaves node_size k) + div_ceil leaves (node_size ^ (k + 1))
unfolding nodes_above
cut_next leaves node_size k = more_nodes (λ l. div_ceil leaves (node_size ^ l)) k (k - 0) (k + 1 - 0) (omega arith) (omega arith)

-- the leaves alone
pub cut_none : (leaves node_size : ℕ) → node_count (up_to leaves node_size 0) ≡ leaves
unfolding nodes_above
cut_none leaves node_size = zero-add _ ∙ ceil_one leaves node_size

-- with more levels it has more nodes
pub cut_more : (leaves node_size k top : ℕ) → k ≤ top → node_count (up_to leaves node_size k) ≤ node_count (up_to leaves node_size top)
cut_more leaves node_size k top under = part _ _ _ (cut_count (up_to leaves node_size top) k under)
  where
    part : (a b c : ℕ) → a + b ≡ c → a ≤ c
    part a b c e = omega arith
