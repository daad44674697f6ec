-- There is one packing of a file.
use Rattle.std.proofs.Common.{◌≡◌, ℕ, List, Option, Some, true, length, refl, sym, ap, ◌∙◌, arith}
use Rattle.std.specs.List.{AllByRecursion}
use Rattle.std.proofs.lemmas.Grind.{common_steps}
use Rattle.order_keys.specs.declared.bounds.Bounds.{Bounds}
use Rattle.order_keys.specs.Boxes.{IsBox, is_box}
use Rattle.order_keys.proofs.Order.{is_ordered_is}
use Rattle.level_bounds.specs.Levels.{Shape, IsShape}
use Rattle.fgb_schema.specs.Headers.{Header}
use Rattle.fgb_file.specs.File.{box_of}
use Rattle.feature_order.specs.Order.{IsOrder}
use Rattle.packed_file.specs.Packing.{IsPacking, IsTreeOver, no_index, tree, boxes_of, in_order, packed_file}
use Rattle.packed_file.proofs.Alls.{all_of_map, all_weaker}
use Rattle.packed_file.proofs.Points.{IsStoredBox}

is_box_is : (b : Bounds) → is_box b ≡ true → IsBox b
is_box_is b = grind (arith, common_steps, is_ordered_is)

boxes_each : (header : Header) (pieces : List (List ℕ)) → AllByRecursion (λ piece. IsStoredBox (box_of header piece)) pieces → AllByRecursion IsBox (boxes_of header pieces)
boxes_each header pieces all = all_of_map IsBox (box_of header) pieces
    (all_weaker (λ piece. IsStoredBox (box_of header piece)) (λ piece. IsBox (box_of header piece)) pieces (λ piece stored. is_box_is (box_of header piece) stored.box) all)

none_some : (n : ℕ) (t : Shape) → n ≡ 0 → IsShape t → t.leaves ≡ n → ⊥
none_some n t none is leaves = omega (arith, none, is.some, leaves)

trees_same : ((t u : Shape) → IsShape t → IsShape u → t.leaves ≡ u.leaves → t.node_size ≡ u.node_size → t ≡ u)
    → (n node_size : ℕ) (a b : Option Shape) → IsTreeOver n node_size a → IsTreeOver n node_size b → a ≡ b
trees_same one n node_size a b (no_index none) (no_index also) = refl
trees_same one n node_size a b (no_index none) (tree {t = u} is leaves size) = absurd (none_some n u none is leaves)
trees_same one n node_size a b (tree {t = t} is leaves size) (no_index none) = absurd (none_some n t none is leaves)
trees_same one n node_size a b (tree {t = t} is leaves size) (tree {t = u} other its_leaves its_size) =
    ap Some (one t u is other (leaves ∙ sym its_leaves) (size ∙ sym its_size))

files_same : (header : Header) (pieces : List (List ℕ)) (node_size : ℕ) (t u : Option Shape) (m n : List ℕ) → t ≡ u → m ≡ n
    → packed_file header node_size t (in_order pieces m) ≡ packed_file header node_size u (in_order pieces n)
files_same header pieces node_size t u m n trees orders =
    ap (λ t. packed_file header node_size t (in_order pieces m)) trees ∙ ap (λ n. packed_file header node_size u (in_order pieces n)) orders

pub packing_same : ((boxes : List Bounds) (a b : List ℕ) → AllByRecursion IsBox boxes → IsOrder boxes a → IsOrder boxes b → a ≡ b)
    → ((t u : Shape) → IsShape t → IsShape u → t.leaves ≡ u.leaves → t.node_size ≡ u.node_size → t ≡ u)
    → (header : Header) (pieces : List (List ℕ)) (node_size : ℕ) (a b : List ℕ) → AllByRecursion (λ piece. IsStoredBox (box_of header piece)) pieces
    → IsPacking header pieces node_size a → IsPacking header pieces node_size b → a ≡ b
packing_same orders shapes header pieces node_size a b boxes p q =
    p.whole ∙ files_same header pieces node_size p.index q.index p.order q.order
    (trees_same shapes (length pieces) node_size p.index q.index p.over q.over)
    (orders (boxes_of header pieces) p.order q.order (boxes_each header pieces boxes) p.ordered q.ordered) ∙ sym q.whole
