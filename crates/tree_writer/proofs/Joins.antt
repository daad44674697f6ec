-- The join of many boxes, one after another.
use Rattle.std.proofs.Common.{◌≡◌, ℕ, ◌+◌, ◌<◌, List, [], ◌∷◌, ◌++◌, length, take, get_or, sym, ap, ◌∙◌, arith}
use Rattle.std.specs.Prelude.{fold}
use Rattle.std.proofs.lemmas.Int.{ints}
use Rattle.std.proofs.lemmas.List.{take_more}
use Rattle.std.proofs.lemmas.List.Sums.{fold-append, fold_push}
use Rattle.order_keys.specs.declared.coord.Coord.{Coord}
use Rattle.order_keys.specs.declared.bounds.Bounds.{Bounds}
use Rattle.order_keys.specs.Keys.{IsAtMost}
use Rattle.order_keys.specs.Boxes.{Contains, lesser, greater, join, empty}
use Rattle.order_keys.proofs.Order.{at_most_self, at_most_through}
use Rattle.node_items.specs.declared.item.NodeItem.{NodeItem}
use Rattle.tree_writer.specs.Packed.{joined}

-- of several coordinates the first of those with the least key, or the greatest, is the same however they are grouped
lesser_assoc : (a b c : Coord) → lesser (lesser a b) c ≡ lesser a (lesser b c)
lesser_assoc a b c = grind (arith, ints)

greater_assoc : (a b c : Coord) → greater (greater a b) c ≡ greater a (greater b c)
greater_assoc a b c = grind (arith, ints)

lesser_first : (a b : Coord) → IsAtMost (lesser a b).0 a.0
lesser_first a b = grind (arith, ints)

lesser_other : (a b : Coord) → IsAtMost (lesser a b).0 b.0
lesser_other a b = grind (arith, ints)

greater_first : (a b : Coord) → IsAtMost a.0 (greater a b).0
greater_first a b = grind (arith, ints)

greater_other : (a b : Coord) → IsAtMost b.0 (greater a b).0
greater_other a b = grind (arith, ints)

lesser_stays : (a b : Coord) → IsAtMost a.0 b.0 → lesser a b ≡ a
lesser_stays a b h = grind (arith, ints)

greater_stays : (a b : Coord) → IsAtMost b.0 a.0 → greater a b ≡ a
greater_stays a b h = grind (arith, ints)

pub bounds_are_same : (a b c d e f g h : Coord) → a ≡ e → b ≡ f → c ≡ g → d ≡ h
    → (let p : Bounds = record { min_x = a; min_y = b; max_x = c; max_y = d } in p) ≡ record { min_x = e; min_y = f; max_x = g; max_y = h }
bounds_are_same a b c d e f g h p q r s = cc

pub join_assoc : (a b c : Bounds) → join (join a b) c ≡ join a (join b c)
join_assoc a b c =
    bounds_are_same _ _ _ _ _ _ _ _ (lesser_assoc a.min_x b.min_x c.min_x) (lesser_assoc a.min_y b.min_y c.min_y)
    (greater_assoc a.max_x b.max_x c.max_x) (greater_assoc a.max_y b.max_y c.max_y)

-- the join with a box that lies inside
pub join_inside : (a b : Bounds) → Contains a b → join a b ≡ a
join_inside a b h =
    bounds_are_same _ _ _ _ _ _ _ _ (lesser_stays a.min_x b.min_x h.left) (lesser_stays a.min_y b.min_y h.below)
    (greater_stays a.max_x b.max_x h.right) (greater_stays a.max_y b.max_y h.above)

pub join_first : (a b : Bounds) → Contains (join a b) a
join_first a b = record {
  left = lesser_first a.min_x b.min_x;
  below = lesser_first a.min_y b.min_y;
  right = greater_first a.max_x b.max_x;
  above = greater_first a.max_y b.max_y;
}

pub join_other : (a b : Bounds) → Contains (join a b) b
join_other a b = record {
  left = lesser_other a.min_x b.min_x;
  below = lesser_other a.min_y b.min_y;
  right = greater_other a.max_x b.max_x;
  above = greater_other a.max_y b.max_y;
}

pub contains_self : (a : Bounds) → Contains a a
contains_self a = record { left = at_most_self a.min_x.0; below = at_most_self a.min_y.0; right = at_most_self a.max_x.0; above = at_most_self a.max_y.0 }

pub contains_through : (a b c : Bounds) → Contains a b → Contains b c → Contains a c
contains_through a b c h k = record {
  left = at_most_through a.min_x.0 b.min_x.0 c.min_x.0 h.left k.left;
  below = at_most_through a.min_y.0 b.min_y.0 c.min_y.0 h.below k.below;
  right = at_most_through c.max_x.0 b.max_x.0 a.max_x.0 k.right h.right;
  above = at_most_through c.max_y.0 b.max_y.0 a.max_y.0 k.above h.above;
}

-- a box and those of some nodes behind it
abbrev pub with_boxes : Bounds → List NodeItem → Bounds
with_boxes box nodes = fold (λ (b : Bounds) (node : NodeItem). join b node.bounds) box nodes

pub with_boxes_first : (box : Bounds) (nodes : List NodeItem) → Contains (with_boxes box nodes) box
with_boxes_first box [] = contains_self box
with_boxes_first box (v ∷ nodes) =
    contains_through (with_boxes (join box v.bounds) nodes) (join box v.bounds) box (with_boxes_first (join box v.bounds) nodes) (join_first box v.bounds)

-- no edge of a join lies inside an infinity
pub joined_wide : (nodes : List NodeItem) → Contains (joined nodes) empty
joined_wide nodes = with_boxes_first empty nodes

with_boxes_joined : (box : Bounds) (nodes : List NodeItem) → Contains box empty → with_boxes box nodes ≡ join box (joined nodes)
with_boxes_joined box [] wide = sym (join_inside box empty wide)
with_boxes_joined box (v ∷ nodes) wide =
    with_boxes_joined (join box v.bounds) nodes (contains_through (join box v.bounds) box empty (join_first box v.bounds) wide)
    ∙ join_assoc box v.bounds (joined nodes)
    ∙ ap (λ b. join b (join v.bounds (joined nodes))) (sym (join_inside box empty wide))
    ∙ join_assoc box empty (join v.bounds (joined nodes))
    ∙ ap (join box) (sym (join_assoc empty v.bounds (joined nodes)))
    ∙ ap (join box) (sym (with_boxes_joined (join empty v.bounds) nodes (join_first empty v.bounds)))

-- nodes in two parts
pub joined-append : (xs ys : List NodeItem) → joined (xs ++ ys) ≡ join (joined xs) (joined ys)
joined-append xs ys =
    fold-append (λ (b : Bounds) (node : NodeItem). join b node.bounds) empty xs ys ∙ with_boxes_joined (joined xs) ys (joined_wide xs)

-- the box of a node alone, which is a join
pub joined_one : (v : NodeItem) (nodes : List NodeItem) → v.bounds ≡ joined nodes → joined (v ∷ []) ≡ joined nodes
joined_one v nodes is = ap (join empty) is ∙ sym (joined-append [] nodes)

-- one more node
pub joined_more : (nodes : List NodeItem) (i : ℕ) (d : NodeItem) → i < length nodes → joined (take (i + 1) nodes) ≡ join (joined (take i nodes)) (get_or nodes i d).bounds
joined_more nodes i d there =
    ap joined (take_more nodes i d there) ∙ fold_push (λ (b : Bounds) (node : NodeItem). join b node.bounds) empty (take i nodes) (get_or nodes i d)
