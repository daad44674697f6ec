-- What the join of boxes contains.
use Rattle.std.proofs.Common.{List, [], ◌∷◌, arith}
use Rattle.std.specs.Prelude.{fold}
use Rattle.std.specs.List.{All, AllByRecursion}
use Rattle.std.proofs.lemmas.Int.{ints}
use Rattle.std.proofs.lemmas.List.Elements.{All-from_recursion}
use Rattle.order_keys.specs.declared.coord.Coord.{Coord}
use Rattle.order_keys.specs.declared.bounds.Bounds.{Bounds}
use Rattle.order_keys.specs.Keys.{IsAtMost}
use Rattle.order_keys.specs.Boxes.{Contains, lesser, greater, join, empty}
use Rattle.order_keys.proofs.Order.{at_most_self, at_most_through}
use Rattle.feature_order.specs.Order.{extent}

lesser_first : (a b : Coord) → IsAtMost (lesser a b).0 a.0
lesser_first a b = grind (arith, ints)

lesser_other : (a b : Coord) → IsAtMost (lesser a b).0 b.0
lesser_other a b = grind (arith, ints)

greater_first : (a b : Coord) → IsAtMost a.0 (greater a b).0
greater_first a b = grind (arith, ints)

greater_other : (a b : Coord) → IsAtMost b.0 (greater a b).0
greater_other a b = grind (arith, ints)

pub join_first : (a b : Bounds) → Contains (join a b) a
join_first a b = record {
  left = lesser_first a.min_x b.min_x;
  below = lesser_first a.min_y b.min_y;
  right = greater_first a.max_x b.max_x;
  above = greater_first a.max_y b.max_y;
}

join_other : (a b : Bounds) → Contains (join a b) b
join_other a b = record {
  left = lesser_other a.min_x b.min_x;
  below = lesser_other a.min_y b.min_y;
  right = greater_other a.max_x b.max_x;
  above = greater_other a.max_y b.max_y;
}

pub contains_self : (a : Bounds) → Contains a a
contains_self a = record { left = at_most_self a.min_x.0; below = at_most_self a.min_y.0; right = at_most_self a.max_x.0; above = at_most_self a.max_y.0 }

contains_through : (a b c : Bounds) → Contains a b → Contains b c → Contains a c
contains_through a b c h k = record {
  left = at_most_through a.min_x.0 b.min_x.0 c.min_x.0 h.left k.left;
  below = at_most_through a.min_y.0 b.min_y.0 c.min_y.0 h.below k.below;
  right = at_most_through c.max_x.0 b.max_x.0 a.max_x.0 k.right h.right;
  above = at_most_through c.max_y.0 b.max_y.0 a.max_y.0 k.above h.above;
}

-- the join of a box and some more
joined_first : (box : Bounds) (boxes : List Bounds) → Contains (fold join box boxes) box
joined_first box [] = contains_self box
joined_first box (b ∷ boxes) = contains_through (fold join (join box b) boxes) (join box b) box (joined_first (join box b) boxes) (join_first box b)

joined_each : (box : Bounds) (boxes : List Bounds) → AllByRecursion (Contains (fold join box boxes)) boxes
joined_each box [] = tt
joined_each box (b ∷ boxes) =
    (contains_through (fold join (join box b) boxes) (join box b) b (joined_first (join box b) boxes) (join_other box b), joined_each (join box b) boxes)

pub around_empty : (boxes : List Bounds) → Contains (extent boxes) empty
around_empty boxes = joined_first empty boxes

pub around_each : (boxes : List Bounds) → AllByRecursion (Contains (extent boxes)) boxes
around_each boxes = joined_each empty boxes

pub around_all : (boxes : List Bounds) → All (Contains (extent boxes)) boxes
around_all boxes = All-from_recursion (Contains (extent boxes)) boxes (around_each boxes)
