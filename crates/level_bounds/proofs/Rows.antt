-- The definitions at worked numbers, computed: trees with nodes of at most 16 children over 1, 16, 17 and 179 leaves.
use Rattle.std.proofs.Common.{◌≡◌, refl}
use Rattle.level_bounds.specs.Levels.{width, node_count, place, nodes_above, first_child, children_end}
use Rattle.level_bounds.specs.Cut.{up_to}

one_leaf : (width (up_to 1 16 1) 1 ≡ 1) × (node_count (up_to 1 16 1) ≡ 2)
unfolding nodes_above
one_leaf = (refl, refl)

full_node : (width (up_to 16 16 1) 1 ≡ 1) × (node_count (up_to 16 16 1) ≡ 17)
unfolding nodes_above
full_node = (refl, refl)

-- 17 leaves stand under 2 nodes under the root, and the second of these has the last leaf alone
two_nodes : (width (up_to 17 16 2) 1 ≡ 2) × (width (up_to 17 16 2) 2 ≡ 1) × (node_count (up_to 17 16 2) ≡ 20)
unfolding nodes_above
two_nodes = (refl, refl, refl)

second_group : (place (up_to 17 16 2) 0 (first_child (up_to 17 16 2) 1) ≡ 19) × (place (up_to 17 16 2) 0 (children_end (up_to 17 16 2) 0 1) ≡ 20)
unfolding nodes_above
second_group = (refl, refl)

-- 179 leaves stand under 12 nodes under the root
twelve_nodes : (width (up_to 179 16 2) 1 ≡ 12) × (width (up_to 179 16 2) 2 ≡ 1) × (node_count (up_to 179 16 2) ≡ 192) × (place (up_to 179 16 2) 0 30 ≡ 43)
unfolding nodes_above
twelve_nodes = (refl, refl, refl, refl)
