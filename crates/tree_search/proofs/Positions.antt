-- The positions of nodes that stand together.
use Rattle.std.proofs.Common.{◌≡◌, ℕ, zero, suc, ◌+◌, ◌-◌, ◌*◌, List, [], ◌∷◌, ◌++◌, length, map, refl, sym, ap, ◌∙◌, arith}
use Rattle.std.specs.List.{range_with_len}
use Rattle.std.proofs.lemmas.List.{map-append}
use Rattle.std.proofs.lemmas.List.Concat.{flat_map-append}
use Rattle.fgb_outside.proofs.Asking.{range_with_len-append}
use Rattle.section_window.specs.Window.{Held, ahead}
use Rattle.section_window.proofs.Parts.{range_same}
use Rattle.level_bounds.specs.Levels.{Shape, place, nodes_above, first_child}
use Rattle.level_bounds.proofs.Places.{root_first}
use Rattle.node_items.specs.Nodes.{node_place}
use Rattle.tree_search.specs.Wanted.{node_positions}
use Rattle.tree_search.specs.declared.search.Hit.{Hit}
use Rattle.tree_search.specs.Descent.{AreNeighbours, GoesTo, all_children, children_before, first_number, level_positions, numbers}
use Rattle.tree_search.proofs.Descent.{children_run}

pub positions_range : (at a n : ℕ) → node_positions at (range_with_len a n) ≡ range_with_len (node_place at a) (40 * n)
unfolding node_positions
positions_range at a zero = let none : 0 ≡ 40 * 0 = omega arith in ap (range_with_len (node_place at a)) none
positions_range at a (suc n) =
    let next : node_place at (a + 1) ≡ node_place at a + 40 = omega arith in
    let more : 40 + 40 * n ≡ 40 * suc n = omega arith in
    ap (λ l. range_with_len (node_place at a) 40 ++ l) (positions_range at (a + 1) n ∙ ap (λ p. range_with_len p (40 * n)) next)
    ∙ sym (range_with_len-append (node_place at a) 40 (40 * n)) ∙ ap (range_with_len (node_place at a)) more

places_range : (t : Shape) (k a n : ℕ) → map (place t k) (range_with_len a n) ≡ range_with_len (place t k a) n
places_range t k a zero = refl
places_range t k a (suc n) = ap (λ l. place t k a ∷ l) (places_range t k (a + 1) n ∙ ap (λ m. range_with_len m n) (next (nodes_above t k)))
  where
    next : (b : ℕ) → b + (a + 1) ≡ b + a + 1
    next b = omega arith

-- nodes side by side
pub level_range : (at : ℕ) (t : Shape) (k a n : ℕ) → level_positions at t k (range_with_len a n) ≡ range_with_len (node_place at (place t k a)) (40 * n)
level_range at t k a n = ap (node_positions at) (places_range t k a n) ∙ positions_range at (place t k a) n

-- the root
pub root_positions : (at : ℕ) (t : Shape) → level_positions at t t.top (0 ∷ []) ≡ range_with_len at 40
root_positions at t =
    let first : node_place at (place t t.top 0) ≡ at = ap (node_place at) (root_first t) ∙ plus_none at in
    level_range at t t.top 0 1 ∙ ap (λ p. range_with_len p 40) first
  where
    plus_none : (at : ℕ) → at + 40 * 0 ≡ at
    plus_none at = omega arith

-- nodes and more nodes of a level
pub level_append : (at : ℕ) (t : Shape) (k : ℕ) (xs ys : List ℕ) → level_positions at t k (xs ++ ys) ≡ level_positions at t k xs ++ level_positions at t k ys
unfolding node_positions
level_append at t k xs ys =
    ap (node_positions at) (map-append (place t k) xs ys) ∙ flat_map-append (λ n. range_with_len (node_place at n) 40) (map (place t k) xs) (map (place t k) ys)

-- the children of neighbours
pub run_positions : (at : ℕ) (t : Shape) (k j n : ℕ)
    → level_positions at t k (all_children t k (range_with_len j n)) ≡ range_with_len (node_place at (place t k (first_child t j))) (40 * (children_before t k (j + n) - first_child t j))
run_positions at t k j n = ap (level_positions at t k) (children_run t k j n) ∙ level_range at t k (first_child t j) (children_before t k (j + n) - first_child t j)

-- what a window asked for that held nothing before the root
pub root_asked : (at : ℕ) (t : Shape) (old new : Held) → old.at ≡ at → old.bytes ≡ [] → GoesTo old new (node_place at 1) (at + 40) → range_with_len (ahead old) (ahead new - ahead old) ≡ level_positions at t t.top (0 ∷ [])
root_asked at t old new stands none goes =
    let empty : length old.bytes ≡ 0 = ap length none in
    range_same (ahead old) at (ahead new - ahead old) 40 (omega arith) (omega (arith, goes.stands, goes.before)) ∙ sym (root_positions at t)

pub root_left : (at : ℕ) (t : Shape) (old : Held) → old.at ≡ at → old.bytes ≡ [] → range_with_len (ahead old) (at + 40 - ahead old) ≡ level_positions at t t.top (0 ∷ [])
root_left at t old stands none =
    let empty : length old.bytes ≡ 0 = ap length none in
    range_same (ahead old) at (at + 40 - ahead old) 40 (omega arith) (omega arith) ∙ sym (root_positions at t)

-- from where the children of neighbours begin to where they end
pub run_asked : (at : ℕ) (t : Shape) (k : ℕ) (run : List Hit) (from until : ℕ) → AreNeighbours run → from ≡ node_place at (place t k (first_child t (first_number run)))
    → until ≡ node_place at (place t k (children_before t k (first_number run + length run))) → range_with_len from (until - from) ≡ level_positions at t k (all_children t k (numbers run))
run_asked at t k run from until are begins ends =
    range_same from _ (until - from) _ begins (bytes (nodes_above t k) (first_child t (first_number run)) (children_before t k (first_number run + length run)) begins ends)
    ∙ sym (run_positions at t k (first_number run) (length run)) ∙ ap (λ l. level_positions at t k (all_children t k l)) (sym are)
  where
    bytes : (a f e : ℕ) → from ≡ at + 40 * (a + f) → until ≡ at + 40 * (a + e) → until - from ≡ 40 * (e - f)
    bytes a f e x y = omega arith

-- no nodes have no bytes
pub none_positions : (at : ℕ) (t : Shape) (k : ℕ) → level_positions at t k (all_children t k []) ≡ []
unfolding node_positions
none_positions at t k = refl
