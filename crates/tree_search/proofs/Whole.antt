-- The levels of a search, one after another.
use Rattle.std.proofs.Common.{◌≡◌, ℕ, ◌+◌, ◌-◌, ◌<◌, ◌≤◌, Bool, List, [], ◌∷◌, ◌++◌, map, refl, sym, ap, ◌∙◌, append-nil, arith}
use Rattle.std.specs.List.{AllByRecursion, flat_map, range_with_len}
use Rattle.std.proofs.lemmas.List.Concat.{flat_map-append}
use Rattle.fgb_outside.specs.Asked.{Ascends}
use Rattle.fgb_outside.proofs.Asking.{range_with_len-append}
use Rattle.order_keys.specs.declared.bounds.Bounds.{Bounds}
use Rattle.level_bounds.specs.Levels.{Shape, IsShape, place}
use Rattle.node_items.specs.declared.item.NodeItem.{NodeItem}
use Rattle.node_items.specs.Nodes.{node_place}
use Rattle.tree_search.specs.declared.search.Hit.{Hit}
use Rattle.tree_search.specs.Wanted.{hits, node_positions, wanted, wanted_nodes}
use Rattle.tree_search.specs.Searches.{hit_of}
use Rattle.tree_search.specs.Descent.{AreFrom, all_children, level_positions, numbers}
use Rattle.tree_search.proofs.Descent.{wanted_below, wanted_root}
use Rattle.tree_search.proofs.Judging.{part_more}
use Rattle.tree_search.proofs.Runs.{rise_bounds}

-- the numbers of what was found, and that it is stored there
pub numbers_hits : (t : Shape) (nodes : ℕ → NodeItem) (k : ℕ) (js : List ℕ) → numbers (map (hit_of t nodes k) js) ≡ js
numbers_hits t nodes k [] = refl
numbers_hits t nodes k (j ∷ js) = ap (λ l. j ∷ l) (numbers_hits t nodes k js)

pub hits_from : (t : Shape) (nodes : ℕ → NodeItem) (k : ℕ) (js : List ℕ) → AreFrom t nodes k (map (hit_of t nodes k) js)
hits_from t nodes k [] = tt
hits_from t nodes k (j ∷ js) = (refl, hits_from t nodes k js)

-- all of it is in front of the end of its level
pub all_below : (low high : ℕ) (found : List Hit) → Ascends low high (numbers found) → AllByRecursion (λ h. h.number < high) found
all_below low high [] rise = tt
all_below low high (h ∷ found) rise = (omega (arith, rise_bounds (h.number + 1) high (numbers found) rise.1), all_below (h.number + 1) high found rise.1)

pub node_positions-append : (at : ℕ) (xs ys : List ℕ) → node_positions at (xs ++ ys) ≡ node_positions at xs ++ node_positions at ys
unfolding node_positions
node_positions-append at xs ys = flat_map-append (λ n. range_with_len (node_place at n) 40) xs ys

module _ (t : Shape) (nodes : ℕ → NodeItem) (test : Bounds → Bool) where
  level_at : ℕ → List ℕ
  level_at d = map (place t (t.top - d)) (wanted t nodes test (t.top - d))

  -- the wanted nodes of this level and those above it
  pub wanted_from : ℕ → List ℕ
  wanted_from k = flat_map level_at (range_with_len 0 (t.top + 1 - k))

  pub wanted_top : IsShape t → wanted_from t.top ≡ map (place t t.top) (0 ∷ [])
  unfolding wanted_from level_at
  wanted_top shape =
      let one : t.top + 1 - t.top ≡ 1 = omega arith in
      let root : t.top - 0 ≡ t.top = omega arith in
      ap (λ n. flat_map level_at (range_with_len 0 n)) one ∙ append-nil (level_at 0)
      ∙ ap (λ l. map (place t l) (wanted t nodes test l)) root ∙ ap (map (place t t.top)) (wanted_root t nodes test shape)

  pub wanted_more : (k : ℕ) → k < t.top → wanted_from k ≡ wanted_from (k + 1) ++ map (place t k) (wanted t nodes test k)
  unfolding wanted_from level_at
  wanted_more k below =
      let more : t.top + 1 - k ≡ t.top + 1 - (k + 1) + 1 = omega arith in
      let here : t.top - (0 + (t.top + 1 - (k + 1))) ≡ k = omega arith in
      ap (λ n. flat_map level_at (range_with_len 0 n)) more ∙ part_more level_at 0 (t.top + 1 - (k + 1))
      ∙ ap (λ l. wanted_from (k + 1) ++ map (place t l) (wanted t nodes test l)) here

  pub wanted_all : wanted_from 0 ≡ wanted_nodes t nodes test
  unfolding wanted_from level_at wanted_nodes
  wanted_all = let all : t.top + 1 - 0 ≡ t.top + 1 = omega arith in ap (λ n. flat_map level_at (range_with_len 0 n)) all

  -- what is wanted below a level
  pub wanted_rest : (k : ℕ) → k ≤ t.top → (rest : List ℕ) × (wanted_from k ++ rest ≡ wanted_nodes t nodes test)
  unfolding wanted_from level_at wanted_nodes
  wanted_rest k under =
      let all : t.top + 1 - k + k ≡ t.top + 1 = omega arith in (
        flat_map level_at (range_with_len (0 + (t.top + 1 - k)) k),
        sym (flat_map-append level_at (range_with_len 0 (t.top + 1 - k)) (range_with_len (0 + (t.top + 1 - k)) k))
            ∙ ap (flat_map level_at) (sym (range_with_len-append 0 (t.top + 1 - k) k)) ∙ ap (λ n. flat_map level_at (range_with_len 0 n)) all,
      )

  -- the positions of one more level
  pub positions_more : IsShape t → (at k : ℕ) (found : List Hit) → k < t.top → numbers found ≡ hits t nodes test (k + 1)
      → node_positions at (wanted_from (k + 1)) ++ level_positions at t k (all_children t k (numbers found)) ≡ node_positions at (wanted_from k)
  positions_more shape at k found below are =
      ap (λ l. node_positions at (wanted_from (k + 1)) ++ level_positions at t k (all_children t k l)) are
      ∙ ap (λ l. node_positions at (wanted_from (k + 1)) ++ level_positions at t k l) (sym (wanted_below t nodes test shape k below))
      ∙ sym (node_positions-append at (wanted_from (k + 1)) (map (place t k) (wanted t nodes test k)))
      ∙ ap (node_positions at) (sym (wanted_more k below))

  -- and those that are left below it
  pub positions_left : (at k : ℕ) → k ≤ t.top → (rest : List ℕ) × (node_positions at (wanted_from k) ++ rest ≡ node_positions at (wanted_nodes t nodes test))
  positions_left at k under =
      let left = wanted_rest k under in
      (node_positions at left.0, sym (node_positions-append at (wanted_from k) left.0) ∙ ap (node_positions at) left.1)
