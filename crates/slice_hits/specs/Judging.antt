-- What a walk through a packed R-tree has found and judged.
use Rattle.std.specs.Prelude.{◌≡◌, ℕ, ◌+◌, ◌<◌, ◌&&◌, Bool, true, List, [], Option}
use Rattle.std.specs.List.{filter, range_with_len}
use Rattle.order_keys.specs.declared.bounds.Bounds.{Bounds}
use Rattle.level_bounds.specs.Levels.{Shape, IsNode}
use Rattle.node_items.specs.declared.item.NodeItem.{NodeItem}
use Rattle.node_items.specs.Faults.{group_faults, root_faults}
use Rattle.tree_search.specs.Wanted.{is_wanted, passes}
use Rattle.slice_hits.specs.Preorder.{IsPassed, level_at}

module _ (t : Shape) (nodes : ℕ → NodeItem) (test : Bounds → Bool) where
  -- a search finds node i of level k
  abbrev pub is_hit : ℕ → ℕ → Bool
  is_hit k i = is_wanted t nodes test k i && passes t nodes test k i

  -- the leaves that it finds in front of this one
  abbrev pub hits_before : ℕ → List ℕ
  hits_before till = filter (is_hit 0) (range_with_len 0 till)

  -- a walk stands there, and has judged the root, unless it stands in front of it, and the children of each node that was
  -- found and passed
  pub record IsJudged (at : ℕ) (stand : Option ℕ) : Type 0 where
    pub root : level_at t stand < t.top → root_faults t nodes at ≡ []
    pub groups : (k i : ℕ) → IsNode t (k + 1) i → is_hit (k + 1) i ≡ true → IsPassed t (k + 1) i stand → group_faults t nodes at k i ≡ []
