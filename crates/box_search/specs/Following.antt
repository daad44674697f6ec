-- What stands behind a node, where that is wanted, too.
use Rattle.std.specs.Prelude.{◌≡◌, ℕ, ◌+◌, ◌/◌, ◌==◌, ◌&&◌, nat_lt, if◌then◌else◌, Bool, true, false, List, [], ◌∷◌, Option, Some, None}
use Rattle.std.specs.List.{AllByRecursion}
use Rattle.order_keys.specs.declared.bounds.Bounds.{Bounds}
use Rattle.level_bounds.specs.Levels.{Shape, place, width}
use Rattle.node_items.specs.declared.item.NodeItem.{NodeItem}
use Rattle.tree_search.specs.Wanted.{is_wanted}
use Rattle.box_search.specs.declared.nodes.Hit.{Hit}

-- the offset of the node behind node i of level k, where that is wanted, too
abbrev pub next_of : Shape → (ℕ → NodeItem) → (Bounds → Bool) → ℕ → ℕ → Option ℕ
next_of t nodes test k i = if nat_lt (i + 1) (width t k) && is_wanted t nodes test k (i + 1) then Some (nodes (place t k (i + 1))).offset else None

-- where it stands in front of an end
abbrev pub next_before : Shape → (ℕ → NodeItem) → ℕ → ℕ → ℕ → Option ℕ
next_before t nodes k end i = if nat_lt (i + 1) end then Some (nodes (place t k (i + 1))).offset else None

-- where it is a child of a node of level k + 1 that passes
abbrev pub next_under : Shape → (ℕ → NodeItem) → ℕ → (ℕ → Bool) → ℕ → Option ℕ
next_under t nodes k passing i =
    if nat_lt (i + 1) (width t k) && passing ((i + 1) / t.node_size) then Some (nodes (place t k (i + 1))).offset else None

-- a test that these nodes pass, and the node behind each only where it is the next of them
abbrev pub Tells : (ℕ → Bool) → List ℕ → Type 0
Tells passing [] = Unit {0}
Tells passing (p ∷ []) = (passing p ≡ true) × (passing (p + 1) ≡ false)
Tells passing (p ∷ q ∷ rest) = (passing p ≡ true) × (passing (p + 1) ≡ (q == p + 1)) × Tells passing (q ∷ rest)

-- each hit has what this gives for its number
abbrev pub HaveNext : (ℕ → Option ℕ) → List Hit → Type 0
HaveNext next hits = AllByRecursion (λ h. h.next ≡ next h.number) hits

-- and so have those that were added
abbrev pub KeepNext : (ℕ → Option ℕ) → List Hit → List Hit → Type 0
KeepNext next old new = HaveNext next old → HaveNext next new

-- one more node, where another group follows
abbrev pub one_for : Bool → ℕ
one_for is_followed = if is_followed then 1 else 0
