-- The groups in which an index is read and judged.
use Rattle.std.specs.Prelude.{◌≡◌, ℕ, ◌+◌, ◌-◌, ◌*◌, ◌<◌, List, [], ◌∷◌, length, slice_range, Result, MatchResult}
use Rattle.flat_layout.specs.declared.Broken.{Broken}
use Rattle.level_bounds.specs.Levels.{Shape, IsNode, place, first_child, children_end}
use Rattle.node_items.specs.declared.item.NodeItem.{NodeItem}
use Rattle.node_items.specs.Faults.{group_faults, root_faults}
use Rattle.node_items.specs.Nodes.{node_place}
use Rattle.read_stop.specs.Stops.{AtRefusal}
use Rattle.read_stop.specs.declared.stop.ReadStop.{ReadStop}

-- the nodes with these numbers are the children of node i of level k + 1
pub record AreChildren (t : Shape) (k i from till : ℕ) : Type 0 where
  pub parent : IsNode t (k + 1) i
  pub first : from ≡ place t k (first_child t i)
  pub end : till ≡ place t k (children_end t k i)

-- the nodes with these numbers are stored in these bytes of a file whose index begins at this place
pub record AreStored (image : List ℕ) (at : ℕ) (bytes : List ℕ) (from till : ℕ) : Type 0 where
  pub count : length bytes ≡ 40 * (till - from)
  pub same : bytes ≡ slice_range image (node_place at from) (node_place at till)

-- Ok exactly where there is no fault, and a refusal is the first of them; a source may have failed before
abbrev pub IsFirstRead : {T : Type 0} → List Broken → Result T ReadStop → Type 0
IsFirstRead faults result =
    MatchResult result (λ _. faults ≡ []) (λ stop. AtRefusal stop (λ broken. (rest : List Broken) × (faults ≡ broken ∷ rest)))

-- the root has no fault, nor have the children of each inner node in front of this number
pub record IsSound (t : Shape) (nodes : ℕ → NodeItem) (at number : ℕ) : Type 0 where
  pub root : root_faults t nodes at ≡ []
  pub groups : (k i : ℕ) → IsNode t (k + 1) i → place t (k + 1) i < number → group_faults t nodes at k i ≡ []
