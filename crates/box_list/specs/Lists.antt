-- Lists of boxes, and the words for them.
use Rattle.std.specs.Prelude.{◌≡◌, ◌⊎◌, ◌==◌, ◌≤◌, ◌<◌, ℕ, Bool, List, [], ◌∷◌, length, Option, Some, None}
use Rattle.std.specs.Borrow.{Bor}
use Rattle.std.specs.List.{AllByRecursion, AllZip, list_any, slice_split}
use Rattle.order_keys.specs.declared.bounds.Bounds.{Bounds}
use Rattle.order_keys.specs.declared.words.BoundFault.{BoundFault}
use Rattle.order_keys.specs.declared.words.BoundFault.TheVariants.{Form, Order}
use Rattle.order_keys.specs.Boxes.{IsBox, meets}
use Rattle.order_keys.specs.Words.{SpellsBox, SpellsCrossed, corners_fault}

-- the box meets one of them
abbrev pub meets_any : List Bounds → Bounds → Bool
meets_any boxes b = list_any (meets b) boxes

-- one to eight boxes
pub record IsBoxList (boxes : List Bounds) : Type 0 where
  pub some : 1 ≤ length boxes
  pub few : length boxes ≤ 8
  pub each : AllByRecursion IsBox boxes

-- the parts of a text, between its plus signs
abbrev pub box_parts : List ℕ → List (List ℕ)
box_parts text = slice_split (λ c. c == 43) text

-- the parts are words for these boxes, one by one
abbrev pub SpellsBoxes : List ℕ → List Bounds → Type 0
SpellsBoxes text boxes = AllZip SpellsBox (box_parts text) boxes

-- why a part is no word for a box
pub data HasFault (part : List ℕ) : BoundFault → Type 0 where
  in_bounds : {fault : BoundFault} → corners_fault part ≡ Some fault → HasFault part fault
  in_order : SpellsCrossed part → HasFault part Order

-- the first of these parts that is no word for a box has this fault
abbrev pub FirstFault : List (List ℕ) → BoundFault → Type 0
FirstFault [] fault = ⊥
FirstFault (part ∷ rest) fault = HasFault part fault ⊎ ((b : Bounds) × (SpellsBox part b × FirstFault rest fault))

-- why a text is no word for a list of boxes
pub data IsFault (text : List ℕ) : BoundFault → Type 0 where
  too_many : 8 < length (box_parts text) → IsFault text Form
  at_part : {fault : BoundFault} → length (box_parts text) ≤ 8 → FirstFault (box_parts text) fault → IsFault text fault

-- a first part, and the parts of what is behind it
abbrev pub parts_behind : Option (Bor (List ℕ)) → List (List ℕ)
parts_behind None = []
parts_behind (Some later) = box_parts later.now

abbrev pub cut_parts : Bor (List ℕ) × Option (Bor (List ℕ)) → List (List ℕ)
cut_parts parts = parts.0.now ∷ parts_behind parts.1
