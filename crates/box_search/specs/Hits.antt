-- What a search finds.
use Rattle.std.specs.Prelude.{◌≡◌, ℕ, ◌+◌, ◌*◌, ◌<◌, nat_lt, Bool, if◌then◌else◌, List, length, map, slice_range, slice_index, Option, Some, None}
use Rattle.node_items.specs.declared.group.Group.{Group}
use Rattle.node_items.specs.Groups.{bytes_in, item_in}
use Rattle.node_items.specs.Nodes.{node_of}
use Rattle.tree_search.specs.declared.search.Hit.{Hit as Plain}
use Rattle.tree_search.specs.Descent.{numbers}
use Rattle.box_search.specs.declared.nodes.Hit.{Hit}

-- a hit without the offset of what is behind it, as a search for one box gives it
abbrev pub plain : Hit → Plain
plain h = record { number = h.number; item = h.item }

abbrev pub plains : List Hit → List Plain
plains hits = map plain hits

-- the place of the i-th of them in its level
abbrev pub number_at : List Hit → ℕ → ℕ
number_at hits i = slice_index (numbers (plains hits)) i

-- the node behind the i-th of them stands among them
abbrev pub IsFollowed : List Hit → ℕ → Type 0
IsFollowed hits i = (i + 1 < length hits) × (number_at hits (i + 1) ≡ number_at hits i + 1)

-- the bytes of one more node, where another group follows
abbrev pub room_for : Bool → ℕ
room_for is_followed = if is_followed then 40 else 0

-- the offset of the node behind so many bytes, where another group follows
abbrev pub peeked : List ℕ → ℕ → Bool → Option ℕ
peeked bytes len is_followed = if is_followed then Some (node_of (slice_range bytes len (len + 40))).offset else None

-- the offset of the node behind the i-th of a group, behind which comes this one
abbrev pub behind_in : Group → Option ℕ → ℕ → Option ℕ
behind_in g behind i = if nat_lt (40 * (i + 1)) (length (bytes_in g)) then Some (item_in g (i + 1)).offset else behind
