-- Going through the leaves of an index.
use Rattle.std.specs.Prelude.{◌≡◌, ℕ, ◌+◌, ◌*◌, ◌≤◌}
use Rattle.fgb_outside.specs.Source.{Source}
use Rattle.section_window.specs.Window.{Shows as ShowsWindow}
use Rattle.level_bounds.specs.Levels.{Shape, node_count, place as place_of_node}
use Rattle.index_reader.specs.declared.leaves.Leaves.{Leaves}

-- how many leaves were given
abbrev pub given_of : Leaves → ℕ
given_of l = l.given

-- what is held is the source's
abbrev pub Shows : Leaves → Source → Type 0
Shows l s = ShowsWindow l.window s

-- they are the leaves of a tree whose index begins at this place
pub record IsOver (l : Leaves) (place : ℕ) (t : Shape) : Type 0 where
  pub begins : l.place ≡ place
  pub first : l.first ≡ place_of_node t 0 0
  pub stands : l.window.at ≡ place + 40 * place_of_node t 0 l.given
  pub few : l.given ≤ t.leaves
  pub ends : l.window.end ≡ place + 40 * node_count t
