-- What the lists of one level of a shape are to one another, and the ordinates of its points.
use Rattle.std.specs.Prelude.{◌≡◌, ℕ, ◌<◌, ◌≤◌, List, length, take, drop, Option, option_to_list}
use Rattle.std.specs.List.{All}
use Rattle.fgb_schema.specs.Shapes.{Shape, points_in, rings_in, ordinates_in, parts_in}
use Rattle.wkb_writer.specs.Wkb.{rows}

-- the first point and the end of a ring among so many points
abbrev pub IsRing : ℕ → ℕ × ℕ → Type 0
IsRing points ring = (ring.0 ≤ ring.1) × (ring.1 ≤ points)

-- rings among the points, a z and an m for each point or for none, at most 2 ^ 28 of each thing
pub record IsLaid (s : Shape) : Type 0 where
  pub rings : All (IsRing (length (points_in s))) (rings_in s)
  pub z : 0 < length (ordinates_in s).z → length (ordinates_in s).z ≡ length (points_in s)
  pub m : 0 < length (ordinates_in s).m → length (ordinates_in s).m ≡ length (points_in s)
  pub few_points : length (points_in s) ≤ 268435456
  pub few_rings : length (rings_in s) ≤ 268435456
  pub few_parts : length (parts_in s) ≤ 268435456

-- the ordinates of each of a shape's own points
abbrev pub rows_in : Shape → List (List ℕ)
rows_in s = rows (points_in s) (ordinates_in s).z (ordinates_in s).m

-- the number of a list that stands beside the i-th point, if there is a list
abbrev pub IsNumberAt : List ℕ → ℕ → Option ℕ → Type 0
IsNumberAt list i number = take 1 (drop i list) ≡ option_to_list number
