-- Shapes that can stand in a file (FlatGeobuf, feature.fbs, Geometry).
use Rattle.std.specs.Prelude.{◌≡◌, ◌⊎◌, ℕ, ◌+◌, ◌^◌, ◌<◌, ◌≤◌, max, List, [], ◌∷◌, length, true, false, IsTrue, ⊤}
use Rattle.std.specs.List.{All}
use Rattle.order_keys.specs.Keys.{is_finite}
use Rattle.fgb_schema.specs.Tables.{is_kind, has_points, has_rings, has_parts}
use Rattle.fgb_schema.specs.Shapes.{Shape, shape, Shapes, none, more, no_ordinates, type_in, points_in, rings_in, ordinates_in, parts_in}

-- how many levels a shape has, and the deepest of some
abbrev mutual
  pub depth : Shape → ℕ
  depth (shape kind own rings ordinates parts) = deepest parts + 1

  pub deepest : Shapes → ℕ
  deepest none = 0
  deepest (more first rest) = max (depth first) (deepest rest)

-- a point has patterns of finite numbers
abbrev pub IsNumber : ℕ → Type 0
IsNumber x = IsTrue (is_finite x) × (x < 2 ^ 64)

abbrev pub IsPoint : ℕ × ℕ → Type 0
IsPoint p = IsNumber p.0 × IsNumber p.1

-- no list, or one pattern for each of so many points
abbrev pub IsBeside : ℕ → List ℕ → Type 0
IsBeside points list = (0 < length list → length list ≡ points) × All (λ x. x < 2 ^ 64) list

-- rings that follow one another from this point on, and end at that one
abbrev pub AreChained : ℕ → ℕ → List (ℕ × ℕ) → Type 0
AreChained first last [] = first ≡ last
AreChained first last (ring ∷ rest) = (ring.0 ≡ first) × (first ≤ ring.1) × AreChained ring.1 last rest

-- one level of a shape, without those below its parts
pub record IsLevel (s : Shape) : Type 0 where
  pub known : IsTrue (is_kind (type_in s))
  pub points : All IsPoint (points_in s)
  pub single : type_in s ≡ 1 → length (points_in s) ≤ 1
  pub chained : has_rings (type_in s) ≡ true → AreChained 0 (length (points_in s)) (rings_in s)
  pub z : IsBeside (length (points_in s)) (ordinates_in s).z
  pub m : IsBeside (length (points_in s)) (ordinates_in s).m
  pub t' : IsBeside (length (points_in s)) (ordinates_in s).t
  pub tm : IsBeside (length (points_in s)) (ordinates_in s).tm
  pub polygons : type_in s ≡ 6 → All (λ part. type_in part ≡ 3) (parts_in s)
  -- what its type has not
  pub no_points : has_points (type_in s) ≡ false → (points_in s ≡ []) × (ordinates_in s ≡ no_ordinates)
  pub no_rings : has_rings (type_in s) ≡ false → rings_in s ≡ []
  pub no_parts : has_parts (type_in s) ≡ false → parts_in s ≡ []
  -- at most 2 ^ 28 of each
  pub few_points : length (points_in s) ≤ 268435456
  pub few_rings : length (rings_in s) ≤ 268435456
  pub few_parts : length (parts_in s) ≤ 268435456

-- each level of a shape, and of some shapes
abbrev mutual
  pub IsSound : Shape → Type 0
  IsSound (shape kind own rings ordinates parts) = IsLevel (shape kind own rings ordinates parts) × AreSound parts

  pub AreSound : Shapes → Type 0
  AreSound none = ⊤
  AreSound (more first rest) = IsSound first × AreSound rest

pub record IsRecord (s : Shape) : Type 0 where
  pub sound : IsSound s
  pub shallow : depth s ≤ 16

-- a geometry of this shape may stand where this type is given from outside: none is, or its own
abbrev pub Suits : ℕ → Shape → Type 0
Suits outer s = (outer ≡ 0) ⊎ (outer ≡ type_in s)
