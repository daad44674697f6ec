-- Whether the points of a value have z and m, and for which shapes one answer holds (OGC 06-103r4, section 8.2).
use Rattle.std.specs.Prelude.{◌≡◌, ◌≢◌, ◌⊎◌, ℕ, ◌+◌, nat_lt, if◌then◌else◌, false, List, [], ◌∷◌, ◌++◌, length}
use Rattle.std.specs.List.{All, Any}
use Rattle.fgb_schema.specs.Shapes.{Shape, shape, Shapes, none, more, points, points_in, ordinates_in}
pub use Rattle.wkb_writer.specs.declared.dimension.Dimension.{Dimension}

-- x and y alone
abbrev pub flat : Dimension
flat = record { z = false; m = false }

-- the dimension of a shape's own points
abbrev pub dimension_of : Shape → Dimension
dimension_of s = record { z = nat_lt 0 (length (ordinates_in s).z); m = nat_lt 0 (length (ordinates_in s).m) }

-- how many ordinates a point has: x, y, and z and m where there are such
abbrev pub coordinate_dimension : Dimension → ℕ
coordinate_dimension d = 2 + (if d.z then 1 else 0) + (if d.m then 1 else 0)

-- a shape, and its parts at every depth
abbrev mutual
  pub tree : Shape → List Shape
  tree (shape kind own rings ordinates parts) = shape kind own rings ordinates parts ∷ trees parts

  pub trees : Shapes → List Shape
  trees none = []
  trees (more first rest) = tree first ++ trees rest

-- the shape has no times, and where it has points of its own they are of this dimension
pub record Fits (d : Dimension) (s : Shape) : Type 0 where
  pub no_t : (ordinates_in s).t ≡ []
  pub no_tm : (ordinates_in s).tm ≡ []
  pub same : points_in s ≢ [] → dimension_of s ≡ d

-- the dimension of a shape that can be written: that of all its points, and x and y alone where there are none
pub record IsDimension (g : Shape) (d : Dimension) : Type 0 where
  pub fits : All (Fits d) (tree g)
  pub pointless : points g ≡ [] → d ≡ flat

-- a list of times
abbrev pub IsTimed : Shape → Type 0
IsTimed s = ((ordinates_in s).t ≢ []) ⊎ ((ordinates_in s).tm ≢ [])

-- two shapes that have points of their own, of different dimensions
pub record Differ (s u : Shape) : Type 0 where
  pub points : points_in s ≢ []
  pub others : points_in u ≢ []
  pub apart : dimension_of s ≢ dimension_of u

-- a shape that cannot be written as WKB: at some depth there are times, or points of two dimensions
abbrev pub HasNoWkb : Shape → Type 0
HasNoWkb g = Any IsTimed (tree g) ⊎ Any (λ s. Any (Differ s) (tree g)) (tree g)
