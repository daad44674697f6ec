-- What the points of some shapes have in common.
use Rattle.std.specs.Prelude.{◌≡◌, ◌≢◌, ◌⊎◌, List, []}
use Rattle.std.specs.List.{All, Any}
use Rattle.fgb_schema.specs.Shapes.{Shape, points_in, ordinates_in}
use Rattle.wkb_writer.specs.declared.dimension.Common.{Common}
use Rattle.wkb_writer.specs.declared.dimension.Common.TheVariants.{Pointless, Of, Refused}
use Rattle.wkb_writer.specs.Dimensions.{Differ, Fits, IsTimed}

-- no points of its own, and no times
pub record IsPointless (s : Shape) : Type 0 where
  pub points : points_in s ≡ []
  pub no_t : (ordinates_in s).t ≡ []
  pub no_tm : (ordinates_in s).tm ≡ []

-- points of its own
abbrev pub HasPoints : Shape → Type 0
HasPoints s = points_in s ≢ []

-- no points, points of one dimension, or of two unless there are times
abbrev pub IsCommon : List Shape → Common → Type 0
IsCommon shapes Pointless = All IsPointless shapes
IsCommon shapes (Of d) = All (Fits d) shapes × Any HasPoints shapes
IsCommon shapes Refused = Any IsTimed shapes ⊎ Any (λ s. Any (Differ s) shapes) shapes
