-- Shapes as the features of a file (FlatGeobuf, header.fbs and feature.fbs).
use Rattle.std.specs.Prelude.{Bool, nat_lt, List, length, map, Some}
use Rattle.std.specs.List.{list_any}
use Rattle.fgb_schema.specs.Features.{Feature}
use Rattle.fgb_schema.specs.Headers.{Header}
use Rattle.fgb_schema.specs.Shapes.{Shape, ordinates_in}
use Rattle.geometry_view.specs.declared.kind.Ordinate.{Ordinate}
use Rattle.geometry_view.specs.declared.kind.Ordinate.TheVariants.{Z, M}
use Rattle.geometry_view.specs.Views.{listed}
use Rattle.header_tables.specs.Records.{plain}
use Rattle.wkb_writer.specs.Dimensions.{tree}
use Rattle.feature_info.specs.Records.{bare}

-- whether such a list stands beside the points of a shape's own
abbrev pub stands_beside : Ordinate → Shape → Bool
stands_beside which s = nat_lt 0 (length (listed which (ordinates_in s)))

-- whether a shape has such a list, or a part of it at any depth
abbrev pub stands_in : Ordinate → Shape → Bool
stands_in which g = list_any (stands_beside which) (tree g)

-- whether one of some shapes has
abbrev pub stands_somewhere : Ordinate → List Shape → Bool
stands_somewhere which shapes = list_any (stands_in which) shapes

-- the header of a file of these shapes: of any type, without an index, with their number, and with z and m where one has them
abbrev pub header_over : List Shape → Header
header_over shapes = record (plain 0) {
  features_count = length shapes;
  node_size = 0;
  has_z = stands_somewhere Z shapes;
  has_m = stands_somewhere M shapes;
}

-- a feature of each shape, without properties
abbrev pub features_over : List Shape → List Feature
features_over shapes = map (λ g. bare (Some g)) shapes
