-- The numbers of the types of geometries (FlatGeobuf, feature.fbs, GeometryType), and the fields of ordinates.
use Rattle.std.specs.Prelude.{ℕ}
use Rattle.geometry_view.specs.declared.kind.Kind.{Kind}
use Rattle.geometry_view.specs.declared.kind.Kind.TheVariants.{Point, LineString, Polygon, MultiPoint, MultiLineString, MultiPolygon, GeometryCollection}
use Rattle.geometry_view.specs.declared.kind.Ordinate.{Ordinate}
use Rattle.geometry_view.specs.declared.kind.Ordinate.TheVariants.{Z, M, T, Tm}

abbrev pub number_of : Kind → ℕ
number_of Point = 1
number_of LineString = 2
number_of Polygon = 3
number_of MultiPoint = 4
number_of MultiLineString = 5
number_of MultiPolygon = 6
number_of GeometryCollection = 7

abbrev pub field_of : Ordinate → ℕ
field_of Z = 2
field_of M = 3
field_of T = 4
field_of Tm = 5
