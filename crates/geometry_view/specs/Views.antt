-- The shape that a view is seen as, and what its lists are in it.
use Rattle.std.specs.Prelude.{ℕ, ◌-◌, List, [], map, if◌then◌else◌, Option, Some, None}
use Rattle.std.specs.List.{range_with_len}
use Rattle.flat_layout.specs.Layout.{target, count, entry_place}
use Rattle.flat_views.specs.declared.vectors.TableVec.{TableVec}
use Rattle.flat_views.specs.declared.vectors.VecView.{VecView}
use Rattle.flat_views.specs.TableVecs.{tables_bytes, tables_place}
use Rattle.flat_views.specs.Tables.{bytes_of, place_of}
use Rattle.flat_views.specs.Vectors.{words_shown}
use Rattle.fgb_schema.specs.Tables.{has_rings}
use Rattle.fgb_schema.specs.Shapes.{Shape, rings_of, shape_at, Ordinates}
use Rattle.geometry_view.specs.declared.geometry.GeometryView.{GeometryView}
use Rattle.geometry_view.specs.declared.kind.Ordinate.{Ordinate}
use Rattle.geometry_view.specs.declared.kind.Ordinate.TheVariants.{Z, M, T, Tm}
use Rattle.geometry_view.specs.Kinds.{number_of}

abbrev pub geometry_shown : GeometryView → Shape
geometry_shown g = shape_at (16 - g.depth) (number_of g.kind) (bytes_of g.table) (place_of g.table)

-- the rings of a geometry of this type with so many points, by their ends
abbrev pub rings_shown : ℕ → Option VecView → ℕ → List (ℕ × ℕ)
rings_shown kind ends points = if has_rings kind then rings_of (words_shown ends) points else []

-- the shapes in a list of geometries to which this type is given from outside, each with at most so many levels below
abbrev pub parts_shown : ℕ → ℕ → Option TableVec → List Shape
parts_shown levels outer None = []
parts_shown levels outer (Some tables) = map
    (λ i. shape_at levels outer (tables_bytes tables) (target (tables_bytes tables) (entry_place (tables_bytes tables) (tables_place tables) i)))
    (range_with_len 0 (count (tables_bytes tables) (tables_place tables)))

-- one of the four lists
abbrev pub listed : Ordinate → Ordinates → List ℕ
listed Z lists = lists.z
listed M lists = lists.m
listed T lists = lists.t
listed Tm lists = lists.tm
