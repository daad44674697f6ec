use Rattle.std.proofs.Common.{inl, inr, ap}
use Rattle.geometry_view.specs.Kinds.{number_of}
use Rattle.geometry_view.specs.Views.{geometry_shown}
use Rattle.owned_shape.proofs.ReadShapes.{view_parts_read, view_read}
use Rattle.wkb_writer.proofs.Sizes.{line_size, lines_size, point_size, points_size, polygon_size, polygons_size, shapes_size}
use Rattle.wkb_writer.proofs.size.body_size.Goals as goal

pub returns-in-Point-clause-all : goal.returns-in-Point-clause-all
returns-in-Point-clause-all c =
    let g = c.args.view.now in
    point_size c.args.dimension (geometry_shown g) c.requires.fits (view_read g) (view_parts_read g) (number_of c.kind.result) c.kind.ensures c.size-row.result c.points-points.result c.rings-rings.result
    c.size-row.ensures.all c.points-points.ensures c.rings-rings.ensures (ap number_of c.in-Point.is)

pub returns-in-LineString-clause-all : goal.returns-in-LineString-clause-all
returns-in-LineString-clause-all c =
    let g = c.args.view.now in
    line_size c.args.dimension (geometry_shown g) c.requires.fits (view_read g) (view_parts_read g) (number_of c.kind.result) c.kind.ensures c.size-row.result c.points-points.result c.rings-rings.result
    c.size-row.ensures.all c.points-points.ensures c.rings-rings.ensures (ap number_of c.in-LineString.is) c.counted_size.result c.counted_size.ensures

pub returns-in-Polygon-clause-all : goal.returns-in-Polygon-clause-all
returns-in-Polygon-clause-all c =
    let g = c.args.view.now in
    polygon_size c.args.dimension (geometry_shown g) c.requires.fits (view_read g) (view_parts_read g) (number_of c.kind.result) c.kind.ensures c.size-row.result c.points-points.result c.rings-rings.result
    c.size-row.ensures.all c.points-points.ensures c.rings-rings.ensures (ap number_of c.in-Polygon.is) c.counted_size-in-Polygon.result c.counted_size-in-Polygon.ensures

pub returns-in-MultiPoint-clause-all : goal.returns-in-MultiPoint-clause-all
returns-in-MultiPoint-clause-all c =
    let g = c.args.view.now in
    points_size c.args.dimension (geometry_shown g) c.requires.fits (view_read g) (view_parts_read g) (number_of c.kind.result) c.kind.ensures c.size-row.result c.points-points.result c.rings-rings.result
    c.size-row.ensures.all c.points-points.ensures c.rings-rings.ensures (ap number_of c.in-MultiPoint.is) c.counted_size-in-MultiPoint.result c.counted_size-in-MultiPoint.ensures

pub returns-in-MultiLineString-clause-all : goal.returns-in-MultiLineString-clause-all
returns-in-MultiLineString-clause-all c =
    let g = c.args.view.now in
    lines_size c.args.dimension (geometry_shown g) c.requires.fits (view_read g) (view_parts_read g) (number_of c.kind.result) c.kind.ensures c.size-row.result c.points-points.result c.rings-rings.result
    c.size-row.ensures.all c.points-points.ensures c.rings-rings.ensures (ap number_of c.in-MultiLineString.is) c.counted_size-in-MultiLineString.result c.counted_size-in-MultiLineString.ensures

pub returns-in-MultiPolygon-clause-all : goal.returns-in-MultiPolygon-clause-all
returns-in-MultiPolygon-clause-all c =
    let g = c.args.view.now in
    elim c.in-MultiPolygon.is [
      | inl polygons ↦ polygons_size c.args.dimension (geometry_shown g) c.requires.fits (view_read g) (view_parts_read g) (number_of c.kind.result) c.kind.ensures
          c.size-row.result c.points-points.result c.rings-rings.result c.size-row.ensures.all c.points-points.ensures c.rings-rings.ensures (ap number_of polygons)
      | inr shapes ↦ shapes_size c.args.dimension (geometry_shown g) c.requires.fits (view_read g) (view_parts_read g) (number_of c.kind.result) c.kind.ensures
          c.size-row.result c.points-points.result c.rings-rings.result c.size-row.ensures.all c.points-points.ensures c.rings-rings.ensures (ap number_of shapes)
    ]
