use Rattle.std.proofs.Common.{◌≡◌, inl, inr, ◌∙◌, sym, ap, arith}
use Rattle.std.proofs.lemmas.Result.{on_ok_weaker}
use Rattle.fgb_schema.specs.Shapes.{parts_in}
use Rattle.geometry_view.specs.Kinds.{number_of}
use Rattle.wkb_writer.specs.Levels.{rows_in}
use Rattle.wkb_writer.specs.Wkb.{line_bytes, ring_of, value_in}
use Rattle.wkb_writer.proofs.Appends.{piece_more, whole_ring}
use Rattle.wkb_writer.proofs.RowsAt.{length-rows_in}
use Rattle.wkb_writer.proofs.Trees.{part_below}
use Rattle.wkb_writer.proofs.Values.{as_line, as_line_strings, as_lines, as_point, as_points, as_polygons, as_shapes, body_whole, whole}
use Rattle.wkb_writer.proofs.write.+writing.Goals as goal

pub put_parts-put_value-requires : goal.put_parts-put_value-requires
put_parts-put_value-requires g t c κs within =
    (omega (arith, c.decreases, part_below (g.S.Shows.shown c.args.view.now) c.loop-i.i (g.S.Shows.shown c.part.result) c.part.ensures), within)

pub put_parts-loop-i-preserved : goal.put_parts-loop-i-preserved
put_parts-loop-i-preserved g t c =
    piece_more (value_in c.args.dialect c.args.dimension) (parts_in (g.S.Shows.shown c.args.view.now)) c.loop-i.i (g.S.Shows.shown c.part.result) c.put_count.new.out.items c.loop-i.out.items c.put_value.new.out.items
    c.part.ensures c.loop-i.invariant c.in_ok-put_value.ensures

pub put_value-returns : goal.put_value-returns
put_value-returns g t c =
    on_ok_weaker c.put_body.result
    (λ grown. whole c.args.dialect c.args.dimension (g.S.Shows.shown c.args.view.now) (number_of c.kind.result) c.head.result c.args.out.now.items c.extend_from_slice.new.self.items c.put_body.new.out.items
    c.kind.ensures c.head.ensures c.in_ok-extend_from_slice.ensures.items grown) c.put_body.ensures

pub put_body-returns-in-Point : goal.put_body-returns-in-Point
put_body-returns-in-Point g t c =
    on_ok_weaker c.put_point.result
    (λ grown. body_whole c.args.dialect c.args.dimension (g.S.Shows.shown c.args.view.now) (number_of c.kind.result) 1 _ c.args.out.now.items c.put_point.new.out.items
    c.kind.ensures (ap number_of c.in-Point.is) grown (as_point c.args.dialect c.args.dimension (g.S.Shows.shown c.args.view.now))) c.put_point.ensures

pub put_body-returns-in-LineString : goal.put_body-returns-in-LineString
put_body-returns-in-LineString g t c =
    let s = g.S.Shows.shown c.args.view.now in
    let all : ring_of (rows_in s) (0, c.points.result) ≡ rows_in s = whole_ring (rows_in s) c.points.result (length-rows_in s ∙ sym c.points.ensures) in
    on_ok_weaker c.put_line.result
    (λ grown. body_whole c.args.dialect c.args.dimension s (number_of c.kind.result) 2 _ c.args.out.now.items c.put_line.new.out.items
    c.kind.ensures (ap number_of c.in-LineString.is) grown (ap line_bytes all ∙ as_line c.args.dialect c.args.dimension s)) c.put_line.ensures

pub put_body-returns-in-Polygon : goal.put_body-returns-in-Polygon
put_body-returns-in-Polygon g t c =
    on_ok_weaker c.put_lines.result
    (λ grown. body_whole c.args.dialect c.args.dimension (g.S.Shows.shown c.args.view.now) (number_of c.kind.result) 3 _ c.args.out.now.items c.put_lines.new.out.items
    c.kind.ensures (ap number_of c.in-Polygon.is) grown (as_lines c.args.dialect c.args.dimension (g.S.Shows.shown c.args.view.now))) c.put_lines.ensures

pub put_body-returns-in-MultiPoint : goal.put_body-returns-in-MultiPoint
put_body-returns-in-MultiPoint g t c =
    on_ok_weaker c.put_points.result
    (λ grown. body_whole c.args.dialect c.args.dimension (g.S.Shows.shown c.args.view.now) (number_of c.kind.result) 4 _ c.args.out.now.items c.put_points.new.out.items
    c.kind.ensures (ap number_of c.in-MultiPoint.is) grown (as_points c.args.dialect c.args.dimension (g.S.Shows.shown c.args.view.now))) c.put_points.ensures

pub put_body-returns-in-MultiLineString : goal.put_body-returns-in-MultiLineString
put_body-returns-in-MultiLineString g t c =
    on_ok_weaker c.put_lines-in-MultiLineString.result
    (λ grown. body_whole c.args.dialect c.args.dimension (g.S.Shows.shown c.args.view.now) (number_of c.kind.result) 5 _ c.args.out.now.items c.put_lines-in-MultiLineString.new.out.items
    c.kind.ensures (ap number_of c.in-MultiLineString.is) grown
    (as_line_strings c.args.dialect c.args.dimension (g.S.Shows.shown c.args.view.now) c.head.result c.head.ensures)) c.put_lines-in-MultiLineString.ensures

pub put_body-returns-in-MultiPolygon : goal.put_body-returns-in-MultiPolygon
put_body-returns-in-MultiPolygon g t c =
    let d = c.args.dimension in let s = g.S.Shows.shown c.args.view.now in
    elim c.in-MultiPolygon.is [
      | inl polygons ↦ on_ok_weaker c.put_parts.result
          (λ grown. body_whole c.args.dialect d s (number_of c.kind.result) 6 _ c.args.out.now.items c.put_parts.new.out.items
          c.kind.ensures (ap number_of polygons) grown (as_polygons c.args.dialect d s)) c.put_parts.ensures
      | inr shapes ↦ on_ok_weaker c.put_parts.result
          (λ grown. body_whole c.args.dialect d s (number_of c.kind.result) 7 _ c.args.out.now.items c.put_parts.new.out.items
          c.kind.ensures (ap number_of shapes) grown (as_shapes c.args.dialect d s)) c.put_parts.ensures
    ]
