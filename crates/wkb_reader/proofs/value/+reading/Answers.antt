use Rattle.std.proofs.Common.{◌≡◌, true, inl, inr, ◌+◌, ◌≤◌, [], map, sym, ap, subst, ◌∙◌, arith}
use Rattle.flat_layout.proofs.Judging.{exit}
use Rattle.fgb_schema.specs.Shapes.{no_ordinates, shape, shapes_of}
use Rattle.fgb_schema.specs.Tables.{has_parts}
use Rattle.geometry_view.specs.Kinds.{number_of}
use Rattle.owned_shape.specs.Records.{depth}
use Rattle.wkb_grammar.specs.Grammar.{bytes_of}
use Rattle.wkb_grammar.specs.ShapesShown.{shape_of}
use Rattle.wkb_reader.specs.Broken.{BreaksHead, BreaksLine, BreaksPolygon, BreaksPosition, BreaksValue, IsMember, in_head, in_line, in_point, in_polygon, level_below, member_of}
use Rattle.wkb_reader.specs.Heads.{order_of, standing_of}
use Rattle.wkb_reader.specs.Refusals.{Refuses}
use Rattle.wkb_reader.proofs.Bodies.{body_arm, value_by_body}
use Rattle.wkb_reader.proofs.Loops.{none_yet, one_more}
use Rattle.wkb_reader.proofs.Parts.{member_fails, members_cut, members_taken, one_part_more, part_member, part_suits, parted_level, parted_multi, parts_few, parts_shown}
use Rattle.wkb_reader.proofs.Passing.{turned}
use Rattle.wkb_reader.proofs.value.+reading.Goals as goal

pub take_value-returns-in_err-head-clause-err : goal.take_value-returns-in_err-head-clause-err
take_value-returns-in_err-head-clause-err t c =
    let e = c.in_err-head.field-0.0 in
    let b = c.args.cursor.now.rest.now in
    let standing = standing_of c.args.standing in
    exit _ _ _ e c.from_residual.ensures.1
    (turned e c.args.cursor.now.at (BreaksHead c.args.dialect c.args.level standing b) (BreaksValue c.args.dialect c.args.level standing b) (λ q r broken. in_head broken) c.in_err-head.ensures.err)

pub take_value-take_body-requires : goal.take_value-take_body-requires
take_value-take_body-requires t c = (omega (arith, c.decreases), (c.in_ok-head.ensures.shallow, c.requires.outer))

pub take_value-returns-clause-ok : goal.take_value-returns-clause-ok
take_value-returns-clause-ok t c =
    let head = c.in_ok-head.head in
    (value_by_body c.args.dialect (order_of head.order) c.args.level (number_of head.kind) head.dimension (standing_of c.args.standing) c.args.cursor.now c.take_head.new.cursor c.take_body.new.cursor
    c.take_body.result c.in_ok-head.ensures.shallow c.in_ok-head.ensures.suits c.in_ok-head.ensures.ok c.take_body.ensures.ok c.take_body.ensures.shallow c.take_body.ensures.err).0

pub take_value-returns-clause-err : goal.take_value-returns-clause-err
take_value-returns-clause-err t c =
    let head = c.in_ok-head.head in
    (value_by_body c.args.dialect (order_of head.order) c.args.level (number_of head.kind) head.dimension (standing_of c.args.standing) c.args.cursor.now c.take_head.new.cursor c.take_body.new.cursor
    c.take_body.result c.in_ok-head.ensures.shallow c.in_ok-head.ensures.suits c.in_ok-head.ensures.ok c.take_body.ensures.ok c.take_body.ensures.shallow c.take_body.ensures.err).1

pub take_body-take_parts-requires : goal.take_body-take_parts-requires
take_body-take_parts-requires t c =
    let parted : has_parts (number_of c.args.head.kind) ≡ true =
    elim c.in-MultiPolygon.is [ inl polygons ↦ ap (λ k. has_parts (number_of k)) polygons | inr shapes ↦ ap (λ k. has_parts (number_of k)) shapes ] in
    (omega (arith, c.decreases), (parted, (c.requires.inner, c.requires.outer)))

pub take_body-returns-in-Point-clause-shallow : goal.take_body-returns-in-Point-clause-shallow
take_body-returns-in-Point-clause-shallow t c =
    let head = c.args.head in
    (body_arm c.args.dialect (order_of head.order) c.args.level (number_of head.kind) 1 head.dimension c.args.cursor.now c.take_point.new.cursor c.take_point.result
    (BreaksPosition (order_of head.order) head.dimension true c.args.cursor.now.rest.now) (ap number_of c.in-Point.is) (omega arith) c.requires.inner (λ q r broken. in_point broken)
    (c.take_point.ensures.ok c.args.dialect) c.take_point.ensures.err).1

pub take_body-returns-in-Point-clause-err : goal.take_body-returns-in-Point-clause-err
take_body-returns-in-Point-clause-err t c =
    let head = c.args.head in
    (body_arm c.args.dialect (order_of head.order) c.args.level (number_of head.kind) 1 head.dimension c.args.cursor.now c.take_point.new.cursor c.take_point.result
    (BreaksPosition (order_of head.order) head.dimension true c.args.cursor.now.rest.now) (ap number_of c.in-Point.is) (omega arith) c.requires.inner (λ q r broken. in_point broken)
    (c.take_point.ensures.ok c.args.dialect) c.take_point.ensures.err).2

pub take_body-returns-in-LineString-clause-shallow : goal.take_body-returns-in-LineString-clause-shallow
take_body-returns-in-LineString-clause-shallow t c =
    let head = c.args.head in
    (body_arm c.args.dialect (order_of head.order) c.args.level (number_of head.kind) 2 head.dimension c.args.cursor.now c.take_line.new.cursor c.take_line.result
    (BreaksLine (order_of head.order) head.dimension c.args.cursor.now.rest.now) (ap number_of c.in-LineString.is) (omega arith) c.requires.inner (λ q r broken. in_line broken)
    (c.take_line.ensures.ok c.args.dialect) c.take_line.ensures.err).1

pub take_body-returns-in-LineString-clause-err : goal.take_body-returns-in-LineString-clause-err
take_body-returns-in-LineString-clause-err t c =
    let head = c.args.head in
    (body_arm c.args.dialect (order_of head.order) c.args.level (number_of head.kind) 2 head.dimension c.args.cursor.now c.take_line.new.cursor c.take_line.result
    (BreaksLine (order_of head.order) head.dimension c.args.cursor.now.rest.now) (ap number_of c.in-LineString.is) (omega arith) c.requires.inner (λ q r broken. in_line broken)
    (c.take_line.ensures.ok c.args.dialect) c.take_line.ensures.err).2

pub take_body-returns-in-Polygon-clause-shallow : goal.take_body-returns-in-Polygon-clause-shallow
take_body-returns-in-Polygon-clause-shallow t c =
    let head = c.args.head in
    (body_arm c.args.dialect (order_of head.order) c.args.level (number_of head.kind) 3 head.dimension c.args.cursor.now c.take_polygon.new.cursor c.take_polygon.result
    (BreaksPolygon (order_of head.order) head.dimension c.args.cursor.now.rest.now) (ap number_of c.in-Polygon.is) (omega arith) c.requires.inner (λ q r broken. in_polygon broken)
    (c.take_polygon.ensures.ok c.args.dialect) c.take_polygon.ensures.err).1

pub take_body-returns-in-Polygon-clause-err : goal.take_body-returns-in-Polygon-clause-err
take_body-returns-in-Polygon-clause-err t c =
    let head = c.args.head in
    (body_arm c.args.dialect (order_of head.order) c.args.level (number_of head.kind) 3 head.dimension c.args.cursor.now c.take_polygon.new.cursor c.take_polygon.result
    (BreaksPolygon (order_of head.order) head.dimension c.args.cursor.now.rest.now) (ap number_of c.in-Polygon.is) (omega arith) c.requires.inner (λ q r broken. in_polygon broken)
    (c.take_polygon.ensures.ok c.args.dialect) c.take_polygon.ensures.err).2

pub take_parts-returns-in_err-count-clause-err : goal.take_parts-returns-in_err-count-clause-err
take_parts-returns-in_err-count-clause-err t c =
    let head = c.args.head in
    let kind = number_of head.kind in
    let e = c.in_err-count.field-0.0 in
    exit _ _ _ e c.from_residual.ensures.1
    (members_cut c.args.dialect (order_of head.order) c.args.level kind head.dimension (parted_multi kind c.requires.parted) e c.args.cursor.now.at c.args.cursor.now.rest.now c.in_err-count.ensures.err)

pub take_parts-loop-init : goal.take_parts-loop-init
take_parts-loop-init t c =
    let kind = number_of c.args.head.kind in
    none_yet bytes_of (IsMember c.args.dialect (level_below c.args.level kind) kind c.args.head.dimension) c.word.new.self
    (λ members. (c.new-shape.result ≡ shape kind [] [] no_ordinates (shapes_of (map shape_of members))) × (c.args.level + depth c.new-shape.result ≤ 17))
    (c.new-shape.ensures, omega (arith, ap depth c.new-shape.ensures, c.requires.inner))

pub take_parts-take_value-requires : goal.take_parts-take_value-requires
take_parts-take_value-requires t c = (omega (arith, c.decreases, c.requires.inner), (omega (arith, c.requires.inner), omega arith))

pub take_parts-returns-in_err-part-clause-err : goal.take_parts-returns-in_err-part-clause-err
take_parts-returns-in_err-part-clause-err t c =
    let head = c.args.head in
    let kind = number_of head.kind in
    let level = c.args.level in
    let parted = c.requires.parted in
    let e = c.in_err-part.field-0.0 in
    exit _ _ _ e c.from_residual-in_err-part.ensures.1
    (member_fails c.args.dialect (order_of head.order) level kind head.dimension (parted_multi kind parted) c.in_ok-count.count c.loop.counter c.args.cursor.now c.word.new.self c.loop.cursor
    (λ members. (c.loop.shape ≡ shape kind [] [] no_ordinates (shapes_of (map shape_of members))) × (level + depth c.loop.shape ≤ 17)) (omega arith) c.in_ok-count.ensures.ok c.loop.invariant
    e (omega arith)
    (subst (λ n. Refuses c.loop.cursor.at (BreaksValue c.args.dialect n (member_of kind head.dimension) c.loop.cursor.rest.now) e) (sym (parted_level kind parted level)) c.in_err-part.ensures.err))

pub take_parts-push_part-requires-clause-known : goal.take_parts-push_part-requires-clause-known
take_parts-push_part-requires-clause-known t c =
    let kind = number_of c.args.head.kind in
    let part = c.in_ok-part.ensures.ok in
    part_suits kind c.requires.parted c.loop.shape c.in_ok-part.part c.loop.invariant.taken part.taken c.loop.invariant.shown.0 part.shown c.args.dialect (level_below c.args.level kind) c.args.head.dimension
    (part_member kind c.requires.parted c.args.dialect c.args.level c.args.head.dimension part.taken part.is)

pub take_parts-push_part-requires-clause-few : goal.take_parts-push_part-requires-clause-few
take_parts-push_part-requires-clause-few t c =
    omega (arith, parts_few (number_of c.args.head.kind) c.requires.parted c.loop.shape c.loop.invariant.taken c.loop.invariant.shown.0, c.loop.invariant.passed.moved, c.loop.cursor.small)

pub take_parts-loop-preserved : goal.take_parts-loop-preserved
take_parts-loop-preserved t c =
    let head = c.args.head in
    let kind = number_of head.kind in
    let level = c.args.level in
    let parted = c.requires.parted in
    let below = level_below level kind in
    let part = c.in_ok-part.ensures.ok in
    let new = c.push_part.new.self in
    one_more bytes_of (IsMember c.args.dialect below kind head.dimension) c.loop.counter c.word.new.self c.loop.cursor c.take_value.new.cursor
    (λ members. (c.loop.shape ≡ shape kind [] [] no_ordinates (shapes_of (map shape_of members))) × (level + depth c.loop.shape ≤ 17))
    (λ members. (new ≡ shape kind [] [] no_ordinates (shapes_of (map shape_of members))) × (level + depth new ≤ 17))
    (λ v. c.in_ok-part.part ≡ shape_of v) c.loop.invariant
    (record { taken = part.taken; is = part_member kind parted c.args.dialect level head.dimension part.taken part.is; passed = part.passed; shown = part.shown })
    (λ front v _ member before is. (
      one_part_more kind parted c.loop.shape c.in_ok-part.part front v before.0 is new c.in_ok-push_part.ensures.ok,
      omega (arith, c.in_ok-push_part.ensures.deep, before.1, member.shallow, parted_level kind parted level, ap depth is),
    ))

pub take_parts-returns-clause-ok : goal.take_parts-returns-clause-ok
take_parts-returns-clause-ok t c =
    let head = c.args.head in
    let kind = number_of head.kind in
    let level = c.args.level in
    let parted = c.requires.parted in
    members_taken c.args.dialect (order_of head.order) level kind head.dimension (parted_multi kind parted) c.in_ok-count.count c.loop.counter c.args.cursor.now c.word.new.self c.loop.cursor
    (λ members. (c.loop.shape ≡ shape kind [] [] no_ordinates (shapes_of (map shape_of members))) × (level + depth c.loop.shape ≤ 17)) (omega arith) c.in_ok-count.ensures.ok c.loop.invariant
    c.loop.shape (omega arith) (λ members _ shown. shown.0 ∙ parts_shown kind parted head.dimension members)

pub take_parts-returns-clause-shallow : goal.take_parts-returns-clause-shallow
take_parts-returns-clause-shallow t c = c.loop.invariant.shown.1
