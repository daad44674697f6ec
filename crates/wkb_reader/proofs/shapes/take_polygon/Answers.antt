use Rattle.std.proofs.Common.{refl, ap, arith}
use Rattle.std.specs.List.{All, flat_map}
use Rattle.std.proofs.lemmas.List.Elements.{All-weaker}
use Rattle.flat_layout.proofs.Judging.{exit}
use Rattle.fgb_schema.specs.Shapes.{ordinates_in, type_in}
use Rattle.fgb_schema.specs.Tables.{has_points}
use Rattle.wkb_grammar.specs.Grammar.{IsLine, IsPosition, line_bytes_in, polygon}
use Rattle.wkb_reader.specs.Broken.{BreaksLine}
use Rattle.wkb_reader.specs.Gathered.{AddsRing, HasRings}
use Rattle.wkb_reader.specs.Heads.{order_of}
use Rattle.wkb_reader.proofs.Loops.{all_taken, count_cut, none_yet, one_fails, one_more}
use Rattle.wkb_reader.proofs.Rings.{all_joined, each_m, each_z, few_points, few_rings, lines_bytes, no_rings, one_ring_more, rings_whole, type_of_rings}
use Rattle.wkb_reader.proofs.shapes.take_polygon.Goals as goal

pub returns-in_err-count-clause-err : goal.returns-in_err-count-clause-err
returns-in_err-count-clause-err c =
    let o = order_of c.args.order in let d = c.args.dimension in
    exit _ _ _ c.in_err-count.field-0.0 c.from_residual.ensures.1
    (count_cut (line_bytes_in o) (IsLine d) o (BreaksLine o d) c.in_err-count.field-0.0 c.args.cursor.now.at c.args.cursor.now.rest.now c.in_err-count.ensures.err)

pub loop-init : goal.loop-init
loop-init c =
    let d = c.args.dimension in
    none_yet (line_bytes_in (order_of c.args.order)) (IsLine d) c.word.new.self (HasRings d 3 c.new-shape.result c.new-points.result)
    (no_rings d 3 refl c.new-shape.result c.new-points.result c.new-shape.ensures c.new-points.ensures.z c.new-points.ensures.m)

pub take_ring-requires-clause-ringed : goal.take_ring-requires-clause-ringed
take_ring-requires-clause-ringed c = type_of_rings c.args.dimension 3 refl c.loop.shape c.loop.points c.loop.invariant.taken c.loop.invariant.shown

pub take_ring-requires-clause-bare : goal.take_ring-requires-clause-bare
take_ring-requires-clause-bare c = ap ordinates_in c.loop.invariant.shown.rings

pub take_ring-requires-clause-few_points : goal.take_ring-requires-clause-few_points
take_ring-requires-clause-few_points c =
    let o = order_of c.args.order in
    let lines = c.loop.invariant.taken in
    few_points c.args.dimension 3 refl c.word.new.self c.loop.cursor (flat_map (line_bytes_in o) lines) c.loop.shape c.loop.points lines c.loop.invariant.shown c.loop.invariant.passed (lines_bytes o lines)

pub take_ring-requires-clause-few_rings : goal.take_ring-requires-clause-few_rings
take_ring-requires-clause-few_rings c =
    let o = order_of c.args.order in
    let lines = c.loop.invariant.taken in
    few_rings c.args.dimension 3 refl c.word.new.self c.loop.cursor (flat_map (line_bytes_in o) lines) c.loop.shape c.loop.points lines c.loop.invariant.shown c.loop.invariant.passed (lines_bytes o lines)

pub returns-in_err-take_ring-clause-err : goal.returns-in_err-take_ring-clause-err
returns-in_err-take_ring-clause-err c =
    let o = order_of c.args.order in let d = c.args.dimension in
    exit _ _ _ c.in_err-take_ring.field-0.0 c.from_residual-in_err-take_ring.ensures.1
    (one_fails (line_bytes_in o) (IsLine d) o c.in_ok-count.count c.loop.counter c.args.cursor.now c.word.new.self c.loop.cursor (HasRings d 3 c.loop.shape c.loop.points) (omega arith)
    c.in_ok-count.ensures.ok c.loop.invariant c.in_err-take_ring.field-0.0 (BreaksLine o d) (omega arith) c.in_err-take_ring.ensures.err)

pub loop-preserved : goal.loop-preserved
loop-preserved c =
    let d = c.args.dimension in
    one_more (line_bytes_in (order_of c.args.order)) (IsLine d) c.loop.counter c.word.new.self c.loop.cursor c.take_ring.new.cursor (HasRings d 3 c.loop.shape c.loop.points)
    (HasRings d 3 c.take_ring.new.shape c.take_ring.new.points) (AddsRing d c.loop.shape c.take_ring.new.shape c.loop.points c.take_ring.new.points)
    c.loop.invariant c.in_ok-take_ring.ensures.ok
    (λ front ps _ _ before new. one_ring_more d 3 refl c.loop.shape c.take_ring.new.shape c.loop.points c.take_ring.new.points front ps before new)

pub put_beside-requires-clause-pointed : goal.put_beside-requires-clause-pointed
put_beside-requires-clause-pointed c = ap (λ s. has_points (type_in s)) c.loop.invariant.shown.rings

pub put_beside-requires-clause-each_z : goal.put_beside-requires-clause-each_z
put_beside-requires-clause-each_z c =
    let o = order_of c.args.order in let d = c.args.dimension in
    let lines = c.loop.invariant.taken in
    let are = all_joined d lines (All-weaker (IsLine d) (λ ps. All (IsPosition d) ps) (λ ps line. line.0) lines c.loop.invariant.is.0) in
    each_z d 3 refl c.word.new.self c.loop.cursor (flat_map (line_bytes_in o) lines) c.loop.shape c.loop.points lines c.loop.invariant.shown c.loop.invariant.passed (lines_bytes o lines) are

pub put_beside-requires-clause-each_m : goal.put_beside-requires-clause-each_m
put_beside-requires-clause-each_m c =
    let o = order_of c.args.order in let d = c.args.dimension in
    let lines = c.loop.invariant.taken in
    let are = all_joined d lines (All-weaker (IsLine d) (λ ps. All (IsPosition d) ps) (λ ps line. line.0) lines c.loop.invariant.is.0) in
    each_m d 3 refl c.word.new.self c.loop.cursor (flat_map (line_bytes_in o) lines) c.loop.shape c.loop.points lines c.loop.invariant.shown c.loop.invariant.passed (lines_bytes o lines) are

pub returns-clause-ok : goal.returns-clause-ok
returns-clause-ok c dialect =
    let o = order_of c.args.order in let d = c.args.dimension in
    let all = all_taken (line_bytes_in o) (IsLine d) o c.in_ok-count.count c.loop.counter c.args.cursor.now c.word.new.self c.loop.cursor (HasRings d 3 c.loop.shape c.loop.points) (omega arith)
    c.in_ok-count.ensures.ok c.loop.invariant (omega arith) in
    record {
      taken = polygon all.taken;
      is = record { is = all.is; speaks = tt; same = refl };
      passed = all.passed;
      shown = rings_whole d 3 refl c.loop.shape c.put_beside.new.shape c.loop.points all.taken all.shown c.in_ok-put_beside.ensures;
    }
