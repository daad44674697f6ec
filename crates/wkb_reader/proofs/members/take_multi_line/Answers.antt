use Rattle.std.proofs.Common.{refl, sym, ap, subst, ◌∙◌, map, arith}
use Rattle.std.specs.List.{flat_map}
use Rattle.std.proofs.lemmas.List.{map_push}
use Rattle.flat_layout.proofs.Judging.{exit}
use Rattle.fgb_schema.specs.Shapes.{ordinates_in, type_in}
use Rattle.fgb_schema.specs.Tables.{has_points}
use Rattle.wkb_grammar.specs.Grammar.{bytes_of}
use Rattle.wkb_grammar.specs.ShapesShown.{joined, positions_in, rings_along, shape_of_points}
use Rattle.wkb_reader.specs.Broken.{IsMember}
use Rattle.wkb_reader.specs.Gathered.{AddsRing, HasRings}
use Rattle.wkb_reader.specs.Heads.{order_of}
use Rattle.wkb_reader.proofs.Loops.{none_yet, one_more}
use Rattle.wkb_reader.proofs.Parts.{all_points, member_fails, members_bytes, members_cut, members_taken, points_of_line, positions_of_list}
use Rattle.wkb_reader.proofs.Rings.{each_m, each_z, few_points, few_rings, no_rings, one_ring_more, rings_whole, type_of_rings}
use Rattle.wkb_reader.proofs.members.take_multi_line.Goals as goal

pub returns-in_err-count-clause-err : goal.returns-in_err-count-clause-err
returns-in_err-count-clause-err c =
    exit _ _ _ c.in_err-count.field-0.0 c.from_residual.ensures.1
    (members_cut c.args.dialect (order_of c.args.order) c.args.level 5 c.args.dimension refl c.in_err-count.field-0.0 c.args.cursor.now.at c.args.cursor.now.rest.now c.in_err-count.ensures.err)

pub loop-init : goal.loop-init
loop-init c =
    let d = c.args.dimension in
    none_yet bytes_of (IsMember c.args.dialect c.args.level 5 d) c.word.new.self (λ members. HasRings d 5 c.new-shape.result c.new-points.result (map positions_in members))
    (no_rings d 5 refl c.new-shape.result c.new-points.result c.new-shape.ensures c.new-points.ensures.z c.new-points.ensures.m)

pub take_member_line-requires-clause-ringed : goal.take_member_line-requires-clause-ringed
take_member_line-requires-clause-ringed c = type_of_rings c.args.dimension 5 refl c.loop.shape c.loop.points (map positions_in c.loop.invariant.taken) c.loop.invariant.shown

pub take_member_line-requires-clause-bare : goal.take_member_line-requires-clause-bare
take_member_line-requires-clause-bare c = ap ordinates_in c.loop.invariant.shown.rings

pub take_member_line-requires-clause-few_points : goal.take_member_line-requires-clause-few_points
take_member_line-requires-clause-few_points c =
    let members = c.loop.invariant.taken in
    few_points c.args.dimension 5 refl c.word.new.self c.loop.cursor (flat_map bytes_of members) c.loop.shape c.loop.points (map positions_in members)
    c.loop.invariant.shown c.loop.invariant.passed (members_bytes members)

pub take_member_line-requires-clause-few_rings : goal.take_member_line-requires-clause-few_rings
take_member_line-requires-clause-few_rings c =
    let members = c.loop.invariant.taken in
    few_rings c.args.dimension 5 refl c.word.new.self c.loop.cursor (flat_map bytes_of members) c.loop.shape c.loop.points (map positions_in members)
    c.loop.invariant.shown c.loop.invariant.passed (members_bytes members)

pub returns-in_err-take_member_line-clause-err : goal.returns-in_err-take_member_line-clause-err
returns-in_err-take_member_line-clause-err c =
    let e = c.in_err-take_member_line.field-0.0 in
    exit _ _ _ e c.from_residual-in_err-take_member_line.ensures.1
    (member_fails c.args.dialect (order_of c.args.order) c.args.level 5 c.args.dimension refl c.in_ok-count.count c.loop.counter c.args.cursor.now c.word.new.self c.loop.cursor
    (λ members. HasRings c.args.dimension 5 c.loop.shape c.loop.points (map positions_in members)) (omega arith) c.in_ok-count.ensures.ok c.loop.invariant e (omega arith)
    c.in_err-take_member_line.ensures.err)

pub loop-preserved : goal.loop-preserved
loop-preserved c =
    let d = c.args.dimension in
    let shape = c.take_member_line.new.shape in
    let points = c.take_member_line.new.points in
    one_more bytes_of (IsMember c.args.dialect c.args.level 5 d) c.loop.counter c.word.new.self c.loop.cursor c.take_member_line.new.cursor
    (λ members. HasRings d 5 c.loop.shape c.loop.points (map positions_in members)) (λ members. HasRings d 5 shape points (map positions_in members))
    (λ v. AddsRing d c.loop.shape shape c.loop.points points (positions_in v)) c.loop.invariant c.in_ok-take_member_line.ensures.ok
    (λ front v _ _ before adds. subst (HasRings d 5 shape points) (sym (map_push positions_in front v))
    (one_ring_more d 5 refl c.loop.shape shape c.loop.points points (map positions_in front) (positions_in v) before adds))

pub put_beside-requires-clause-pointed : goal.put_beside-requires-clause-pointed
put_beside-requires-clause-pointed c = ap (λ s. has_points (type_in s)) c.loop.invariant.shown.rings

pub put_beside-requires-clause-each_z : goal.put_beside-requires-clause-each_z
put_beside-requires-clause-each_z c =
    let d = c.args.dimension in
    let members = c.loop.invariant.taken in
    each_z d 5 refl c.word.new.self c.loop.cursor (flat_map bytes_of members) c.loop.shape c.loop.points (map positions_in members) c.loop.invariant.shown c.loop.invariant.passed
    (members_bytes members) (all_points c.args.dialect c.args.level 5 d (points_of_line c.args.dialect c.args.level d) members c.loop.invariant.is.0)

pub put_beside-requires-clause-each_m : goal.put_beside-requires-clause-each_m
put_beside-requires-clause-each_m c =
    let d = c.args.dimension in
    let members = c.loop.invariant.taken in
    each_m d 5 refl c.word.new.self c.loop.cursor (flat_map bytes_of members) c.loop.shape c.loop.points (map positions_in members) c.loop.invariant.shown c.loop.invariant.passed
    (members_bytes members) (all_points c.args.dialect c.args.level 5 d (points_of_line c.args.dialect c.args.level d) members c.loop.invariant.is.0)

pub returns-clause-ok : goal.returns-clause-ok
returns-clause-ok c =
    let d = c.args.dimension in
    members_taken c.args.dialect (order_of c.args.order) c.args.level 5 d refl c.in_ok-count.count c.loop.counter c.args.cursor.now c.word.new.self c.loop.cursor
    (λ members. HasRings d 5 c.loop.shape c.loop.points (map positions_in members)) (omega arith) c.in_ok-count.ensures.ok c.loop.invariant c.put_beside.new.shape (omega arith)
    (λ members _ has. rings_whole d 5 refl c.loop.shape c.put_beside.new.shape c.loop.points (map positions_in members) has c.in_ok-put_beside.ensures
    ∙ ap (λ lines. shape_of_points 5 d (joined lines) (rings_along 0 lines)) (sym (positions_of_list members)))
