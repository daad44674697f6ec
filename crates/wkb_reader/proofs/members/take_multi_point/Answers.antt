use Rattle.std.proofs.Common.{refl, sym, ap, subst, ◌∙◌, [], map, arith}
use Rattle.flat_layout.proofs.Judging.{exit}
use Rattle.wkb_grammar.specs.Grammar.{bytes_of}
use Rattle.wkb_grammar.specs.ShapesShown.{joined, positions_in, shape_of_points}
use Rattle.wkb_reader.specs.Broken.{IsMember}
use Rattle.wkb_reader.specs.Gathered.{Adds}
use Rattle.wkb_reader.specs.Heads.{order_of}
use Rattle.wkb_reader.proofs.Lists.{adds_more, adds_none, gathered_even, gathered_level, points_alone, shape_gathered}
use Rattle.wkb_reader.proofs.Loops.{none_yet, one_more}
use Rattle.wkb_reader.proofs.Parts.{all_points, member_fails, members_bytes, members_cut, members_taken, points_more, points_of_point, positions_of_list}
use Rattle.wkb_reader.proofs.members.take_multi_point.Goals as goal

pub returns-in_err-count-clause-err : goal.returns-in_err-count-clause-err
returns-in_err-count-clause-err c =
    exit _ _ _ c.in_err-count.field-0.0 c.from_residual.ensures.1
    (members_cut c.args.dialect (order_of c.args.order) c.args.level 4 c.args.dimension refl c.in_err-count.field-0.0 c.args.cursor.now.at c.args.cursor.now.rest.now c.in_err-count.ensures.err)

pub loop-init : goal.loop-init
loop-init c =
    let points = c.reserve.new.self in
    none_yet bytes_of (IsMember c.args.dialect c.args.level 4 c.args.dimension) c.word.new.self (λ members. Adds c.args.dimension points points (joined (map positions_in members)))
    (adds_none c.args.dimension points points refl refl refl)

pub returns-in_err-take_member_point-clause-err : goal.returns-in_err-take_member_point-clause-err
returns-in_err-take_member_point-clause-err c =
    let e = c.in_err-take_member_point.field-0.0 in
    exit _ _ _ e c.from_residual-in_err-take_member_point.ensures.1
    (member_fails c.args.dialect (order_of c.args.order) c.args.level 4 c.args.dimension refl c.in_ok-count.count c.loop.counter c.args.cursor.now c.word.new.self c.loop.cursor
    (λ members. Adds c.args.dimension c.reserve.new.self c.loop.points (joined (map positions_in members))) (omega arith) c.in_ok-count.ensures.ok c.loop.invariant e (omega arith)
    c.in_err-take_member_point.ensures.err)

pub loop-preserved : goal.loop-preserved
loop-preserved c =
    let d = c.args.dimension in
    let start = c.reserve.new.self in
    let new = c.take_member_point.new.points in
    one_more bytes_of (IsMember c.args.dialect c.args.level 4 d) c.loop.counter c.word.new.self c.loop.cursor c.take_member_point.new.cursor
    (λ members. Adds d start c.loop.points (joined (map positions_in members))) (λ members. Adds d start new (joined (map positions_in members)))
    (λ v. Adds d c.loop.points new (positions_in v)) c.loop.invariant c.in_ok-take_member_point.ensures.ok
    (λ front v _ _ before adds. subst (Adds d start new) (sym (points_more front v)) (adds_more d start c.loop.points new (joined (map positions_in front)) (positions_in v) before adds))

pub gather-requires-clause-pairs : goal.gather-requires-clause-pairs
gather-requires-clause-pairs c =
    let kept = c.in_ok-reserve.ensures in
    let empty = c.new-points.ensures in
    gathered_even 4 c.args.dimension c.reserve.new.self c.loop.points (joined (map positions_in c.loop.invariant.taken)) (kept.xy ∙ empty.xy) (kept.z ∙ empty.z) (kept.m ∙ empty.m)
    c.loop.invariant.shown

pub gather-requires-clause-level : goal.gather-requires-clause-level
gather-requires-clause-level c =
    let kept = c.in_ok-reserve.ensures in
    let empty = c.new-points.ensures in
    let d = c.args.dimension in
    let members = c.loop.invariant.taken in
    let ps = joined (map positions_in members) in
    gathered_level 4 d c.reserve.new.self c.loop.points ps (kept.xy ∙ empty.xy) (kept.z ∙ empty.z) (kept.m ∙ empty.m) c.loop.invariant.shown
    (points_alone d 4 ps refl refl refl (all_points c.args.dialect c.args.level 4 d (points_of_point c.args.dialect c.args.level d) members c.loop.invariant.is.0) (λ one. absurd (omega (arith, one)))
    (omega (arith, members_bytes members, c.loop.invariant.passed.moved, c.loop.cursor.small)))

pub returns-clause-ok : goal.returns-clause-ok
returns-clause-ok c =
    let kept = c.in_ok-reserve.ensures in
    let empty = c.new-points.ensures in
    let d = c.args.dimension in
    members_taken c.args.dialect (order_of c.args.order) c.args.level 4 d refl c.in_ok-count.count c.loop.counter c.args.cursor.now c.word.new.self c.loop.cursor
    (λ members. Adds d c.reserve.new.self c.loop.points (joined (map positions_in members))) (omega arith) c.in_ok-count.ensures.ok c.loop.invariant c.in_ok-shape.shape (omega arith)
    (λ members _ adds. c.in_ok-shape.ensures
    ∙ shape_gathered 4 d c.reserve.new.self c.loop.points (joined (map positions_in members)) (kept.xy ∙ empty.xy) (kept.z ∙ empty.z) (kept.m ∙ empty.m) adds
    ∙ ap (λ lines. shape_of_points 4 d (joined lines) []) (sym (positions_of_list members)))
