use Rattle.std.proofs.Common.{◌+◌, ◌*◌, [], map, ap, ◌∙◌, refl}
use Rattle.level_bounds.specs.Shapes.{shape_of}
use Rattle.fgb_outside.proofs.Shown.{rose_since}
use Rattle.gap_window.specs.Gaps.{bridged}
use Rattle.hit_reader.specs.Met.{entry_at}
use Rattle.found_features.specs.Stops.{IsReadCause}
use Rattle.found_features.specs.Visits.{some}
use Rattle.found_features.proofs.Taking.{handed_same}
use Rattle.found_features.proofs.Stopping.{exit_cause, refusal_map, refusal_passed}
use Rattle.read_stop.proofs.Stopping.{on_err}
use Rattle.box_query.specs.Answers.{met, at_leaf}
use Rattle.box_query.specs.Needed.{hit_positions}
use Rattle.box_query.proofs.Searching.{leaves_inside, as_many, reading, is_searched, node_refused, index_part, index_rising, all_read, part_read, all_rising}
use Rattle.box_query.proofs.Stops.{stop_exit, failed_of}
use Rattle.box_query.proofs.source.search.Goals as goal

pub returns-in_err-hits-clause-part : goal.returns-in_err-hits-clause-part
returns-in_err-hits-clause-part g c = on_err c.from_residual.result _ (λ image told is. some [] (met image (shape_of c.args.levels.now) c.args.boxes.now) refl refl)

pub returns-in_err-hits-clause-refused : goal.returns-in_err-hits-clause-refused
returns-in_err-hits-clause-refused g c = exit_cause IsReadCause c.from_residual.result c.in_err-hits.field-0.0 _ c.from_residual.ensures.1 (λ stop cause.
    refusal_passed c.in_err-hits.field-0.0 stop _ _ (λ broken breaks image told is. ([], node_refused image _ _ _ _ c.args.boxes.now c.args.gap is broken (breaks image told), refl)) cause c.in_err-hits.ensures.refused)

pub returns-in_err-hits-clause-front : goal.returns-in_err-hits-clause-front
returns-in_err-hits-clause-front g c = on_err c.from_residual.result _ (λ image told pieces is file. let t = shape_of c.args.levels.now in
    index_part image t _ _ _ c.args.boxes.now c.args.gap is (bridged c.args.gap (hit_positions image t c.args.boxes.now)) (c.in_err-hits.ensures.front image told))

pub returns-in_err-hits-clause-rising : goal.returns-in_err-hits-clause-rising
returns-in_err-hits-clause-rising g c = λ image told is. index_rising image _ _ _ _ c.args.boxes.now c.args.gap is (c.in_err-hits.ensures.front image told)

pub returns-in_err-hits-clause-handed : goal.returns-in_err-hits-clause-handed
returns-in_err-hits-clause-handed g c = handed_same g.V.Visitor.step g.V.Visitor.failed_step _ _ refl

pub take_hits-requires-clause-leaves : goal.take_hits-requires-clause-leaves
take_hits-requires-clause-leaves g c =
    leaves_inside (shape_of c.args.levels.now) c.args.place c.args.end c.level.result.0 c.in_ok-hits.hits.items c.requires.order c.requires.small c.level.ensures.first c.in_ok-hits.ensures.within

pub returns-in_err-take_hits-clause-part : goal.returns-in_err-take_hits-clause-part
returns-in_err-take_hits-clause-part g c = on_err c.from_residual-in_err-take_hits.result _ (λ image told is. let told_behind = c.in_ok-hits.ensures.keeps.image ∙ told in
    let of = reading image _ _ _ _ c.args.boxes.now c.args.gap is _ c.in_ok-hits.hits.items refl (ap (λ n. c.args.place + 40 * n) c.level.ensures.first) (ap (λ n. c.args.place + 40 * n) c.nodes.ensures.nodes) refl
    (c.in_ok-hits.ensures.found image told) (c.in_ok-hits.ensures.next image told) in
    c.in_err-take_hits.ensures.part image told_behind _ _ is.opened of.within of.leaves of.rise)

pub returns-in_err-take_hits-clause-refused : goal.returns-in_err-take_hits-clause-refused
returns-in_err-take_hits-clause-refused g c = stop_exit c.from_residual-in_err-take_hits.result c.in_err-take_hits.field-0.0 _ c.from_residual-in_err-take_hits.ensures.1
    (refusal_map c.in_err-take_hits.field-0.0 _ _ (λ broken refused image told is. let told_behind = c.in_ok-hits.ensures.keeps.image ∙ told in
    let of = reading image _ _ _ _ c.args.boxes.now c.args.gap is _ c.in_ok-hits.hits.items refl (ap (λ n. c.args.place + 40 * n) c.level.ensures.first) (ap (λ n. c.args.place + 40 * n) c.nodes.ensures.nodes) refl
    (c.in_ok-hits.ensures.found image told) (c.in_ok-hits.ensures.next image told) in
    let at = refused image told_behind _ _ is.opened of.within of.leaves of.rise in
    (map (entry_at image (shape_of c.args.levels.now)) at.0, at_leaf at.0 at.2 at.1 is.opened at.3 at.4, at.5)) c.in_err-take_hits.ensures.refused)

pub returns-in_err-take_hits-clause-front : goal.returns-in_err-take_hits-clause-front
returns-in_err-take_hits-clause-front g c = on_err c.from_residual-in_err-take_hits.result _ (λ image told pieces is file. let told_behind = c.in_ok-hits.ensures.keeps.image ∙ told in
    let of = reading image _ _ _ _ c.args.boxes.now c.args.gap is _ c.in_ok-hits.hits.items refl (ap (λ n. c.args.place + 40 * n) c.level.ensures.first) (ap (λ n. c.args.place + 40 * n) c.nodes.ensures.nodes) refl
    (c.in_ok-hits.ensures.found image told) (c.in_ok-hits.ensures.next image told) in
    part_read image _ _ _ _ c.args.boxes.now c.args.gap is c.nodes.result c.nodes.ensures.nodes (c.in_ok-hits.ensures.reads image told) _
    (c.in_err-take_hits.ensures.front image told_behind _ _ pieces is.opened of.within of.leaves of.rise file))

pub returns-in_err-take_hits-clause-rising : goal.returns-in_err-take_hits-clause-rising
returns-in_err-take_hits-clause-rising g c = λ image told is. all_rising image _ _ _ _ c.args.boxes.now c.args.gap is c.nodes.result c.nodes.ensures.nodes (c.in_ok-hits.ensures.reads image told) c.in_err-take_hits.ensures.rising

pub returns-in_err-take_hits-clause-failed : goal.returns-in_err-take_hits-clause-failed
returns-in_err-take_hits-clause-failed g c = λ failed. let keeps = c.in_ok-hits.ensures.keeps in
    rose_since _ _ _ keeps.later (c.in_err-take_hits.ensures.failed (failed_of c.from_residual-in_err-take_hits.result c.in_err-take_hits.field-0.0 c.from_residual-in_err-take_hits.ensures.1 failed))

pub returns-clause-done : goal.returns-clause-done
returns-clause-done g c = λ image told is. let told_behind = c.in_ok-hits.ensures.keeps.image ∙ told in
    let of = reading image _ _ _ _ c.args.boxes.now c.args.gap is _ c.in_ok-hits.hits.items refl (ap (λ n. c.args.place + 40 * n) c.level.ensures.first) (ap (λ n. c.args.place + 40 * n) c.nodes.ensures.nodes) refl
    (c.in_ok-hits.ensures.found image told) (c.in_ok-hits.ensures.next image told) in
    let done = c.in_ok-take_hits.ensures.done image told_behind _ _ is.opened of.within of.leaves of.rise in
    let many = as_many image _ _ _ _ c.args.boxes.now c.args.gap is c.in_ok-hits.hits.items (c.in_ok-hits.ensures.found image told) c.len-found.result (c.len-found.ensures ∙ c.in_ok-hits.hits.ok.0) in
    (is_searched image _ _ _ _ c.args.boxes.now c.args.gap is (c.in_ok-hits.ensures.clean image told) done.1, done.0, many)

pub returns-clause-reads : goal.returns-clause-reads
returns-clause-reads g c = λ image told pieces is file. let told_behind = c.in_ok-hits.ensures.keeps.image ∙ told in
    let of = reading image _ _ _ _ c.args.boxes.now c.args.gap is _ c.in_ok-hits.hits.items refl (ap (λ n. c.args.place + 40 * n) c.level.ensures.first) (ap (λ n. c.args.place + 40 * n) c.nodes.ensures.nodes) refl
    (c.in_ok-hits.ensures.found image told) (c.in_ok-hits.ensures.next image told) in
    all_read image _ _ _ _ c.args.boxes.now c.args.gap is c.nodes.result c.nodes.ensures.nodes (c.in_ok-hits.ensures.reads image told) _
    (c.in_ok-take_hits.ensures.reads image told_behind _ _ pieces is.opened of.within of.leaves of.rise file)

pub returns-clause-rising : goal.returns-clause-rising
returns-clause-rising g c = λ image told is. all_rising image _ _ _ _ c.args.boxes.now c.args.gap is c.nodes.result c.nodes.ensures.nodes (c.in_ok-hits.ensures.reads image told) c.in_ok-take_hits.ensures.rising
