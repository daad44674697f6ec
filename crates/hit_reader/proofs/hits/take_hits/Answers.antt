use Rattle.std.proofs.Common.{◌≡◌, ◌+◌, ◌*◌, ◌^◌, ◌≤◌, ap, length, subst, arith, rules}
use Rattle.std.specs.List.{AllByRecursion}
use Rattle.section_window.specs.Window.{Held}
use Rattle.tree_search.specs.declared.search.Hit.{Hit}
use Rattle.found_features.proofs.Taking.{some_nothing, some_then, handed_some, handed_then}
use Rattle.hit_reader.proofs.Refusing.{refused_map, on_err_told}
use Rattle.hit_reader.proofs.Rising.{rises_then_part, rises_whole}
use Rattle.hit_reader.proofs.Whole.{all_front, asks_rising, goes_new, goes_none, goes_more, goes_part, goes_refused, goes_front, goes_hands, left_all, leaves_done, leaves_part, leaves_refused, leaves_front, nexts_are, parts_are}
use Rattle.hit_reader.proofs.hits.take_hits.Goals as goal

pub loop-rest-init : goal.loop-rest-init
loop-rest-init g c = record {
  goes = goes_none g.V.Visitor.step g.V.Visitor.failed_step c.args.section.now c.args.hits.now c.new-window.result (g.S.RangeSource.seen c.args.source.now) c.args.visitor.now
      (goes_new g.V.Visitor.step g.V.Visitor.failed_step c.args.section.now c.args.hits.now c.new-window.result (g.S.RangeSource.seen c.args.source.now) c.args.visitor.now c.new-window.ensures c.requires.order c.requires.inside)
      (ap (λ (w : Held). length w.bytes) c.new-window.ensures);
  later = search rules;
  takes = some_nothing g.V.Visitor.step _;
  tells = search rules;
}

pub take_run-requires-clause-leaves : goal.take_run-requires-clause-leaves
take_run-requires-clause-leaves g c =
    let P : Hit → Type 0 = λ hit. c.args.section.now.leaves + 40 * hit.number ≤ 2 ^ 48 in
    all_front P _ c.split_at.result.1.now (subst (AllByRecursion P) c.split_at.ensures.by_index.0 (left_all g.V.Visitor.step g.V.Visitor.failed_step c.args.section.now c.args.hits.now c.new-window.result (g.S.RangeSource.seen c.args.source.now) c.args.visitor.now _ _ _ _ c.loop-rest.invariant.goes P c.requires.leaves))

pub returns-in_err-take_run-clause-part : goal.returns-in_err-take_run-clause-part
returns-in_err-take_run-clause-part g c =
    on_err_told c.from_residual.result (g.S.RangeSource.seen c.args.source.now) _
    (leaves_part g.V.Visitor.step g.V.Visitor.failed_step c.args.section.now c.args.hits.now c.new-window.result.at (ap (λ (w : Held). w.at) c.new-window.ensures) c.args.visitor.now (g.S.RangeSource.seen c.args.source.now) _
    (goes_part g.V.Visitor.step g.V.Visitor.failed_step c.args.section.now c.args.hits.now c.new-window.result (g.S.RangeSource.seen c.args.source.now) c.args.visitor.now _ _ _ _ c.loop-rest.invariant.goes c.split_at.result.0.now c.split_at.result.1.now (parts_are _ _ _ _ c.split_at.ensures.front c.split_at.ensures.back) (g.S.RangeSource.seen c.take_run.new.source) _ c.in_err-take_run.ensures.part))

pub returns-in_err-take_run-clause-refused : goal.returns-in_err-take_run-clause-refused
returns-in_err-take_run-clause-refused g c =
    refused_map c.from_residual.result c.in_err-take_run.field-0.0 _ _ c.from_residual.ensures.1
    (λ broken refused. leaves_refused g.V.Visitor.step g.V.Visitor.failed_step c.args.section.now c.args.hits.now c.new-window.result.at (ap (λ (w : Held). w.at) c.new-window.ensures) c.args.visitor.now (g.S.RangeSource.seen c.args.source.now) _ broken
    (goes_refused g.V.Visitor.step g.V.Visitor.failed_step c.args.section.now c.args.hits.now c.new-window.result (g.S.RangeSource.seen c.args.source.now) c.args.visitor.now _ _ _ _ c.loop-rest.invariant.goes c.split_at.result.0.now c.split_at.result.1.now (parts_are _ _ _ _ c.split_at.ensures.front c.split_at.ensures.back) (g.S.RangeSource.seen c.take_run.new.source) _ broken refused))
    c.in_err-take_run.ensures.refused

pub returns-in_err-take_run-clause-rising : goal.returns-in_err-take_run-clause-rising
returns-in_err-take_run-clause-rising g c = let r = c.loop-rest.invariant.goes.rises in
    asks_rising c.args.section.now c.new-window.result _ _ (omega (arith, ap (λ (w : Held). w.at) c.new-window.ensures))
    (rises_then_part c.args.section.now c.new-window.result c.loop-rest.window _ _ _ r c.in_err-take_run.ensures.rises_part)

pub returns-in_err-take_run-clause-front : goal.returns-in_err-take_run-clause-front
returns-in_err-take_run-clause-front g c =
    on_err_told c.from_residual.result (g.S.RangeSource.seen c.args.source.now) _
    (leaves_front c.args.section.now c.args.hits.now (g.S.RangeSource.seen c.args.source.now) (g.S.RangeSource.seen c.take_run.new.source)
    (goes_front g.V.Visitor.step g.V.Visitor.failed_step c.args.section.now c.args.hits.now c.new-window.result (g.S.RangeSource.seen c.args.source.now) c.args.visitor.now _ _ _ _ c.loop-rest.invariant.goes c.split_at.result.0.now c.split_at.result.1.now (parts_are _ _ _ _ c.split_at.ensures.front c.split_at.ensures.back) (g.S.RangeSource.seen c.take_run.new.source) c.take_run.new.visitor (nexts_are _ _ c.split_at.result.1.now _ c.split_at.ensures.front c.split_at.ensures.back c.run_len.ensures.neighbours) (omega (arith, c.split_at.ensures.front_len, c.run_len.ensures.some)) c.in_err-take_run.ensures.front))

pub loop-rest-preserved : goal.loop-rest-preserved
loop-rest-preserved g c = let e = c.in_ok-take_run.ensures in record {
  goes = goes_more g.V.Visitor.step g.V.Visitor.failed_step c.args.section.now c.args.hits.now c.new-window.result (g.S.RangeSource.seen c.args.source.now) c.args.visitor.now _ _ _ _ c.loop-rest.invariant.goes c.split_at.result.0.now c.split_at.result.1.now (parts_are _ _ _ _ c.split_at.ensures.front c.split_at.ensures.back)
      c.take_run.new.window (g.S.RangeSource.seen c.take_run.new.source) c.take_run.new.visitor e.over e.none e.rises e.hands (nexts_are _ _ c.split_at.result.1.now _ c.split_at.ensures.front c.split_at.ensures.back c.run_len.ensures.neighbours) (omega (arith, c.split_at.ensures.front_len, c.run_len.ensures.some)) e.reads;
  later = search rules;
  takes = some_then g.V.Visitor.step _ _ _ c.loop-rest.invariant.takes e.takes;
  tells = search rules;
}

pub returns-clause-done : goal.returns-clause-done
returns-clause-done g c = let none : length c.loop-rest.rest.now ≡ 0 = search rules in
    leaves_done g.V.Visitor.step g.V.Visitor.failed_step c.args.section.now c.args.hits.now c.new-window.result.at (ap (λ (w : Held). w.at) c.new-window.ensures) c.args.visitor.now (g.S.RangeSource.seen c.args.source.now) _ _ (goes_hands g.V.Visitor.step g.V.Visitor.failed_step c.args.section.now c.args.hits.now c.new-window.result (g.S.RangeSource.seen c.args.source.now) c.args.visitor.now _ _ _ _ c.loop-rest.invariant.goes none)

pub returns-clause-rising : goal.returns-clause-rising
returns-clause-rising g c = let r = c.loop-rest.invariant.goes in
    asks_rising c.args.section.now c.new-window.result _ _ (omega (arith, ap (λ (w : Held). w.at) c.new-window.ensures))
    (rises_whole c.args.section.now c.new-window.result c.loop-rest.window _ _ (omega (arith, r.over.shows.within, r.over.end)) r.rises)

pub returns-in_err-take_run-clause-handed : goal.returns-in_err-take_run-clause-handed
returns-in_err-take_run-clause-handed g c = handed_then g.V.Visitor.step g.V.Visitor.failed_step _ _ _ c.loop-rest.invariant.takes c.in_err-take_run.ensures.handed

pub returns-clause-handed : goal.returns-clause-handed
returns-clause-handed g c = handed_some g.V.Visitor.step g.V.Visitor.failed_step _ _ c.loop-rest.invariant.takes
