use Rattle.std.proofs.Common.{sym, subst, ◌∙◌, arith}
use Rattle.std.specs.List.{AllByRecursion}
use Rattle.std.proofs.lemmas.List.{nil_from_length}
use Rattle.fgb_outside.proofs.Shown.{keeps_trans, part_nothing}
use Rattle.feature_spans.specs.Spans.{LiesIn}
use Rattle.feature_spans.proofs.Copying.{copies_part, copies_room, copies_more, copies_all}
use Rattle.feature_spans.proofs.copy.copy_spans.Goals as goal

pub returns-in_err-make_room-clause-part : goal.returns-in_err-make_room-clause-part
returns-in_err-make_room-clause-part g c = let shown = g.W.Sink.shown in λ image told.
    copies_part image (shown c.args.out.now) _ (shown c.loop-first.out) _ _ (c.loop-first.invariant.copies image told) (shown c.make_room.new.out) c.make_room.ensures.part

pub fetch-requires-clause-lies : goal.fetch-requires-clause-lies
fetch-requires-clause-lies g c =
    let lies = subst (AllByRecursion (LiesIn 0 (g.S.RangeSource.seen c.loop-first.source).size)) c.in-Some.ensures.cases.0 c.loop-first.invariant.lies in
    (c.first_run.ensures.lies _ lies.0 lies.1).0

pub returns-in_err-fetch-clause-part : goal.returns-in_err-fetch-clause-part
returns-in_err-fetch-clause-part g c = let shown = g.W.Sink.shown in λ image told.
    let room = copies_room image (shown c.args.out.now) _ (shown c.loop-first.out) _ _ (c.loop-first.invariant.copies image told) (shown c.make_room.new.out) _ c.in_ok-make_room.ensures.moves in
    copies_part image (shown c.args.out.now) _ (shown c.make_room.new.out) _ _ room (shown c.make_room.new.out) (part_nothing (shown c.make_room.new.out) _)

pub loop-first-preserved : goal.loop-first-preserved
loop-first-preserved g c = let shown = g.W.Sink.shown in let so_far = c.loop-first.invariant in let splits = c.in-Some.ensures.cases.0 in let keeps = c.fetch.ensures.keeps in record {
  copies = λ image told.
      let room = copies_room image (shown c.args.out.now) _ (shown c.loop-first.out) _ _ (so_far.copies image told) (shown c.make_room.new.out) _ c.in_ok-make_room.ensures.moves in
      copies_more image (shown c.args.out.now) _ (shown c.make_room.new.out) _ _ room c.fetch.new.page.items c.in-Some.first.now c.first_run.result.0 c.in-Some.others.now c.first_run.result.1.now
      (c.in_ok-fetch.ensures.bytes image (so_far.keeps.image ∙ told)) splits (c.first_run.ensures.bytes image);
  lies =
      let lies = subst (AllByRecursion (LiesIn 0 (g.S.RangeSource.seen c.loop-first.source).size)) splits so_far.lies in
      subst (λ n. AllByRecursion (LiesIn 0 n) c.first_run.result.1.now) (sym keeps.size) (c.first_run.ensures.lies _ lies.0 lies.1).1;
  keeps = keeps_trans so_far.keeps keeps;
  later = omega (arith, so_far.later, c.make_room.ensures.later);
}

pub returns-in_err-write_page-clause-part : goal.returns-in_err-write_page-clause-part
returns-in_err-write_page-clause-part g c = let shown = g.W.Sink.shown in λ image told.
    copies_part image (shown c.args.out.now) _ (shown c.loop-first.out) _ _ (c.loop-first.invariant.copies image told) (shown c.write_page.new.out) c.write_page.ensures.part

pub returns-clause-whole : goal.returns-clause-whole
returns-clause-whole g c = let shown = g.W.Sink.shown in λ image told.
    copies_all image (shown c.args.out.now) _ (shown c.loop-first.out) _ _ (c.loop-first.invariant.copies image told) (shown c.write_page.new.out) (nil_from_length c.loop-first.rest.now c.in_default.ensures.cases) c.in_ok-write_page.ensures.moves

pub returns-clause-part : goal.returns-clause-part
returns-clause-part g c = let shown = g.W.Sink.shown in λ image told.
    copies_part image (shown c.args.out.now) _ (shown c.loop-first.out) _ _ (c.loop-first.invariant.copies image told) (shown c.write_page.new.out) c.write_page.ensures.part
