use Rattle.std.proofs.Common.{refl}
use Rattle.text_query.proofs.Pages.{passed, part_passed, page_forgotten, on_err, on_ok, of_ok}
use Rattle.text_query.proofs.page.Page.pass.Goals as goal

pub returns-in_err-written-clause-err : goal.returns-in_err-written-clause-err
returns-in_err-written-clause-err g c = on_err c.from_residual.result _ (page_forgotten _ _ _ _ _ c.write.ensures.empty c.write.ensures.part c.write.ensures.later)

pub returns-clause-ok : goal.returns-clause-ok
returns-clause-ok g c = on_ok c.written-2.result _ (λ ok. passed _ (g.W.Sink.shown c.write.new.out) _ _ _ _ c.write.ensures.empty (of_ok c.write.result _ c.write.ensures.whole (c.in_ok-written.ensures.ok refl)) c.write.ensures.later c.write-2.ensures.later
    (of_ok c.write-2.result _ c.write-2.ensures.written (c.written-2.ensures.ok ok)))

pub returns-clause-err : goal.returns-clause-err
returns-clause-err g c = on_err c.written-2.result _ (part_passed _ (g.W.Sink.shown c.write.new.out) _ _ _ _ c.write.ensures.empty (of_ok c.write.result _ c.write.ensures.whole (c.in_ok-written.ensures.ok refl)) c.write.ensures.later c.write-2.ensures.later c.write-2.ensures.part)
