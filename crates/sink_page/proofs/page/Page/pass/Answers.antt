use Rattle.sink_page.proofs.Pages.{passed, part_passed, page_forgotten, on_err, on_ok_map}
use Rattle.sink_page.proofs.page.Page.pass.Goals as goal

pub returns-in_err-write-clause-err : goal.returns-in_err-write-clause-err
returns-in_err-write-clause-err g c = on_err c.from_residual.result _ (page_forgotten _ _ _ _ _ c.write.ensures.empty c.write.ensures.part c.write.ensures.later)

pub returns-clause-ok : goal.returns-clause-ok
returns-clause-ok g c =
    on_ok_map c.write-2.result _ _ (λ appends. passed _ (g.W.Sink.shown c.write.new.out) _ _ _ _ c.write.ensures.empty c.in_ok-write.ensures.whole c.write.ensures.later c.write-2.ensures.later appends)
    c.write-2.ensures.written

pub returns-clause-err : goal.returns-clause-err
returns-clause-err g c =
    on_err c.write-2.result _ (part_passed _ (g.W.Sink.shown c.write.new.out) _ _ _ _ c.write.ensures.empty c.in_ok-write.ensures.whole c.write.ensures.later c.write-2.ensures.later c.write-2.ensures.part)
