use Rattle.text_query.proofs.Pages.{part_forgotten, on_err}
use Rattle.text_query.proofs.page.Page.add.Goals as goal

pub returns-clause-err : goal.returns-clause-err
returns-clause-err g c = on_err c.written.result _ (part_forgotten _ _ _ _ _ _ c.in_ok-extend_from_slice.ensures.items c.write.ensures.empty c.write.ensures.part c.write.ensures.later)
