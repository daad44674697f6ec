use Rattle.std.proofs.Common.{◌∙◌, ◌++◌, ap}
use Rattle.sink_page.proofs.Pages.{part_forgotten, on_err}
use Rattle.sink_page.proofs.page.Page.add.Goals as goal

pub returns-clause-err : goal.returns-clause-err
returns-clause-err g c =
    let full = c.in_ok-extend_from_slice.ensures.items ∙ ap (λ page. page ++ c.args.piece.now) c.self.view_is in
    on_err c.write.result _ (part_forgotten _ _ _ _ _ _ full c.write.ensures.empty c.write.ensures.part c.write.ensures.later)
