use Rattle.std.proofs.Common.{ap, ◌∙◌}
use Rattle.text_query.specs.Steps.{told_of}
use Rattle.text_query.proofs.Pages.{part_nothing, on_err}
use Rattle.text_query.proofs.writer.Writer.put.Goals as goal

pub returns-in_err-lay_line-in-Lines-clause-err : goal.returns-in_err-lay_line-in-Lines-clause-err
returns-in_err-lay_line-in-Lines-clause-err g c = on_err _ _ (part_nothing _ _ _)

pub geometry_of-geometry-requires : goal.geometry_of-geometry-requires
geometry_of-geometry-requires g c = λ h is. c.requires.sound h (ap (λ o. told_of o c.args.self.now.header) c.in-Wkb.is ∙ is)

pub returns-in_err-lay_digits-in-Wkb-clause-err : goal.returns-in_err-lay_digits-in-Wkb-clause-err
returns-in_err-lay_digits-in-Wkb-clause-err g c = on_err _ _ (part_nothing _ _ _)
