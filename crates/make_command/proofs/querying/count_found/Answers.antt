use Rattle.std.proofs.Common.{Some, ap, length, ◌∙◌}
use Rattle.make_command.proofs.Refusals.{at_refusal, never_refused}
use Rattle.make_command.proofs.querying.count_found.Goals as goal

pub returns-in-Ok : goal.returns-in-Ok
returns-in-Ok c = λ index pieces file.
    let image = c.args.image.now in
    let visited = c.in-Ok.ensures.done image (ap Some c.new-file.ensures) in
    visited.counted ∙ ap length (c.searches_are_scans.ensures.whole image index pieces c.args.boxes.now visited.entries file visited.answers)

pub unreachable-requires : goal.unreachable-requires
unreachable-requires c =
    let image = c.args.image.now in
    never_refused _ _ _ _ image c.args.boxes.now _ _ c.in-Err-Refused.field-0-0 c.requires c.searches_are_scans.ensures.never
    (at_refusal c.query.result c.in-Err-Refused.field-0 c.in-Err-Refused.field-0-0 _ c.in-Err-Refused.is c.in-Err-Refused.field-0-is c.query.ensures.refused image (ap Some c.new-file.ensures))
