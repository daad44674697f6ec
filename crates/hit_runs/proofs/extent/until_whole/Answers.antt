use Rattle.std.proofs.Common.{sym, ◌∙◌}
use Rattle.hit_runs.proofs.Ending.{joined_known}
use Rattle.hit_runs.proofs.extent.until_whole.Goals as goal

pub returns-clause-known : goal.returns-clause-known
returns-clause-known c = λ image hit ends laid.
    joined_known image c.args.section.now.first c.args.gap c.args.end c.until_part.result hit c.in-Some.next.now c.args.later.now c.in-Some.rest.now c.in-Some.ensures.cases.0
    c.requires.order ends (sym c.is_joined.ensures ∙ c.if-not-is_joined.false) (c.until_part.ensures.known image) laid
