use Rattle.std.proofs.Common.{ap, ◌∙◌}
use Rattle.http1.specs.Fields.{known_fields}
use Rattle.request_head.specs.Requests.{RequestParts}
use Rattle.request_head.proofs.Known.{close_told}
use Rattle.request_head.proofs.requests.Request.asks_to_close.Goals as goal

pub returns-else-self-eq0 : goal.returns-else-self-eq0
returns-else-self-eq0 c =
    close_told c.args.self.now c.self.inside.known (c.self.invariant.2 ∙ ap (λ (r : RequestParts). known_fields r.fields) c.self.view_is)
    (λ e. c.if-self-eq0.false (ap (λ (r : RequestParts). r.minor) c.self.view_is ∙ e))
