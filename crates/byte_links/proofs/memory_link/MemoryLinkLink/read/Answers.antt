use Rattle.std.proofs.Common.{arith, ap, sym, ◌∙◌, ◌++◌, take}
use Rattle.byte_links.specs.Memory.{Talk}
use Rattle.byte_links.proofs.Fronts.{placed}
use Rattle.byte_links.proofs.Talks.{receives_some}
use Rattle.byte_links.proofs.memory_link.MemoryLinkLink.read.Goals as goal

pub returns-clause-receives : goal.returns-clause-receives
returns-clause-receives c =
    let same = c.self.view_is ∙ c.if-fails.ensures.counts in
    let parts = placed c.self.inside.input.now c.place-count.new.into c.self.inside.at c.place-count.result c.place-count.ensures.bytes in
    receives_some _ _ (omega arith) (omega arith) (parts.1 ∙ ap (λ (t : Talk). t.received ++ take c.place-count.result c.place-count.new.into) same) (ap (λ (t : Talk). t.sent) same)
    (ap (λ (t : Talk). t.faults) same) (ap (λ (t : Talk). t.ends) same)

pub returns-clause-front : goal.returns-clause-front
returns-clause-front c =
    let same = c.self.view_is ∙ c.if-fails.ensures.counts in
    let parts = placed c.self.inside.input.now c.place-count.new.into c.self.inside.at c.place-count.result c.place-count.ensures.bytes in
    sym (ap (λ (t : Talk). t.left) same) ∙ parts.0
