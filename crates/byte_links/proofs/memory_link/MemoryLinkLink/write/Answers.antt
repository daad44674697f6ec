use Rattle.std.proofs.Common.{ap, ◌∙◌, ◌++◌}
use Rattle.byte_links.specs.Memory.{Talk}
use Rattle.byte_links.proofs.Talks.{sends_all}
use Rattle.byte_links.proofs.memory_link.MemoryLinkLink.write.Goals as goal

pub returns-clause-sends : goal.returns-clause-sends
returns-clause-sends c =
    let same = c.self.view_is ∙ c.if-fails.ensures.counts in
    sends_all _ (ap (λ (t : Talk). t.received) same) (c.in_ok-extend_from_slice.ensures.items ∙ ap (λ (t : Talk). t.sent ++ c.args.bytes.now) same)
    (ap (λ (t : Talk). t.faults) same) (ap (λ (t : Talk). t.ends) same)
