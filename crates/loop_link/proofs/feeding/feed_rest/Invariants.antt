use Rattle.loop_link.proofs.FedSoFar.{FeedsOn}
use Rattle.loop_link.proofs.feeding.feed_rest.Given as goal

abbrev pub invariant-feeding : goal.invariant-feeding
invariant-feeding l = FeedsOn l.image l.fn.core l.core l.fn.bytes l.rest l.fn.coming.items l.coming.items
