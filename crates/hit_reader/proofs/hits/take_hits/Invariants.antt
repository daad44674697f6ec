use Rattle.std.proofs.Common.{◌≡◌, ◌≤◌, length}
use Rattle.found_features.specs.Visits.{TakesSome}
use Rattle.hit_reader.proofs.Whole.{Goes}
use Rattle.hit_reader.proofs.hits.take_hits.Given as goal

abbrev pub invariant-loop-rest : goal.invariant-loop-rest
invariant-loop-rest g l = record {
  goes : Goes g.V.Visitor.step g.V.Visitor.failed_step l.section l.hits l.initial.window (g.S.RangeSource.seen l.initial.source) l.initial.visitor l.rest l.window (g.S.RangeSource.seen l.source) l.visitor;
  later : g.V.Visitor.stops l.initial.visitor ≤ g.V.Visitor.stops l.visitor;
  takes : TakesSome g.V.Visitor.step l.initial.visitor l.visitor;
  tells : g.V.Visitor.told l.visitor ≡ g.V.Visitor.told l.initial.visitor;
}

abbrev pub decreases-loop-rest : goal.decreases-loop-rest
decreases-loop-rest g l = length l.rest
