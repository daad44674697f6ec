use Rattle.std.proofs.Common.{◌≡◌, ◌≤◌, ◌-◌, length}
use Rattle.found_features.specs.Visits.{TakesSome}
use Rattle.hit_runs.proofs.Visiting.{Went}
use Rattle.hit_runs.proofs.visit.take_hits.Given as goal

abbrev pub invariant-loop-runs : goal.invariant-loop-runs
invariant-loop-runs g l = record {
  went : Went g.V.Visitor.step g.V.Visitor.failed_step l.section l.fn.hits.items l.initial.runs (g.S.RangeSource.seen l.initial.source) l.initial.visitor l.runs (g.S.RangeSource.seen l.source) l.visitor;
  later : g.V.Visitor.stops l.initial.visitor ≤ g.V.Visitor.stops l.visitor;
  takes : TakesSome g.V.Visitor.step l.initial.visitor l.visitor;
  tells : g.V.Visitor.told l.visitor ≡ g.V.Visitor.told l.initial.visitor;
}

abbrev pub decreases-loop-runs : goal.decreases-loop-runs
decreases-loop-runs g l = length l.runs.hits.items - l.runs.given
