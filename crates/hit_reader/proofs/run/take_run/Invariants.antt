use Rattle.std.proofs.Common.{◌≡◌, ◌≤◌}
use Rattle.found_features.specs.Visits.{TakesSome}
use Rattle.hit_reader.proofs.Running.{Runs}
use Rattle.hit_reader.proofs.run.take_run.Given as goal

abbrev pub invariant-loop-hit : goal.invariant-loop-hit
invariant-loop-hit g l = record {
  runs : Runs g.V.Visitor.step g.V.Visitor.failed_step l.section l.run l.until l.initial.window (g.S.RangeSource.seen l.initial.source) l.initial.visitor l.hit-index l.window (g.S.RangeSource.seen l.source) l.visitor;
  later : g.V.Visitor.stops l.initial.visitor ≤ g.V.Visitor.stops l.visitor;
  takes : TakesSome g.V.Visitor.step l.initial.visitor l.visitor;
  tells : g.V.Visitor.told l.visitor ≡ g.V.Visitor.told l.initial.visitor;
}
