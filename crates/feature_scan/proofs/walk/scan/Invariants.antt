use Rattle.std.proofs.Common.{◌≡◌, ◌≤◌, ◌-◌}
use Rattle.fgb_header.specs.Views.{header_shown}
use Rattle.fgb_reader.specs.Reading.{end_of, next_of}
use Rattle.found_features.specs.Visits.{TakesSome}
use Rattle.feature_scan.specs.Walks.{Goes}
use Rattle.feature_scan.proofs.walk.scan.Given as goal

abbrev pub invariant-loop-pieces : goal.invariant-loop-pieces
invariant-loop-pieces g l = record {
  walk : Goes g.V.Visitor.step (header_shown l.header) l.boxes l.first l.end l.initial.pieces l.pieces l.tally l.count (g.S.RangeSource.seen l.initial.source) (g.S.RangeSource.seen l.source) l.initial.visitor l.visitor;
  later : g.V.Visitor.stops l.initial.visitor ≤ g.V.Visitor.stops l.visitor;
  handed : TakesSome g.V.Visitor.step l.initial.visitor l.visitor;
  tells : g.V.Visitor.told l.visitor ≡ g.V.Visitor.told l.initial.visitor;
}

abbrev pub decreases-loop-pieces : goal.decreases-loop-pieces
decreases-loop-pieces g l = end_of l.pieces - next_of l.pieces
