use Rattle.std.proofs.Common.{◌≤◌, length}
use Rattle.std.specs.List.{AllByRecursion}
use Rattle.fgb_outside.specs.Source.{IfTold, Keeps}
use Rattle.feature_spans.specs.Spans.{LiesIn}
use Rattle.feature_spans.specs.Copies.{Copies}
use Rattle.feature_spans.proofs.copy.copy_spans.Given as goal

abbrev pub invariant-loop-first : goal.invariant-loop-first
invariant-loop-first g l = record {
  copies : IfTold (g.S.RangeSource.seen l.fn.source) (λ image. Copies image (g.W.Sink.shown l.fn.out) (g.W.Sink.shown l.out) l.page.items l.fn.spans l.rest);
  lies : AllByRecursion (LiesIn 0 (g.S.RangeSource.seen l.source).size) l.rest;
  keeps : Keeps (g.S.RangeSource.seen l.fn.source) (g.S.RangeSource.seen l.source);
  later : (g.W.Sink.shown l.fn.out).faults ≤ (g.W.Sink.shown l.out).faults;
}

abbrev pub decreases-loop-first : goal.decreases-loop-first
decreases-loop-first g l = length l.rest
