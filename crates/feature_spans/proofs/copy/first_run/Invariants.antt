use Rattle.std.proofs.Common.{◌≡◌, ℕ, ◌≤◌, List, ◌++◌, length}
use Rattle.std.specs.List.{AllByRecursion, flat_map}
use Rattle.feature_spans.specs.Spans.{LiesIn, bytes_at}
use Rattle.feature_spans.proofs.copy.first_run.Given as goal

abbrev pub invariant-loop-next : goal.invariant-loop-next
invariant-loop-next l = record {
  bytes : (image : List ℕ) → bytes_at image l.run ++ flat_map (bytes_at image) l.rest ≡ bytes_at image l.fn.first ++ flat_map (bytes_at image) l.fn.others;
  lies : (size : ℕ) → LiesIn 0 size l.fn.first → AllByRecursion (LiesIn 0 size) l.fn.others → LiesIn 0 size l.run × AllByRecursion (LiesIn 0 size) l.rest;
  fewer : length l.rest ≤ length l.fn.others;
}

abbrev pub decreases-loop-next : goal.decreases-loop-next
decreases-loop-next l = length l.rest
