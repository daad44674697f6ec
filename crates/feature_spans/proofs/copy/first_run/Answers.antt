use Rattle.std.proofs.Common.{length, ◌++◌, ap, sym, subst, ◌∙◌, arith}
use Rattle.std.specs.List.{AllByRecursion, flat_map}
use Rattle.feature_spans.specs.Spans.{LiesIn, bytes_at}
use Rattle.feature_spans.proofs.Copying.{joined_lies, joined_more}
use Rattle.feature_spans.proofs.copy.first_run.Goals as goal

pub loop-next-preserved : goal.loop-next-preserved
loop-next-preserved c = let run = c.loop-next.run in let so_far = c.loop-next.invariant in let splits = c.in-Some.ensures.cases.0 in
    let joined = c.joined.ensures c.in-Some-joined.longer c.in-Some-joined.is in record {
      bytes = λ image. joined_more run c.in-Some.next.now c.in-Some-joined.longer joined image _ (flat_map (bytes_at image) c.in-Some.later.now)
          (ap (λ spans. bytes_at image run ++ flat_map (bytes_at image) spans) (sym splits) ∙ so_far.bytes image);
      lies = λ size first others.
          let inside = so_far.lies size first others in
          let rest = subst (AllByRecursion (LiesIn 0 size)) splits inside.1 in
          (joined_lies run c.in-Some.next.now c.in-Some-joined.longer joined size inside.0 rest.0, rest.1);
      fewer = omega (arith, ap length splits, so_far.fewer);
    }
