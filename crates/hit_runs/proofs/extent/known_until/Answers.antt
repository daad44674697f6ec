use Rattle.std.proofs.Common.{◌+◌, ◌*◌, ◌≤◌, ◌^◌, refl, arith}
use Rattle.std.proofs.lemmas.List.{drop_more}
use Rattle.hit_runs.proofs.Ending.{all_at, goes_on, known_in_run}
use Rattle.hit_runs.proofs.extent.known_until.Goals as goal

pub loop-i-init : goal.loop-i-init
loop-i-init c = record { within = omega arith; leaf = c.requires.leaf; known = λ image laid. (laid, refl) }

pub loop-i-preserved : goal.loop-i-preserved
loop-i-preserved c = record {
  within = omega (arith, c.loop-i-test.true);
  leaf = all_at (λ h. c.args.section.now.leaves + 40 * h.number ≤ 2 ^ 48) c.args.later.now c.loop-i.i _ c.loop-i-test.true c.requires.leaves;
  known = λ image. goes_on image c.args.section.now.first c.args.gap c.args.hit c.loop-i.last _ c.args.later.now c.loop-i.i (drop_more c.args.later.now c.loop-i.i _ c.loop-i-test.true)
      (c.leads_on.ensures c.if-leads_on.true) (c.loop-i.invariant.known image);
}

pub returns-clause-known : goal.returns-clause-known
returns-clause-known c = λ image laid.
    known_in_run image c.args.section.now.first c.args.gap c.args.hit c.loop-i.last c.args.later.now c.loop-i.i c.known_end.result (c.loop-i.invariant.known image) (c.known_end.ensures.known image) laid
