use Rattle.std.proofs.Common.{Err, ap, subst}
use Rattle.fgb_outside.specs.Sink.{AppendsPart}
use Rattle.fgb_pack.proofs.Stopping.{same_error}
use Rattle.fgb_lay.proofs.Stopping.{plan_exit}
use Rattle.fgb_lay.proofs.laying.lay_plain.Goals as goal

pub returns-in_err-plan-clause-too_large : goal.returns-in_err-plan-clause-too_large
returns-in_err-plan-clause-too_large g c = λ is.
    c.in_err-plan.ensures.too_large (ap Err (same_error c.from_residual.result c.in_err-plan.field-0.0 _ c.from_residual.ensures.1 is))

pub returns-in_err-plan-clause-own : goal.returns-in_err-plan-clause-own
returns-in_err-plan-clause-own g c = plan_exit c.from_residual.result c.in_err-plan.field-0.0 c.from_residual.ensures.1 c.in_err-plan.ensures.own

pub returns-in_err-write_file-clause-large_none : goal.returns-in_err-write_file-clause-large_none
returns-in_err-write_file-clause-large_none g c = λ large. absurd (c.in_ok-plan.ensures.planned.fits large)

pub returns-in_err-write_file-clause-part : goal.returns-in_err-write_file-clause-part
returns-in_err-write_file-clause-part g c =
    subst (AppendsPart (g.W.Sink.shown c.args.out.now) (g.W.Sink.shown c.write_file.new.out)) c.in_ok-plan.ensures.planned.whole c.in_err-write_file.ensures.part
