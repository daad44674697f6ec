use Rattle.std.proofs.Common.{◌≡◌, length, Err, ap, ◌∙◌, arith}
use Rattle.fgb_pack.proofs.Packing.{accepted_valid, packs, packs_part}
use Rattle.fgb_pack.proofs.Stopping.{same_error}
use Rattle.fgb_pack.proofs.file.pack.Goals as goal

pub returns-in_err-plan-clause-too_large : goal.returns-in_err-plan-clause-too_large
returns-in_err-plan-clause-too_large g c = λ is image told.
    c.in_err-plan.ensures.too_large (ap Err (same_error c.from_residual-in_err-plan.result c.in_err-plan.field-0.0 _ c.from_residual-in_err-plan.ensures.1 is)) image (c.check.ensures.keeps.image ∙ told)

pub returns-in_err-plan-clause-too_large_valid : goal.returns-in_err-plan-clause-too_large_valid
returns-in_err-plan-clause-too_large_valid g c = λ is.
    accepted_valid (g.S.RangeSource.seen c.args.source.now) c.in_ok-check.field-0 c.in-Accepted.features c.in-Accepted.nodes c.in-Accepted.is c.in_ok-check.ensures.judged

pub returns-in_err-write_plan-clause-too_large_none : goal.returns-in_err-write_plan-clause-too_large_none
returns-in_err-write_plan-clause-too_large_none g c = λ image told index pieces file large. absurd ((c.in_ok-plan.ensures.plans image (c.check.ensures.keeps.image ∙ told) index pieces file).fits large)

pub returns-in_err-write_plan-clause-part : goal.returns-in_err-write_plan-clause-part
returns-in_err-write_plan-clause-part g c = λ image told index pieces file.
    packs_part image pieces c.args.node_size c.in_ok-plan.plan (c.in_ok-plan.ensures.plans image (c.check.ensures.keeps.image ∙ told) index pieces file) (g.W.Sink.shown c.args.out.now) (g.W.Sink.shown c.write_plan.new.out) (c.in_err-write_plan.ensures.part image (c.plan_packing.ensures.keeps.image ∙ c.check.ensures.keeps.image ∙ told))

pub returns-in_err-write_plan-clause-broken : goal.returns-in_err-write_plan-clause-broken
returns-in_err-write_plan-clause-broken g c = λ image told invalid.
    absurd (invalid (accepted_valid (g.S.RangeSource.seen c.args.source.now) c.in_ok-check.field-0 c.in-Accepted.features c.in-Accepted.nodes c.in-Accepted.is c.in_ok-check.ensures.judged image told))

pub returns-clause-packed : goal.returns-clause-packed
returns-clause-packed g c = λ image told index pieces file.
    let counted : c.len.result ≡ length c.in_ok-plan.plan.spans.items = omega arith in
    packs image pieces c.args.node_size c.in_ok-plan.plan (c.in_ok-plan.ensures.plans image (c.check.ensures.keeps.image ∙ told) index pieces file) (g.W.Sink.shown c.args.out.now) (g.W.Sink.shown c.write_plan.new.out) c.len.result c.count_nodes.result counted c.count_nodes.ensures.nodes
    (c.in_ok-write_plan.ensures.whole image (c.plan_packing.ensures.keeps.image ∙ c.check.ensures.keeps.image ∙ told))

pub returns-clause-valid : goal.returns-clause-valid
returns-clause-valid g c = accepted_valid (g.S.RangeSource.seen c.args.source.now) c.in_ok-check.field-0 c.in-Accepted.features c.in-Accepted.nodes c.in-Accepted.is c.in_ok-check.ensures.judged

pub returns-clause-fits : goal.returns-clause-fits
returns-clause-fits g c = λ image told index pieces file. (c.in_ok-plan.ensures.plans image (c.check.ensures.keeps.image ∙ told) index pieces file).fits

pub returns-clause-too_large_none : goal.returns-clause-too_large_none
returns-clause-too_large_none g c = λ image told index pieces file large. absurd ((c.in_ok-plan.ensures.plans image (c.check.ensures.keeps.image ∙ told) index pieces file).fits large)

pub returns-clause-part : goal.returns-clause-part
returns-clause-part g c = λ image told index pieces file.
    packs_part image pieces c.args.node_size c.in_ok-plan.plan (c.in_ok-plan.ensures.plans image (c.check.ensures.keeps.image ∙ told) index pieces file) (g.W.Sink.shown c.args.out.now) (g.W.Sink.shown c.write_plan.new.out) (c.in_ok-write_plan.ensures.part image (c.plan_packing.ensures.keeps.image ∙ c.check.ensures.keeps.image ∙ told))

pub returns-clause-broken : goal.returns-clause-broken
returns-clause-broken g c = λ image told invalid.
    absurd (invalid (accepted_valid (g.S.RangeSource.seen c.args.source.now) c.in_ok-check.field-0 c.in-Accepted.features c.in-Accepted.nodes c.in-Accepted.is c.in_ok-check.ensures.judged image told))
