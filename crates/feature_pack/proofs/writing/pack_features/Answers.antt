use Rattle.std.proofs.Common.{length, Err, refl, ap, sym, subst, ◌∙◌}
use Rattle.std.specs.List.{AllByRecursion}
use Rattle.fgb_outside.specs.Sink.{Appends, AppendsPart}
use Rattle.fgb_file.specs.File.{IsFeature}
use Rattle.packed_file.specs.Packing.{IsTooLarge, packed_header}
use Rattle.fgb_pack.proofs.Stopping.{build_large, same_error}
use Rattle.feature_pack.specs.Packs.{large_feature, large_packing}
use Rattle.feature_pack.specs.Plans.{IsWritable, planned_bytes}
use Rattle.feature_pack.proofs.Frames.{as_many}
use Rattle.feature_pack.proofs.Packing.{fits_again, lacks_nothing, lent_pieces, packs, packs_part, planned}
use Rattle.feature_pack.proofs.Stopping.{no_large_of_sink, no_sink_of_build, no_sink_of_plan, own_of_build, own_of_plan, own_of_sink}
use Rattle.feature_pack.proofs.writing.pack_features.Goals as goal

pub returns-in_err-buffers-clause-too_large : goal.returns-in_err-buffers-clause-too_large
returns-in_err-buffers-clause-too_large g c = λ is.
    large_feature (c.in_err-buffers.ensures.too_large (ap Err (build_large c.from_residual.result c.in_err-buffers.field-0.0 c.from_residual.ensures.1 is)))

pub returns-in_err-buffers-clause-own : goal.returns-in_err-buffers-clause-own
returns-in_err-buffers-clause-own g c = own_of_build c.from_residual.result c.in_err-buffers.field-0.0 c.from_residual.ensures.1

pub returns-in_err-buffers-clause-failed : goal.returns-in_err-buffers-clause-failed
returns-in_err-buffers-clause-failed g c = λ is. absurd (no_sink_of_build c.from_residual.result c.in_err-buffers.field-0.0 c.from_residual.ensures.1 is)

pub plan_packing-requires-clause-sound : goal.plan_packing-requires-clause-sound
plan_packing-requires-clause-sound g c =
    subst (AllByRecursion (IsFeature c.args.header.now)) (sym (lent_pieces c.args.features.now c.in_ok-buffers.buffers.items c.deref.result.now c.in_ok-buffers.ensures.ok c.deref.ensures.value))
    (c.in_ok-buffers.ensures.each c.args.header.now c.requires.fit)

pub returns-in_err-plan-clause-too_large : goal.returns-in_err-plan-clause-too_large
returns-in_err-plan-clause-too_large g c = λ is.
    large_packing (
    subst (λ ps. IsTooLarge c.args.header.now ps c.args.node_size)
    (lent_pieces c.args.features.now c.in_ok-buffers.buffers.items c.deref.result.now c.in_ok-buffers.ensures.ok c.deref.ensures.value)
    (c.in_err-plan.ensures.too_large (ap Err (same_error c.from_residual-in_err-plan.result c.in_err-plan.field-0.0 _ c.from_residual-in_err-plan.ensures.1 is)))
    )

pub returns-in_err-plan-clause-own : goal.returns-in_err-plan-clause-own
returns-in_err-plan-clause-own g c = own_of_plan c.from_residual-in_err-plan.result c.in_err-plan.field-0.0 c.from_residual-in_err-plan.ensures.1 c.in_err-plan.ensures.own

pub returns-in_err-plan-clause-failed : goal.returns-in_err-plan-clause-failed
returns-in_err-plan-clause-failed g c = λ is. absurd (no_sink_of_plan c.from_residual-in_err-plan.result c.in_err-plan.field-0.0 c.from_residual-in_err-plan.ensures.1 c.in_err-plan.ensures.own is)

pub write_plan-requires : goal.write_plan-requires
write_plan-requires g c =
    subst (λ n. IsWritable n c.in_ok-plan.plan) (as_many c.deref.result.now ∙ ap length (c.deref.ensures.value ∙ sym c.deref-2.ensures.value)) c.in_ok-plan.ensures.plans.writable

pub returns-in_err-write_plan-clause-too_large : goal.returns-in_err-write_plan-clause-too_large
returns-in_err-write_plan-clause-too_large g c = λ is.
    absurd (no_large_of_sink c.from_residual-in_err-write_plan.result c.in_err-write_plan.field-0.0 c.from_residual-in_err-write_plan.ensures.1 c.in_err-write_plan.ensures.own is)

pub returns-in_err-write_plan-clause-own : goal.returns-in_err-write_plan-clause-own
returns-in_err-write_plan-clause-own g c = own_of_sink c.from_residual-in_err-write_plan.result c.in_err-write_plan.field-0.0 c.from_residual-in_err-write_plan.ensures.1 c.in_err-write_plan.ensures.own

pub returns-in_err-write_plan-clause-too_large_none : goal.returns-in_err-write_plan-clause-too_large_none
returns-in_err-write_plan-clause-too_large_none g c = λ lacks.
    absurd (lacks_nothing c.args.header.now c.args.features.now c.args.node_size c.in_ok-buffers.ensures.fits
    (planned c.args.header.now c.args.features.now c.args.node_size c.in_ok-buffers.buffers.items c.deref.result.now c.in_ok-plan.plan c.in_ok-buffers.ensures.ok c.deref.ensures.value c.in_ok-plan.ensures.plans).fits lacks)

pub returns-in_err-write_plan-clause-part : goal.returns-in_err-write_plan-clause-part
returns-in_err-write_plan-clause-part g c =
    let header = c.args.header.now in let features = c.args.features.now in let laid = c.in_ok-buffers.buffers.items in let ok = c.in_ok-buffers.ensures.ok in
    packs_part header features c.args.node_size c.in_ok-plan.plan (planned header features c.args.node_size laid c.deref.result.now c.in_ok-plan.plan ok c.deref.ensures.value c.in_ok-plan.ensures.plans)
    (g.W.Sink.shown c.args.out.now) (g.W.Sink.shown c.write_plan.new.out)
    (subst (λ ps. AppendsPart (g.W.Sink.shown c.args.out.now) (g.W.Sink.shown c.write_plan.new.out) (planned_bytes ps c.in_ok-plan.plan))
    (lent_pieces features laid c.deref-2.result.now ok c.deref-2.ensures.value) c.write_plan.ensures.part)

pub returns-clause-packed : goal.returns-clause-packed
returns-clause-packed g c =
    let header = c.args.header.now in let features = c.args.features.now in let laid = c.in_ok-buffers.buffers.items in let ok = c.in_ok-buffers.ensures.ok in
    packs header features c.args.node_size c.in_ok-plan.plan (planned header features c.args.node_size laid c.deref.result.now c.in_ok-plan.plan ok c.deref.ensures.value c.in_ok-plan.ensures.plans)
    (g.W.Sink.shown c.args.out.now) (g.W.Sink.shown c.write_plan.new.out) _ c.count_nodes.result refl c.count_nodes.ensures.nodes
    (c.in_ok-buffers.ensures.shown (packed_header header (length features) c.args.node_size) (fits_again header (length features) c.args.node_size features c.requires.fit))
    (subst (λ ps. Appends (g.W.Sink.shown c.args.out.now) (g.W.Sink.shown c.write_plan.new.out) (planned_bytes ps c.in_ok-plan.plan))
    (lent_pieces features laid c.deref-2.result.now ok c.deref-2.ensures.value) c.in_ok-write_plan.ensures.whole)

pub returns-clause-fits : goal.returns-clause-fits
returns-clause-fits g c = λ lacks.
    lacks_nothing c.args.header.now c.args.features.now c.args.node_size c.in_ok-buffers.ensures.fits
    (planned c.args.header.now c.args.features.now c.args.node_size c.in_ok-buffers.buffers.items c.deref.result.now c.in_ok-plan.plan c.in_ok-buffers.ensures.ok c.deref.ensures.value c.in_ok-plan.ensures.plans).fits lacks

pub returns-clause-too_large_none : goal.returns-clause-too_large_none
returns-clause-too_large_none g c = λ lacks.
    absurd (lacks_nothing c.args.header.now c.args.features.now c.args.node_size c.in_ok-buffers.ensures.fits
    (planned c.args.header.now c.args.features.now c.args.node_size c.in_ok-buffers.buffers.items c.deref.result.now c.in_ok-plan.plan c.in_ok-buffers.ensures.ok c.deref.ensures.value c.in_ok-plan.ensures.plans).fits lacks)

pub returns-clause-part : goal.returns-clause-part
returns-clause-part g c =
    let header = c.args.header.now in let features = c.args.features.now in let laid = c.in_ok-buffers.buffers.items in let ok = c.in_ok-buffers.ensures.ok in
    packs_part header features c.args.node_size c.in_ok-plan.plan (planned header features c.args.node_size laid c.deref.result.now c.in_ok-plan.plan ok c.deref.ensures.value c.in_ok-plan.ensures.plans)
    (g.W.Sink.shown c.args.out.now) (g.W.Sink.shown c.write_plan.new.out)
    (subst (λ ps. AppendsPart (g.W.Sink.shown c.args.out.now) (g.W.Sink.shown c.write_plan.new.out) (planned_bytes ps c.in_ok-plan.plan))
    (lent_pieces features laid c.deref-2.result.now ok c.deref-2.ensures.value) c.write_plan.ensures.part)
