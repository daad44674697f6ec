use Rattle.std.proofs.Common.{◌∷◌, [], refl, ap, subst, ◌∙◌}
use Rattle.order_keys.specs.declared.bounds.Bounds.{Bounds}
use Rattle.fgb_schema.specs.Features.{own_box}
use Rattle.fgb_header.specs.Views.{header_shown}
use Rattle.read_stop.proofs.Stopping.{on_err}
use Rattle.found_features.proofs.Taking.{part_front, part_failed}
use Rattle.hit_reader.specs.Handing.{entry_read}
use Rattle.hit_reader.proofs.feature.hand_over.Goals as goal

pub returns-in_err-feature-clause-part : goal.returns-in_err-feature-clause-part
returns-in_err-feature-clause-part g c = on_err _ _ (part_front g.V.Visitor.step g.V.Visitor.failed_step c.args.visitor.now c.args.visitor.now [] (entry_read (header_shown c.args.section.now.header.now) c.args.hit c.args.buffer.now ∷ []) refl)

pub returns-then-not-same-clause-part : goal.returns-then-not-same-clause-part
returns-then-not-same-clause-part g c = part_front g.V.Visitor.step g.V.Visitor.failed_step c.args.visitor.now c.args.visitor.now [] (entry_read (header_shown c.args.section.now.header.now) c.args.hit c.args.buffer.now ∷ []) refl

pub returns-in_err-take-clause-part : goal.returns-in_err-take-clause-part
returns-in_err-take-clause-part g c =
    let own = c.bounds-bounds.ensures ∙ ap own_box c.in_ok-feature.ensures.0.record_of in
    on_err c.from_residual-in_err-take.result _ (part_failed g.V.Visitor.step g.V.Visitor.failed_step c.args.visitor.now c.args.visitor.now c.take.new.self [] (entry_read (header_shown c.args.section.now.header.now) c.args.hit c.args.buffer.now) [] refl
    (subst (λ (b : Bounds). g.V.Visitor.failed_step c.args.visitor.now (record { number = c.args.hit.number; offset = c.args.hit.item.offset; buffer = c.args.buffer.now; own = b }) c.take.new.self) own c.in_err-take.ensures.failed))
