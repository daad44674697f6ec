use Rattle.std.proofs.Common.{◌+◌, ◌∷◌, [], refl, ap, subst, ◌∙◌, arith}
use Rattle.std.specs.List.{range_with_len}
use Rattle.section_window.specs.Window.{Held}
use Rattle.found_features.specs.Visits.{TakesPart}
use Rattle.found_features.proofs.Taking.{part_front, some_one, handed_same}
use Rattle.hit_reader.specs.Handing.{entry_read}
use Rattle.read_stop.proofs.Stopping.{on_err}
use Rattle.hit_reader.specs.Met.{entry_at}
use Rattle.hit_reader.specs.Rising.{Covers}
use Rattle.hit_reader.proofs.Refusing.{refused_map, on_err_told}
use Rattle.hit_reader.proofs.Rising.{over_passed, covers_passed, rises_whole, covers_whole}
use Rattle.hit_reader.proofs.Leaves.{buffer_is, read_there, breaks_read, hands_one}
use Rattle.hit_reader.proofs.leaf.take_hit.Goals as goal

pub returns-in_err-len-clause-part : goal.returns-in_err-len-clause-part
returns-in_err-len-clause-part g c = on_err_told c.from_residual.result (g.S.RangeSource.seen c.args.source.now) _
    (λ image told t k within is. part_front g.V.Visitor.step g.V.Visitor.failed_step c.args.visitor.now c.args.visitor.now [] (entry_at image t k ∷ []) refl)

pub returns-in_err-hand_over-clause-part : goal.returns-in_err-hand_over-clause-part
returns-in_err-hand_over-clause-part g c = let r = c.in_ok-len.ensures in
    on_err_told c.from_residual-in_err-hand_over.result (g.S.RangeSource.seen c.args.source.now) _
    (λ image told t k within is. let framed = r.framed image told within.end in
    read_there image t c.args.section.now c.args.hit k within is _
    (buffer_is c.reach.new.window (g.S.RangeSource.seen c.args.source.now) (g.S.RangeSource.seen c.reach.new.source) _ _ c.in_ok-len.len r.there c.bytes.ensures.value r.lies.0 r.lies.2 r.rises.reads.keeps.image r.over.shows image told framed.1)
    (λ h leaf b. TakesPart g.V.Visitor.step g.V.Visitor.failed_step c.args.visitor.now (entry_read h leaf b ∷ []) c.hand_over.new.visitor) c.in_err-hand_over.ensures.part)

pub returns-in_err-hand_over-clause-refused : goal.returns-in_err-hand_over-clause-refused
returns-in_err-hand_over-clause-refused g c = let r = c.in_ok-len.ensures in
    refused_map c.from_residual-in_err-hand_over.result c.in_err-hand_over.field-0.0 _ _ c.from_residual-in_err-hand_over.ensures.1
    (λ broken refuses image told t k within is behind. let framed = r.framed image told within.end in
    breaks_read image t c.args.section.now c.args.hit k within is _
    (buffer_is c.reach.new.window (g.S.RangeSource.seen c.args.source.now) (g.S.RangeSource.seen c.reach.new.source) _ _ c.in_ok-len.len r.there c.bytes.ensures.value r.lies.0 r.lies.2 r.rises.reads.keeps.image r.over.shows image told framed.1)
    broken framed.0 _ (ap (λ n. n + 4) (c.at.ensures.value ∙ r.there)) refuses)
    c.in_err-hand_over.ensures.refused

pub returns-in_err-hand_over-clause-rises_part : goal.returns-in_err-hand_over-clause-rises_part
returns-in_err-hand_over-clause-rises_part g c = let r = c.in_ok-len.ensures in
    on_err _ _ (rises_whole c.args.section.now c.args.window.now c.reach.new.window _ _ (omega (arith, r.over.end, r.over.shows.within)) r.rises)

pub returns-in_err-hand_over-clause-front : goal.returns-in_err-hand_over-clause-front
returns-in_err-hand_over-clause-front g c = let r = c.in_ok-len.ensures in
    on_err_told c.from_residual-in_err-hand_over.result (g.S.RangeSource.seen c.args.source.now) _
    (λ image told whole keeps near till until le. covers_whole c.args.section.now c.args.window.now c.reach.new.window _ _ _ till r.there (omega (arith, r.near near, until, le, r.there, (r.framed image told whole).1)) (r.covers keeps))

pub returns-clause-over : goal.returns-clause-over
returns-clause-over g c = let r = c.in_ok-len.ensures in over_passed c.args.section.now c.reach.new.window c.pass.new.self c.in_ok-len.len _ c.pass.ensures r.there r.lies.2 _ r.over

pub returns-clause-hands : goal.returns-clause-hands
returns-clause-hands g c = λ image told t k within is. let r = c.in_ok-len.ensures in
    let framed = r.framed image told within.end in
    hands_one image t c.args.section.now c.args.hit k within is _
    (buffer_is c.reach.new.window (g.S.RangeSource.seen c.args.source.now) (g.S.RangeSource.seen c.reach.new.source) _ _ c.in_ok-len.len r.there c.bytes.ensures.value r.lies.0 r.lies.2 r.rises.reads.keeps.image r.over.shows image told framed.1)
    g.V.Visitor.step c.args.visitor.now c.hand_over.new.visitor c.pass.new.self.at framed.0 (omega (arith, ap (λ (w : Held). w.at) c.pass.ensures, r.there, framed.1)) c.in_ok-hand_over.ensures.alike c.in_ok-hand_over.ensures.stepped

pub returns-clause-covers : goal.returns-clause-covers
returns-clause-covers g c = λ image told whole keeps. let r = c.in_ok-len.ensures in
    subst (λ n. Covers c.args.section.now c.args.window.now c.pass.new.self (g.S.RangeSource.seen c.args.source.now) (g.S.RangeSource.seen c.reach.new.source) (range_with_len (c.args.section.now.first + c.args.hit.item.offset) n)) (r.framed image told whole).1
    (covers_passed c.args.section.now c.reach.new.window c.pass.new.self c.in_ok-len.len _ c.pass.ensures r.there r.lies.2 c.args.window.now _ _ (r.covers keeps))

pub returns-in_err-len-clause-handed : goal.returns-in_err-len-clause-handed
returns-in_err-len-clause-handed g c = on_err c.from_residual.result _ (handed_same g.V.Visitor.step g.V.Visitor.failed_step _ _ refl)

pub returns-in_err-hand_over-clause-handed : goal.returns-in_err-hand_over-clause-handed
returns-in_err-hand_over-clause-handed g c = on_err c.from_residual-in_err-hand_over.result _ (_, c.in_err-hand_over.ensures.part)

pub returns-clause-takes : goal.returns-clause-takes
returns-clause-takes g c = some_one g.V.Visitor.step _ _ _ c.in_ok-hand_over.ensures.stepped
