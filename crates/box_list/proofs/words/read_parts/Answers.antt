use Rattle.std.proofs.Common.{rules, ◌≡◌, ◌∷◌, ◌++◌, [], List, Some, None, Err, ap, sym, subst, ◌∙◌, append_assoc}
use Rattle.std.specs.List.{AllZip}
use Rattle.order_keys.specs.Words.{SpellsBox}
use Rattle.box_list.specs.Lists.{FirstFault, box_parts, parts_behind}
use Rattle.box_list.proofs.Faults.{exit_is, fault_behind, faulty, nine, one_more, was_added, was_full}
use Rattle.box_list.proofs.words.read_parts.Goals as goal

pub returns-in_err-bounds-clause-fault : goal.returns-in_err-bounds-clause-fault
returns-in_err-bounds-clause-fault c =
    let e = c.in_err-bounds.field-0.0 in
    let gives : c.from_residual.result ≡ Err e = search rules in
    exit_is (FirstFault (box_parts c.args.text.now)) c.from_residual.result e gives
    (fault_behind c.args.text.now [] (parts_behind c.cut.result.1) c.cut.result.0.now [] e c.cut.ensures tt
    (faulty c.cut.result.0.now (Err e) c.in_err-bounds.ensures.order c.in_err-bounds.ensures.each_fault))

pub loop-rest-init : goal.loop-rest-init
loop-rest-init c =
    let part = c.cut.result.0.now in
    (part ∷ [], (subst (AllZip SpellsBox (part ∷ [])) (sym c.one-boxes.ensures) (c.in_ok-bounds.ensures.ok, tt), c.cut.ensures))

pub returns-in_err-next-clause-fault : goal.returns-in_err-next-clause-fault
returns-in_err-next-clause-fault c =
    let e = c.in_err-next.field-0.0 in
    let gives : c.from_residual-in_err-next.result ≡ Err e = search rules in
    let inv = c.loop-rest.invariant in
    let some : c.loop-rest.rest ≡ Some c.in-Some.parts = search rules in
    let parts = inv.1.1 ∙ ap (λ o. inv.0 ++ parts_behind o) some ∙ ap (λ l. inv.0 ++ l) c.cut-in-Some.ensures in
    exit_is (FirstFault (box_parts c.args.text.now)) c.from_residual-in_err-next.result e gives
    (fault_behind c.args.text.now inv.0 (parts_behind c.cut-in-Some.result.1) c.cut-in-Some.result.0.now c.loop-rest.boxes e parts inv.1.0
    (faulty c.cut-in-Some.result.0.now (Err e) c.in_err-next.ensures.order c.in_err-next.ensures.each_fault))

pub returns-in_err-boxes-clause-fault : goal.returns-in_err-boxes-clause-fault
returns-in_err-boxes-clause-fault c =
    let inv = c.loop-rest.invariant in
    let some : c.loop-rest.rest ≡ Some c.in-Some.parts = search rules in
    let parts = inv.1.1 ∙ ap (λ o. inv.0 ++ parts_behind o) some ∙ ap (λ l. inv.0 ++ l) c.cut-in-Some.ensures in
    let full = was_full c.with.result c.loop-rest.boxes c.in_ok-next.next c.with.ensures c.in_err-boxes.ensures.ok_part in
    absurd (nine c.args.text.now inv.0 (parts_behind c.cut-in-Some.result.1) c.cut-in-Some.result.0.now c.loop-rest.boxes parts inv.1.0 full c.requires.few)

pub loop-rest-preserved : goal.loop-rest-preserved
loop-rest-preserved c =
    let inv = c.loop-rest.invariant in
    let part = c.cut-in-Some.result.0.now in
    let some : c.loop-rest.rest ≡ Some c.in-Some.parts = search rules in
    let parts = inv.1.1 ∙ ap (λ o. inv.0 ++ parts_behind o) some ∙ ap (λ l. inv.0 ++ l) c.cut-in-Some.ensures in
    let added = was_added c.with.result c.loop-rest.boxes c.in_ok-boxes.boxes c.in_ok-next.next c.with.ensures c.in_ok-boxes.ensures.ok_part in (
      inv.0 ++ part ∷ [],
      (
        subst (AllZip SpellsBox (inv.0 ++ part ∷ [])) (sym added) (one_more inv.0 c.loop-rest.boxes part c.in_ok-next.next inv.1.0 c.in_ok-next.ensures.ok),
        parts ∙ sym (append_assoc inv.0 (part ∷ []) (parts_behind c.cut-in-Some.result.1)),
      ),
    )
