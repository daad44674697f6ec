use Rattle.std.proofs.Common.{◌≡◌, ◌<◌, ◌≤◌, ◌∷◌, ◌++◌, [], length, arith, ap, ◌∙◌}
use Rattle.std.proofs.lemmas.List.{length-set, take_more_set}
use Rattle.box_list.proofs.Lists.{front_length, grown}
use Rattle.box_list.proofs.boxes.Boxes.with.Goals as goal

pub returns-then-self-eq-MOST : goal.returns-then-self-eq-MOST
returns-then-self-eq-MOST c =
    let len = front_length c.self.inside.boxes c.self.inside.count (omega (arith, c.self.invariant.0, c.self.invariant.1)) in
    let eight : c.self.inside.count ≡ 8 = grind (arith, c.if-self-eq-MOST.true) in
    omega (arith, ap length c.self.view_is, len, eight)

pub invariant_of-result : goal.invariant_of-result
invariant_of-result c =
    let room : c.self.inside.count < 8 = grind (arith, c.if-self-eq-MOST.false, c.self.invariant.1) in (
      omega (arith, c.self.invariant.0, length-set c.self.inside.boxes c.self.inside.count c.args.next),
      omega (arith, room),
      grown c.self.inside.boxes c.self.inside.count c.args.next c.self.invariant.2 c.self.invariant.0 room c.requires,
    )

pub returns : goal.returns
returns c =
    let room : c.self.inside.count < 8 = grind (arith, c.if-self-eq-MOST.false, c.self.invariant.1) in
    let len = front_length c.self.inside.boxes c.self.inside.count (omega (arith, c.self.invariant.0, c.self.invariant.1)) in (
      omega (arith, ap length c.self.view_is, len, room),
      take_more_set c.self.inside.boxes c.self.inside.count c.args.next (omega (arith, c.self.invariant.0, room)) ∙ ap (λ l. l ++ c.args.next ∷ []) c.self.view_is,
    )
