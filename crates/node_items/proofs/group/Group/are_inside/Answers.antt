use Rattle.std.proofs.Common.{◌/◌, length, sym, ap, ◌∙◌, arith, below_more}
use Rattle.order_keys.specs.Boxes.{contains}
use Rattle.node_items.specs.Groups.{bytes_in}
use Rattle.node_items.proofs.Runs.{none_fails, one_fails}
use Rattle.node_items.proofs.group.Group.are_inside.Goals as goal

pub returns-then-not-contains : goal.returns-then-not-contains
returns-then-not-contains c =
    sym (one_fails _ 0 (length (bytes_in c.args.self.now) / 40) c.loop-i.i (omega arith) (omega (arith, c.len-i-end.ensures))
    (ap (λ v. contains c.args.bounds v.bounds) (sym c.item.ensures) ∙ sym c.contains.ensures.value ∙ c.if-not-contains.true))

pub loop-i-preserved : goal.loop-i-preserved
loop-i-preserved c =
    below_more _ _ c.loop-i.invariant
    (ap (λ v. contains c.args.bounds v.bounds) (sym c.item.ensures) ∙ sym c.contains.ensures.value ∙ c.if-not-contains.false)

pub returns : goal.returns
returns c = sym (none_fails _ 0 (length (bytes_in c.args.self.now) / 40) (λ j from till. c.loop-i.invariant j (omega (arith, c.len-i-end.ensures))))
