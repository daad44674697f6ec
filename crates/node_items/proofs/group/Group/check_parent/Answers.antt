use Rattle.std.proofs.Common.{sym, ap, ◌∙◌}
use Rattle.flat_layout.specs.declared.Rule.TheVariants.{ParentBox}
use Rattle.node_items.specs.Groups.{place_of}
use Rattle.node_items.proofs.Faults.{fault_at, around_fault, no_around_fault}
use Rattle.node_items.proofs.Groups.{around_is}
use Rattle.node_items.proofs.group.Group.check_parent.Goals as goal

pub returns-then-are_inside : goal.returns-then-are_inside
returns-then-are_inside c t k i nodes holds parent number =
    no_around_fault t nodes (place_of c.args.self.now) k i (sym (around_is t c.args.self.now k i nodes c.args.parent holds parent) ∙ sym c.if-are_inside.ensures)

pub returns-else-are_inside : goal.returns-else-are_inside
returns-else-are_inside c t k i nodes holds parent number =
    around_fault t nodes (place_of c.args.self.now) k i _ (sym (around_is t c.args.self.now k i nodes c.args.parent holds parent) ∙ sym c.if-are_inside.ensures)
    (c.broken.ensures ∙ ap (λ n. fault_at (place_of c.args.self.now) n ParentBox) number)
