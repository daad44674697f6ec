use Rattle.std.proofs.Common.{sym, ap, ◌∙◌}
use Rattle.flat_layout.specs.declared.Rule.TheVariants.{NodeBox, ChildOffset}
use Rattle.level_bounds.specs.Shapes.{shape_of}
use Rattle.node_items.specs.Groups.{place_of}
use Rattle.node_items.proofs.Faults.{fault_at, box_fault, offset_fault, no_fault}
use Rattle.node_items.proofs.group.Group.check_node.Goals as goal

pub returns-then-not-is_box : goal.returns-then-not-is_box
returns-then-not-is_box c k i nodes is number item =
    box_fault (shape_of c.args.levels.now) nodes (place_of c.args.self.now) k i c.item-item.result _ (c.item-item.ensures ∙ item) (sym c.if-not-is_box.ensures.value)
    (c.broken.ensures ∙ ap (λ n. fault_at (place_of c.args.self.now) n NodeBox) number)

pub returns-then-not-names_child : goal.returns-then-not-names_child
returns-then-not-names_child c k i nodes is number item =
    offset_fault (shape_of c.args.levels.now) nodes (place_of c.args.self.now) k i c.item-item.result _ (c.item-item.ensures ∙ item) (sym c.if-not-is_box.ensures.value)
    (sym (c.if-not-names_child.ensures k i is number))
    (c.broken-then-not-names_child.ensures ∙ ap (λ n. fault_at (place_of c.args.self.now) n ChildOffset) number)

pub returns : goal.returns
returns c k i nodes is number item =
    no_fault (shape_of c.args.levels.now) nodes (place_of c.args.self.now) k i c.item-item.result (c.item-item.ensures ∙ item) (sym c.if-not-is_box.ensures.value)
    (sym (c.if-not-names_child.ensures k i is number))
