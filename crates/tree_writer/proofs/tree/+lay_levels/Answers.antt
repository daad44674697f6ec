use Rattle.std.proofs.Common.{◌≡◌, ◌+◌, ◌++◌, length, subst, arith, rules}
use Rattle.std.specs.List.{flat_map}
use Rattle.fgb_outside.specs.Sink.{AppendsPart}
use Rattle.level_bounds.specs.Levels.{width}
use Rattle.level_bounds.specs.Shapes.{shape_of}
use Rattle.level_bounds.proofs.Kept.{kept_shape}
use Rattle.node_items.specs.Nodes.{bytes_of}
use Rattle.tree_writer.specs.Pages.{Adds}
use Rattle.tree_writer.specs.Rows.{nodes_to, parent_over}
use Rattle.tree_writer.proofs.Laying.{as_many, level_bytes, next_level, on_ok, root_bytes}
use Rattle.tree_writer.proofs.Paging.{adds_more, adds_part, part_of_more}
use Rattle.tree_writer.proofs.tree.+lay_levels.Goals as goal

pub returns-then-level-count-clause-whole : goal.returns-then-level-count-clause-whole
returns-then-level-count-clause-whole g m c = λ leaves all are.
    on_ok c.lay_nodes.result _ _
    (subst (Adds (g.W.Sink.shown c.args.out.now) (g.W.Sink.shown c.lay_nodes.new.out) c.args.page.now.items c.lay_nodes.new.page.items)
    (root_bytes (shape_of c.args.levels.now) leaves c.args.level c.args.nodes.now (omega arith) are))
    c.lay_nodes.ensures.whole

pub returns-then-level-count-clause-part : goal.returns-then-level-count-clause-part
returns-then-level-count-clause-part g m c = λ leaves all are.
    subst (λ bytes. AppendsPart (g.W.Sink.shown c.args.out.now) (g.W.Sink.shown c.lay_nodes.new.out) (c.args.page.now.items ++ bytes))
    (root_bytes (shape_of c.args.levels.now) leaves c.args.level c.args.nodes.now (omega arith) are)
    c.lay_nodes.ensures.part

pub lay_levels-requires : goal.lay_levels-requires
lay_levels-requires g m c κs within =
    let t = shape_of c.args.levels.now in
    let long : length c.deref.result.now ≡ width t (c.args.level + 1) =
    as_many (parent_over t c.args.nodes.now c.args.level) (width t (c.args.level + 1)) c.deref.result.now c.in_ok-parents.parents.items c.deref.ensures.value c.in_ok-parents.ensures in
    search rules

pub returns-in_err-lay_levels-clause-part : goal.returns-in_err-lay_levels-clause-part
returns-in_err-lay_levels-clause-part g m c = λ leaves all are.
    let t = shape_of c.args.levels.now in
    let next = next_level t leaves (kept_shape c.args.levels.now) all c.args.level c.args.nodes.now c.deref.result.now c.in_ok-parents.parents.items are c.deref.ensures.value c.in_ok-parents.ensures in
    subst (λ bytes. AppendsPart (g.W.Sink.shown c.args.out.now) (g.W.Sink.shown c.lay_levels.new.out) (c.args.page.now.items ++ bytes))
    (level_bytes t leaves c.args.level c.args.nodes.now (omega (arith, c.if-level-count.false, c.requires.within)) are)
    (part_of_more (g.W.Sink.shown c.args.out.now) (g.W.Sink.shown c.lay_levels.new.out) c.args.page.now.items
    (flat_map bytes_of (nodes_to t leaves (c.args.level + 1))) (flat_map bytes_of c.args.nodes.now) (c.lay_levels.ensures.part leaves all next))

pub returns-clause-whole : goal.returns-clause-whole
returns-clause-whole g m c = λ leaves all are.
    let t = shape_of c.args.levels.now in
    let next = next_level t leaves (kept_shape c.args.levels.now) all c.args.level c.args.nodes.now c.deref.result.now c.in_ok-parents.parents.items are c.deref.ensures.value c.in_ok-parents.ensures in
    on_ok c.lay_nodes-2.result _ _
    (λ (more : Adds (g.W.Sink.shown c.lay_levels.new.out) (g.W.Sink.shown c.lay_nodes-2.new.out) c.lay_levels.new.page.items c.lay_nodes-2.new.page.items (flat_map bytes_of c.args.nodes.now)).
    subst (Adds (g.W.Sink.shown c.args.out.now) (g.W.Sink.shown c.lay_nodes-2.new.out) c.args.page.now.items c.lay_nodes-2.new.page.items)
    (level_bytes t leaves c.args.level c.args.nodes.now (omega (arith, c.if-level-count.false, c.requires.within)) are)
    (adds_more (g.W.Sink.shown c.args.out.now) (g.W.Sink.shown c.lay_levels.new.out) (g.W.Sink.shown c.lay_nodes-2.new.out) c.args.page.now.items c.lay_levels.new.page.items c.lay_nodes-2.new.page.items
    (flat_map bytes_of (nodes_to t leaves (c.args.level + 1))) (flat_map bytes_of c.args.nodes.now) (c.in_ok-lay_levels.ensures.whole leaves all next) more))
    c.lay_nodes-2.ensures.whole

pub returns-clause-part : goal.returns-clause-part
returns-clause-part g m c = λ leaves all are.
    let t = shape_of c.args.levels.now in
    let next = next_level t leaves (kept_shape c.args.levels.now) all c.args.level c.args.nodes.now c.deref.result.now c.in_ok-parents.parents.items are c.deref.ensures.value c.in_ok-parents.ensures in
    subst (λ bytes. AppendsPart (g.W.Sink.shown c.args.out.now) (g.W.Sink.shown c.lay_nodes-2.new.out) (c.args.page.now.items ++ bytes))
    (level_bytes t leaves c.args.level c.args.nodes.now (omega (arith, c.if-level-count.false, c.requires.within)) are)
    (adds_part (g.W.Sink.shown c.args.out.now) (g.W.Sink.shown c.lay_levels.new.out) (g.W.Sink.shown c.lay_nodes-2.new.out) c.args.page.now.items c.lay_levels.new.page.items
    (flat_map bytes_of (nodes_to t leaves (c.args.level + 1))) (flat_map bytes_of c.args.nodes.now) (c.in_ok-lay_levels.ensures.whole leaves all next) c.lay_nodes-2.ensures.part)
