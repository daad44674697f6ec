use Rattle.std.proofs.Common.{◌++◌, ap, subst, ◌∙◌}
use Rattle.std.specs.List.{flat_map}
use Rattle.fgb_outside.specs.Sink.{Appends, AppendsPart}
use Rattle.level_bounds.specs.Shapes.{shape_of}
use Rattle.level_bounds.proofs.Kept.{kept_shape}
use Rattle.node_items.specs.Nodes.{bytes_of}
use Rattle.tree_writer.specs.Rows.{nodes_to}
use Rattle.tree_writer.proofs.Laying.{all_bytes, level_leaves, on_ok}
use Rattle.tree_writer.proofs.Paging.{adds_last, part_last}
use Rattle.tree_writer.proofs.tree.write_tree.Goals as goal

pub returns-in_err-lay_levels-clause-part : goal.returns-in_err-lay_levels-clause-part
returns-in_err-lay_levels-clause-part g c =
    let t = shape_of c.args.levels.now in
    let leaves = c.args.leaves.now in
    subst (AppendsPart (g.W.Sink.shown c.args.out.now) (g.W.Sink.shown c.lay_levels.new.out))
    (ap (λ page. page ++ flat_map bytes_of (nodes_to t leaves 0)) c.new-page.ensures.items ∙ all_bytes t leaves)
    (c.lay_levels.ensures.part leaves c.requires (level_leaves t leaves (kept_shape c.args.levels.now) c.requires))

pub returns-clause-whole : goal.returns-clause-whole
returns-clause-whole g c =
    let t = shape_of c.args.levels.now in
    let leaves = c.args.leaves.now in
    on_ok c.write.result _ _
    (λ (last : Appends (g.W.Sink.shown c.lay_levels.new.out) (g.W.Sink.shown c.write.new.self) c.deref.result.now).
    subst (Appends (g.W.Sink.shown c.args.out.now) (g.W.Sink.shown c.write.new.self)) (all_bytes t leaves)
    (adds_last (g.W.Sink.shown c.args.out.now) (g.W.Sink.shown c.lay_levels.new.out) (g.W.Sink.shown c.write.new.self) c.new-page.result.items c.lay_levels.new.page.items c.deref.result.now (flat_map bytes_of (nodes_to t leaves 0))
    c.new-page.ensures.items (c.in_ok-lay_levels.ensures.whole leaves c.requires (level_leaves t leaves (kept_shape c.args.levels.now) c.requires)) c.deref.ensures.value last))
    c.write.ensures.written

pub returns-clause-part : goal.returns-clause-part
returns-clause-part g c =
    let t = shape_of c.args.levels.now in
    let leaves = c.args.leaves.now in
    subst (AppendsPart (g.W.Sink.shown c.args.out.now) (g.W.Sink.shown c.write.new.self)) (all_bytes t leaves)
    (part_last (g.W.Sink.shown c.args.out.now) (g.W.Sink.shown c.lay_levels.new.out) (g.W.Sink.shown c.write.new.self) c.new-page.result.items c.lay_levels.new.page.items c.deref.result.now (flat_map bytes_of (nodes_to t leaves 0))
    c.new-page.ensures.items (c.in_ok-lay_levels.ensures.whole leaves c.requires (level_leaves t leaves (kept_shape c.args.levels.now) c.requires)) c.deref.ensures.value c.write.ensures.part)
