use Rattle.std.proofs.Common.{◌≡◌, refl, subst, arith}
use Rattle.level_bounds.specs.Levels.{place}
use Rattle.level_bounds.specs.Shapes.{shape_of}
use Rattle.flat_layout.proofs.Judging.{exit}
use Rattle.node_items.specs.Nodes.{stored}
use Rattle.index_reader.specs.Parts.{IsSound}
use Rattle.index_reader.proofs.Order.{inner_there}
use Rattle.index_reader.proofs.Sound.{sound_root, sound_next, sound_tree, breaks_root, breaks_group}
use Rattle.index_reader.proofs.memory.judge_index.Goals as goal

pub returns-in_err-judge_nodes : goal.returns-in_err-judge_nodes
returns-in_err-judge_nodes c = let t = shape_of c.args.levels.now in
    exit _ _ c.from_residual.result c.in_err-judge_nodes.field-0.0 c.from_residual.ensures.1
    (breaks_root t (stored c.args.file.now c.args.place) c.args.place c.args.levels.now.shaped.shaped c.in_err-judge_nodes.field-0.0 (c.in_err-judge_nodes.ensures.root refl refl refl))

pub loop-parent-init : goal.loop-parent-init
loop-parent-init c = let t = shape_of c.args.levels.now in
    sound_root t (stored c.args.file.now c.args.place) c.args.place c.args.levels.now.shaped.shaped (c.in_ok-judge_nodes.ensures.root refl refl refl)

pub returns-in_err-judge_children : goal.returns-in_err-judge_children
returns-in_err-judge_children c = let t = shape_of c.args.levels.now in
    let inner = inner_there t c.args.levels.now.shaped.shaped c.loop-parent.parent (omega (arith, c.loop-parent-test.true, c.level-parent-end.ensures.first)) in
    exit _ _ c.from_residual-in_err-judge_children.result c.in_err-judge_children.field-0.0 c.from_residual-in_err-judge_children.ensures.1
    (breaks_group t (stored c.args.file.now c.args.place) c.args.place c.args.levels.now.shaped.shaped c.loop-parent.parent inner c.in_err-judge_children.field-0.0
    (c.in_err-judge_children.ensures inner.k inner.i inner.is inner.stands))

pub loop-parent-preserved : goal.loop-parent-preserved
loop-parent-preserved c = let t = shape_of c.args.levels.now in
    sound_next t (stored c.args.file.now c.args.place) c.args.place c.args.levels.now.shaped.shaped c.loop-parent.parent c.loop-parent.invariant c.in_ok-judge_children.ensures

pub returns : goal.returns
returns c = let t = shape_of c.args.levels.now in
    let ends : c.loop-parent.parent ≡ place t 0 0 = omega (arith, c.loop-parent-test.false, c.level-parent-end.ensures.first) in
    sound_tree t (stored c.args.file.now c.args.place) c.args.place c.args.levels.now.shaped.shaped (subst (λ n. IsSound t (stored c.args.file.now c.args.place) c.args.place n) ends c.loop-parent.invariant)
