use Rattle.std.proofs.Common.{refl, ap, ◌-◌, ◌∙◌, option_map, arith}
use Rattle.flat_layout.proofs.Judging.{exit}
use Rattle.level_bounds.specs.Shapes.{shape_of}
use Rattle.fgb_schema.specs.Headers.{Header}
use Rattle.fgb_file.specs.File.{LeafAgrees, first_place}
use Rattle.fgb_check.specs.Leaves.{RefusesLeaf}
use Rattle.fgb_check.proofs.Nodes.{first_behind}
use Rattle.fgb_check.proofs.Walking.{beside, stands_none, stands_next, stands_few, stands_refused, stands_leaf, stands_judged}
use Rattle.fgb_check.proofs.slice.count_features.Goals as goal

pub loop-at-init : goal.loop-at-init
loop-at-init c = let image = c.args.bytes.now in let index = option_map shape_of c.args.levels.now in let opened = c.requires.opened in
    stands_none image opened (first_behind image index c.args.place c.first_feature-first.result c.requires.place c.first_feature-first.ensures)
    (c.new-tally.ensures.counts image (first_place image index) (c.features_count.ensures ∙ ap (λ (h : Header). h.features_count) opened.shown))

pub returns-in_err-own : goal.returns-in_err-own
returns-in_err-own c = exit _ _ c.from_residual.result c.in_err-own.field-0.0 c.from_residual.ensures.1
    (stands_refused c.args.bytes.now c.loop-at.invariant (omega arith) c.in_err-own.ensures)

pub returns-in_err-judge_own_leaf : goal.returns-in_err-judge_own_leaf
returns-in_err-judge_own_leaf c = let image = c.args.bytes.now in let index = option_map shape_of c.args.levels.now in let e = c.in_err-judge_own_leaf.field-0.0 in
    let first = first_behind image index c.args.place c.first_feature-first.result c.requires.place c.first_feature-first.ensures in
    exit _ _ c.from_residual-in_err-judge_own_leaf.result e c.from_residual-in_err-judge_own_leaf.ensures.1
    (stands_leaf image c.loop-at.invariant c.in_ok-own.ensures.0 (beside (λ k offset own. RefusesLeaf image index k offset own e) c.seen.ensures (ap (λ n. c.loop-at.at - n) first) c.in_ok-own.ensures.1 c.in_err-judge_own_leaf.ensures))

pub add-requires : goal.add-requires
add-requires c = omega (arith, stands_few c.args.bytes.now c.loop-at.invariant)

pub loop-at-preserved : goal.loop-at-preserved
loop-at-preserved c = let image = c.args.bytes.now in let index = option_map shape_of c.args.levels.now in
    let first = first_behind image index c.args.place c.first_feature-first.result c.requires.place c.first_feature-first.ensures in
    stands_next image c.loop-at.invariant c.in_ok-own.ensures.0 (beside (LeafAgrees image index) c.seen.ensures (ap (λ n. c.loop-at.at - n) first) c.in_ok-own.ensures.1 c.in_ok-judge_own_leaf.ensures)
    (c.add.ensures.counts image (first_place image index))

pub returns : goal.returns
returns c = let image = c.args.bytes.now in
    stands_judged image c.judge.result c.loop-at.invariant c.loop-at-test.false (λ pieces counts. c.judge.ensures image _ pieces refl counts)
