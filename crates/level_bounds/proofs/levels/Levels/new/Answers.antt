use Rattle.std.proofs.Common.{◌<◌, refl, arith}
use Rattle.level_bounds.specs.Levels.{no_feature, too_narrow}
use Rattle.level_bounds.proofs.Growing.{grown_start, grown_few, grown_next, grown_many, many_leaves}
use Rattle.level_bounds.proofs.levels.Levels.new.Goals as goal
use Rattle.level_bounds.proofs.levels.Levels.new.Goals.{then-features-eq0-via-then-features-eq0, then-features-eq0-via-else-features-eq0+then-node_size-lt2, then-features-eq0-via-else-features-eq0+else-node_size-lt2+then-features-gt-MOST}

pub returns-then-features-eq0 : goal.returns-then-features-eq0
returns-then-features-eq0 c = elim c.then-features-eq0.branch [
  | then-features-eq0-via-then-features-eq0 w ↦ no_feature (omega (arith, w.if-features-eq0.true))
  | then-features-eq0-via-else-features-eq0+then-node_size-lt2 w ↦ too_narrow w.if-node_size-lt2.true
  | then-features-eq0-via-else-features-eq0+else-node_size-lt2+then-features-gt-MOST w ↦
      many_leaves c.args.features c.args.node_size (omega (arith, w.if-features-eq0.false)) w.if-node_size-lt2.false w.if-features-gt-MOST.true
]

pub loop-width-init : goal.loop-width-init
loop-width-init c = grown_start c.args.features c.args.node_size _ c.if-features-gt-MOST.false refl refl

pub returns-then-nodes-gt-MOST : goal.returns-then-nodes-gt-MOST
returns-then-nodes-gt-MOST c =
    grown_many c.loop-width.invariant (c.is_below_root.ensures.0 c.loop-width-test.true) c.div_ceil-width.result (omega (arith, c.if-features-eq0.false)) c.if-node_size-lt2.false c.div_ceil-width.ensures c.if-nodes-gt-MOST.true

pub loop-width-smaller : goal.loop-width-smaller
loop-width-smaller c =
    let few : c.loop-width.count < 44 = grown_few c.loop-width.invariant (c.is_below_root.ensures.0 c.loop-width-test.true) c.if-node_size-lt2.false c.if-features-gt-MOST.false in
    omega arith

pub loop-width-preserved : goal.loop-width-preserved
loop-width-preserved c =
    grown_next c.loop-width.invariant (c.is_below_root.ensures.0 c.loop-width-test.true) c.div_ceil-width.result c.if-node_size-lt2.false c.if-features-gt-MOST.false c.div_ceil-width.ensures c.if-nodes-gt-MOST.false
