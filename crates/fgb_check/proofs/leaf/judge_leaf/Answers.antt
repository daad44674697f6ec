use Rattle.std.proofs.Common.{refl, sym, ◌∙◌}
use Rattle.fgb_check.specs.Leaves.{in_offset, in_box}
use Rattle.fgb_check.proofs.leaf.judge_leaf.Goals as goal

pub returns-then-leaf-offset : goal.returns-then-leaf-offset
returns-then-leaf-offset c = (refl, in_offset c.if-leaf-offset.true)

pub returns-then-not-same : goal.returns-then-not-same
returns-then-not-same c = (refl, in_box c.if-leaf-offset.false (sym c.same.ensures.value ∙ c.if-not-same.true))
