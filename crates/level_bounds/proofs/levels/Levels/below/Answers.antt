use Rattle.std.proofs.Common.{arith}
use Rattle.level_bounds.proofs.Kept.{kept_below}
use Rattle.level_bounds.proofs.levels.Levels.below.Goals as goal

pub returns-else-k-eq0 : goal.returns-else-k-eq0
returns-else-k-eq0 c = kept_below c.args.self.now c.args.k (omega (arith, c.if-k-eq0.false)) c.requires
