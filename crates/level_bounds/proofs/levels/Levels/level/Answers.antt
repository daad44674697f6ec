use Rattle.std.proofs.Common.{◌≡◌, ℕ, ◌+◌, ◌-◌, ◌<◌, ◌≤◌, arith}
use Rattle.level_bounds.specs.Levels.{width, nodes_above, node_count}
use Rattle.level_bounds.specs.Shapes.{shape_of}
use Rattle.level_bounds.proofs.Kept.{kept_above, kept_shape}
use Rattle.level_bounds.proofs.Places.{width_some}
use Rattle.level_bounds.proofs.levels.Levels.level.Goals as goal

fits : (x p n m : ℕ) → x + p ≡ n → m ≡ n → x ≤ m
fits x p n m e f = omega arith

rest : (x p n m : ℕ) → x + p ≡ n → m ≡ n → m - x ≡ p
rest x p n m e f = omega arith

ordered : (x y a w n m : ℕ) → x + (a + 0) ≡ n → y + (a + w) ≡ n → m ≡ n → 0 < w → m - x < m - y
ordered x y a w n m e f g some = omega arith

pub overflow_sub-result : goal.overflow_sub-result
overflow_sub-result c = fits _ _ _ _ (kept_above c.args.self.now c.args.k c.requires) c.nodes-nodes.ensures.nodes

pub returns-clause-first : goal.returns-clause-first
returns-clause-first c = rest _ _ _ _ (kept_above c.args.self.now c.args.k c.requires) c.nodes-nodes.ensures.nodes

pub returns-clause-order : goal.returns-clause-order
returns-clause-order c =
    let l = c.args.self.now in
    ordered _ _ (nodes_above (shape_of l) c.args.k) (width (shape_of l) c.args.k) (node_count (shape_of l)) c.nodes-nodes.result (kept_above l c.args.k c.requires) c.below.ensures c.nodes-nodes.ensures.nodes (width_some (shape_of l) (kept_shape l) c.args.k)
