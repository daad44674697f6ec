use Rattle.std.proofs.Common.{◌≡◌, ◌++◌}
use Rattle.std.specs.Prelude.{reverse, vec_len}
use Rattle.shape_features.specs.Features.{features_over}
use Rattle.shape_features.proofs.features.last_first.Given as goal

abbrev pub invariant-loop-shape : goal.invariant-loop-shape
invariant-loop-shape l = features_over l.left.items ++ reverse l.features.items ≡ features_over l.fn.shapes.items

abbrev pub decreases-loop-shape : goal.decreases-loop-shape
decreases-loop-shape l = vec_len l.left
