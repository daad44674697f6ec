use Rattle.std.proofs.Common.{arith}
use Rattle.flat_layout.specs.Layout.{longs}
use Rattle.flat_views.specs.Vectors.{vector_bytes, vector_place}
use Rattle.flat_views.proofs.Elements.{size_within}
use Rattle.geometry_view.proofs.OwnNumbers.{pair_early, pairs_at}
use Rattle.geometry_view.proofs.geometry.pair_at.Goals as goal

pub overflow_mul-i : goal.overflow_mul-i
overflow_mul-i c = omega (arith, size_within c.args.xy 8 c.requires.wide, pair_early c.args.xy c.args.i c.requires.early)

pub at_u64-requires-clause-index : goal.at_u64-requires-clause-index
at_u64-requires-clause-index c = omega (arith, pair_early c.args.xy c.args.i c.requires.early)

pub overflow_mul-i-2 : goal.overflow_mul-i-2
overflow_mul-i-2 c = omega (arith, size_within c.args.xy 8 c.requires.wide, pair_early c.args.xy c.args.i c.requires.early)

pub overflow_add-i : goal.overflow_add-i
overflow_add-i c = omega (arith, size_within c.args.xy 8 c.requires.wide, pair_early c.args.xy c.args.i c.requires.early)

pub at_u64-requires-2-clause-index : goal.at_u64-requires-2-clause-index
at_u64-requires-2-clause-index c = pair_early c.args.xy c.args.i c.requires.early

pub returns-clause-point : goal.returns-clause-point
returns-clause-point c =
    let point = pairs_at (longs (vector_bytes c.args.xy) (vector_place c.args.xy)) c.args.i c.requires.early in
    let x = c.at_u64.ensures in let y = c.at_u64-2.ensures in cc
