use Rattle.std.proofs.Common.{subst, arith, ◌%◌, ◌<◌, mod-lt}
use Rattle.grid_features.specs.Grid.{IsPattern}
use Rattle.grid_features.proofs.Wholes.{whole_back}
use Rattle.grid_features.proofs.features.coordinate.Goals as goal

pub returns : goal.returns
returns c =
    let left : c.args.number % c.args.steps < c.args.steps = mod-lt c.args.number (omega (arith, c.requires.some)) in
    subst (λ z. IsPattern z c.in-Some.coordinate.0) (whole_back (c.args.number % c.args.steps) c.args.below (omega (arith, left, c.requires.few)) (omega (arith, c.requires.low))) c.in-Some.ensures.exact
