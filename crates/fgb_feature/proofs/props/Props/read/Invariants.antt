use Rattle.std.proofs.Common.{length, ◌-◌}
use Rattle.fgb_schema.specs.Headers.{types}
use Rattle.fgb_header.specs.Views.{columns_shown}
use Rattle.fgb_feature.proofs.KeyPlaces.{Walked}
use Rattle.fgb_feature.proofs.props.Props.read.Given as goal

abbrev pub invariant-loop-at : goal.invariant-loop-at
invariant-loop-at l = Walked (types (columns_shown l.columns)) l.bytes l.at

abbrev pub decreases-loop-at : goal.decreases-loop-at
decreases-loop-at l = length l.bytes - l.at
