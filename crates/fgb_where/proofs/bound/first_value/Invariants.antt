use Rattle.std.proofs.Common.{◌≡◌}
use Rattle.fgb_feature.specs.Views.{properties_of}
use Rattle.fgb_where.specs.Holding.{first_pair}
use Rattle.fgb_where.proofs.bound.first_value.Given as goal

-- the first pair of the number is among those that are left
abbrev pub invariant-loop-column : goal.invariant-loop-column
invariant-loop-column l = first_pair l.number (properties_of l.column-iterator) ≡ first_pair l.number (properties_of l.properties)
