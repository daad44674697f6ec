use Rattle.std.proofs.Common.{◌≡◌, take}
use Rattle.feature_tables.specs.Laying.{properties_bytes}
use Rattle.feature_info.proofs.prop.bytes_of.Given as goal

abbrev pub invariant-loop-prop : goal.invariant-loop-prop
invariant-loop-prop l = l.bytes.items ≡ properties_bytes (take l.prop-index l.props)
