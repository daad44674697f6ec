use Rattle.std.proofs.Common.{◌≡◌, ◌++◌}
use Rattle.std.specs.List.{AllByRecursion}
use Rattle.fgb_feature.specs.Views.{properties_of}
use Rattle.feature_tables.specs.Records.{IsProperty}
use Rattle.feature_info.proofs.prop.props_of.Given as goal

abbrev pub invariant-loop-column : goal.invariant-loop-column
invariant-loop-column l = record {
  -- those that are copied, and those that are left
  shown : l.props.items ++ properties_of l.column-iterator ≡ properties_of l.view;
  sound : AllByRecursion IsProperty l.props.items;
}
