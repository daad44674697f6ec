use Rattle.std.proofs.Common.{take}
use Rattle.std.specs.List.{AllByRecursion}
use Rattle.fgb_schema.specs.Headers.{types}
use Rattle.fgb_schema.specs.Features.{columns_holding}
use Rattle.feature_tables.specs.Records.{NamesColumn}
use Rattle.feature_info.proofs.feature.FeatureInfo.names_columns.Given as goal

abbrev pub invariant-loop-prop : goal.invariant-loop-prop
invariant-loop-prop l = AllByRecursion (NamesColumn (types (columns_holding l.header l.self))) (take l.prop-index l.prop-items)
