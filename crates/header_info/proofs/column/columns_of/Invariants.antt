use Rattle.std.proofs.Common.{◌≡◌, take}
use Rattle.std.specs.List.{AllByRecursion}
use Rattle.fgb_header.specs.Views.{columns_shown}
use Rattle.header_tables.specs.Records.{IsColumn}
use Rattle.header_info.proofs.column.columns_of.Given as goal

abbrev pub invariant-loop-i : goal.invariant-loop-i
invariant-loop-i l = record {
  shown : l.columns.items ≡ take l.i (columns_shown l.view);
  sound : AllByRecursion IsColumn l.columns.items;
}
