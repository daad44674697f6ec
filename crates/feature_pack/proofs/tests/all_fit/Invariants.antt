use Rattle.std.proofs.Common.{take}
use Rattle.std.specs.List.{AllByRecursion}
use Rattle.feature_tables.specs.Records.{Fits}
use Rattle.feature_pack.proofs.tests.all_fit.Given as goal

abbrev pub invariant-loop-feature : goal.invariant-loop-feature
invariant-loop-feature l = AllByRecursion (Fits l.header) (take l.feature-index l.features)
