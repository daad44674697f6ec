use Rattle.std.proofs.Common.{◌≡◌, map, take}
use Rattle.std.specs.Prelude.{vec_items}
use Rattle.std.specs.List.{AllByRecursion}
use Rattle.laid_features.specs.Buffers.{buffers_of}
use Rattle.laid_features.proofs.Laying.{ReadsBack}
use Rattle.laid_features.proofs.lay.lay_features.Given as goal

abbrev pub invariant-loop-feature : goal.invariant-loop-feature
invariant-loop-feature l = record {
  same : map vec_items l.laid.items ≡ buffers_of (take l.feature-index l.features);
  sound : AllByRecursion ReadsBack (take l.feature-index l.features);
}
