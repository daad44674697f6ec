use Rattle.std.proofs.Common.{◌≡◌, ◌<◌, ◌^◌, take}
use Rattle.std.specs.List.{AllByRecursion}
use Rattle.flat_layout.specs.Layout.{longs}
use Rattle.flat_views.specs.Vectors.{vector_bytes, vector_place}
use Rattle.header_info.proofs.envelope.numbers_of.Given as goal

abbrev pub invariant-loop-i : goal.invariant-loop-i
invariant-loop-i l = record {
  shown : l.numbers.items ≡ take l.i (longs (vector_bytes l.view) (vector_place l.view));
  sound : AllByRecursion (λ x. x < 2 ^ 64) l.numbers.items;
}
