use Rattle.std.proofs.Common.{◌≡◌, ◌<◌, ◌^◌, take}
use Rattle.std.specs.List.{All}
use Rattle.flat_layout.specs.Layout.{longs}
use Rattle.flat_views.specs.Vectors.{vector_bytes, vector_place}
use Rattle.owned_shape.proofs.copies.numbers_of.Given as goal

abbrev pub invariant-loop-i : goal.invariant-loop-i
invariant-loop-i l = record {
  copied : l.numbers.items ≡ take l.i (longs (vector_bytes l.list) (vector_place l.list));
  fits : All (λ x. x < 2 ^ 64) l.numbers.items;
}
