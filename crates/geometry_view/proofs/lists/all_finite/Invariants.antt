use Rattle.std.proofs.Common.{◌≡◌, ℕ, ◌<◌, true, slice_index}
use Rattle.flat_layout.specs.Layout.{longs}
use Rattle.flat_views.specs.Vectors.{vector_bytes, vector_place}
use Rattle.order_keys.specs.Keys.{is_finite}
use Rattle.geometry_view.proofs.lists.all_finite.Given as goal

abbrev pub invariant-loop-i : goal.invariant-loop-i
invariant-loop-i l = (k : ℕ) → k < l.i → is_finite (slice_index (longs (vector_bytes l.xy) (vector_place l.xy)) k) ≡ true
