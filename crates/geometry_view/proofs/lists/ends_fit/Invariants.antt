use Rattle.std.proofs.Common.{◌≡◌, ℕ, ◌+◌, ◌-◌, ◌<◌, ◌≤◌, slice_index}
use Rattle.flat_layout.specs.Layout.{words}
use Rattle.flat_views.specs.Vectors.{vector_bytes, vector_place}
use Rattle.geometry_view.proofs.lists.ends_fit.Given as goal

abbrev pub invariant-loop-i : goal.invariant-loop-i
invariant-loop-i l =
    let ends = words (vector_bytes l.ends) (vector_place l.ends) in
    ((k : ℕ) → k + 1 < l.i → slice_index ends k ≤ slice_index ends (k + 1)) × (l.i ≡ 0 → l.last ≡ 0) × (0 < l.i → l.last ≡ slice_index ends (l.i - 1))
