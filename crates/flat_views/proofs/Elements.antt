-- How many bytes the elements of a vector have.
use Rattle.std.proofs.Common.{◌≡◌, ℕ, ◌+◌, ◌*◌, ◌^◌, ◌≤◌, true, List, length, subst, arith}
use Rattle.std.proofs.lemmas.Bool.Decides.{nat_tests}
use Rattle.std.proofs.lemmas.Grind.{common_steps}
use Rattle.flat_layout.specs.Layout.{is_vector, count, elements}
use Rattle.flat_views.specs.declared.vectors.VecView.{VecView}
use Rattle.flat_views.specs.Vectors.{vector_bytes, vector_place, vector_width}

pub length-elements : (w : ℕ) (b : List ℕ) (v : ℕ) → is_vector w b v ≡ true → length (elements w b v) ≡ w * count b v
unfolding is_vector elements
length-elements w b v sound =
    let room : v + 4 + w * count b v ≤ length b = grind (arith, nat_tests) in
    grind (arith, common_steps)

-- they lie in the buffer
pub vector_within : (w : ℕ) (b : List ℕ) (v : ℕ) → is_vector w b v ≡ true → w * count b v ≤ length b
unfolding is_vector
vector_within w b v sound = let room : v + 4 + w * count b v ≤ length b = grind (arith, nat_tests) in omega (arith, room)

pub size_within : (vector : VecView) (w : ℕ) → vector_width vector ≡ w → w * count (vector_bytes vector) (vector_place vector) ≤ 2 ^ 28
size_within vector w wide =
    let b = vector_bytes vector in let v = vector_place vector in
    omega (arith, vector_within w b v (subst (λ k. is_vector k b v ≡ true) wide vector.sound), vector.buf.small)
