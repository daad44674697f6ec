-- A difference of small numbers, in 64 bits.
use Rattle.std.proofs.Common.{◌≡◌, ◌∙◌, ℕ, ◌<◌, ◌^◌, pos, ◌-ℤ◌, w64, to_z, of_z, FitsSigned, ap, subst, sym, arith}
use Rattle.std.proofs.lemmas.Int.{ints, to_z-of_z, to_z_pos}

pub whole_back : (r below : ℕ) → r < 2 ^ 63 → below < 2 ^ 63 → to_z w64 (of_z w64 (to_z w64 r -ℤ to_z w64 below)) ≡ pos r -ℤ pos below
whole_back r below hr hb =
    let a : to_z w64 r ≡ pos r = to_z_pos w64 r hr in
    let b : to_z w64 below ≡ pos below = to_z_pos w64 below hb in
    let both : to_z w64 r -ℤ to_z w64 below ≡ pos r -ℤ pos below = ap (λ z. z -ℤ to_z w64 below) a ∙ ap (λ z. pos r -ℤ z) b in
    let fits : FitsSigned w64 (pos r -ℤ pos below) = omega (arith, ints, hr, hb) in
    to_z-of_z w64 (to_z w64 r -ℤ to_z w64 below) (subst (FitsSigned w64) (sym both) fits) ∙ both
