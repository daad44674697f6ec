-- Numbers in bytes: those of n bytes are below 256 ^ n, and a signed one of 4 bytes fits them.
use Rattle.std.proofs.Common.{inl, inr, ℕ, ℤ, ◌+◌, ◌*◌, ◌<◌, ◌^◌, List, sym, subst, arith}
use Rattle.std.specs.List.{AllByRecursion}
use Rattle.std.specs.Int.{w32, cast_signed}
use Rattle.std.specs.Int.RustNames.{FitsSigned}
use Rattle.std.proofs.lemmas.Bool.{cases_Bool}
use Rattle.std.proofs.lemmas.Int.{ints}
use Rattle.std.proofs.lemmas.List.{get_or-drop}
use Rattle.byteorder.specs.Numbers.{little_from-lt}
use Rattle.flat_layout.specs.Layout.{number_at, is_absent, field_place, number_in, signed_in, longs, count}
use Rattle.flat_layout.proofs.Numbers.{number_in-absent, number_in-present, signed_in-absent, signed_in-present}
use Rattle.tree_writer.proofs.Slices.{all_at}
use Rattle.packed_file.proofs.Alls.{all_made}

abbrev pub AreBytes : List ℕ → Type 0
AreBytes b = AllByRecursion (λ x. x < 2 ^ 8) b

signed_fits : (n : ℕ) → n < 2 ^ 32 → FitsSigned w32 (cast_signed w32 n)
signed_fits n small = omega (arith, ints)

module _ (b : List ℕ) (bytes : AreBytes b) where
  pub number_small : (n p : ℕ) → number_at n b p < 256 ^ n
  unfolding number_at
  number_small n p = little_from-lt 0 n _ (λ k. subst (λ x. x < 256) (sym (get_or-drop p b k 0)) (all_at (λ x. x < 256) b (p + k) 0 bytes (omega arith)))

  pub longs_small : (v : ℕ) → AllByRecursion (λ x. x < 2 ^ 64) (longs b v)
  unfolding longs
  longs_small v = all_made (λ x. x < 2 ^ 64) (λ i. number_at 8 b (v + 4 + 8 * i)) 0 (count b v) (λ i first last. number_small 8 (v + 4 + 8 * i))

  module _ (t id : ℕ) where
    pub number_in_small : (w otherwise : ℕ) → otherwise < 256 ^ w → number_in w b t id otherwise < 256 ^ w
    number_in_small w otherwise small = elim (cases_Bool (is_absent b t id)) [
      | inl absent ↦ subst (λ x. x < 256 ^ w) (sym (number_in-absent w b t id otherwise absent)) small
      | inr present ↦ subst (λ x. x < 256 ^ w) (sym (number_in-present w b t id otherwise present)) (number_small w (field_place b t id))
    ]

    pub signed_in_fits : (otherwise : ℤ) → FitsSigned w32 otherwise → FitsSigned w32 (signed_in b t id otherwise)
    signed_in_fits otherwise fits = elim (cases_Bool (is_absent b t id)) [
      | inl absent ↦ subst (FitsSigned w32) (sym (signed_in-absent b t id otherwise absent)) fits
      | inr present ↦ subst (FitsSigned w32) (sym (signed_in-present b t id otherwise present)) (signed_fits (number_at 4 b (field_place b t id)) (number_small 4 (field_place b t id)))
    ]
