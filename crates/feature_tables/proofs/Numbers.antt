-- Fields that hold a number, a bool or a signed number: what was laid is read, and nothing is broken.
use Rattle.std.proofs.Common.{◌≡◌, ℕ, ℤ, ◌==◌, Bool, true, false, not, List, Option, Some, None, if◌then◌else◌, refl, ap, sym, subst, ◌∙◌, inl, inr}
use Rattle.std.specs.Int.{w32, cast_signed, cast_unsigned}
use Rattle.std.specs.Int.RustNames.{FitsSigned}
use Rattle.std.proofs.lemmas.Bool.Decides.{eqb_tells}
use Rattle.std.proofs.lemmas.Int.{to_z-of_z}
use Rattle.flat_layout.specs.Layout.{number_in, signed_in}
use Rattle.flat_layout.proofs.Judging.{clean-absent, clean-field}
use Rattle.flat_layout.proofs.Numbers.{number_in-absent, number_in-present, signed_in-absent, signed_in-present}
use Rattle.fgb_schema.specs.Headers.{flag_in}
use Rattle.fgb_schema.specs.Tables.{scalar as scalar_content}
use Rattle.fgb_schema.specs.Paths.{field}
use Rattle.fgb_schema.proofs.Roots.{scalar_clean}
use Rattle.fgb_schema.proofs.Weighing.{weigh_scalar}
use Rattle.flat_builder.specs.Trees.{Item, number}
use Rattle.flat_builder.specs.Laying.{width_of}
use Rattle.header_tables.specs.Laying.{scalar, signed, flag}
use Rattle.shape_tables.proofs.Held.{IsHeld}
use Rattle.shape_tables.proofs.Unbroken.{IsUnbroken, held_weight}

-- a number of w bytes, unless it is the default
abbrev number_unless : Bool → ℕ → ℕ → Option Item
number_unless same w v = if same then None else Some (number w v)

bit : (x : Bool) → not ((if x then 1 else 0) == 0) ≡ x
bit true = refl
bit false = refl

module _ (b : List ℕ) (t id : ℕ) where
  unless_unbroken : (same : Bool) (w v : ℕ) → IsHeld b t id (number_unless same w v) → IsUnbroken b (field (scalar_content w) t id) (held_weight (number_unless same w v))
  unfolding width_of
  unless_unbroken true w v held = record { clean = scalar_clean b w t id (clean-absent w b t id held); weighs = weigh_scalar b w t id }
  unless_unbroken false w v held = record { clean = scalar_clean b w t id (clean-field w b t id held.fits); weighs = weigh_scalar b w t id }

  pub number_unbroken : (w otherwise v : ℕ) → IsHeld b t id (scalar w otherwise v) → IsUnbroken b (field (scalar_content w) t id) (held_weight (scalar w otherwise v))
  number_unbroken w otherwise v held = unless_unbroken (v == otherwise) w v held

  pub number_shown : (w otherwise v : ℕ) → IsHeld b t id (scalar w otherwise v) → number_in w b t id otherwise ≡ v
  number_shown w otherwise v held = elim (eqb_tells v otherwise) [
    | inl same ↦ number_in-absent w b t id otherwise (subst (λ x. IsHeld b t id (number_unless x w v)) same.0 held) ∙ sym same.1
    | inr other ↦
        let has : IsHeld b t id (Some (number w v)) = subst (λ x. IsHeld b t id (number_unless x w v)) other.0 held in
        number_in-present w b t id otherwise has.present ∙ has.item
  ]

  pub flag_unbroken : (otherwise x : Bool) → IsHeld b t id (flag otherwise x) → IsUnbroken b (field (scalar_content 1) t id) (held_weight (flag otherwise x))
  flag_unbroken otherwise x held = number_unbroken 1 (if otherwise then 1 else 0) (if x then 1 else 0) held

  pub flag_shown : (otherwise x : Bool) → IsHeld b t id (flag otherwise x) → flag_in b t id (if otherwise then 1 else 0) ≡ x
  flag_shown otherwise x held = ap (λ n. not (n == 0)) (number_shown 1 (if otherwise then 1 else 0) (if x then 1 else 0) held) ∙ bit x

  pub signed_unbroken : (otherwise z : ℤ) → IsHeld b t id (signed otherwise z) → IsUnbroken b (field (scalar_content 4) t id) (held_weight (signed otherwise z))
  signed_unbroken otherwise z held = number_unbroken 4 (cast_unsigned w32 otherwise) (cast_unsigned w32 z) held

  pub signed_shown : (otherwise z : ℤ) → FitsSigned w32 otherwise → FitsSigned w32 z → IsHeld b t id (signed otherwise z) → signed_in b t id otherwise ≡ z
  signed_shown otherwise z room fits held = elim (eqb_tells (cast_unsigned w32 z) (cast_unsigned w32 otherwise)) [
    | inl same ↦
        signed_in-absent b t id otherwise (subst (λ x. IsHeld b t id (number_unless x 4 (cast_unsigned w32 z))) same.0 held)
        ∙ sym (to_z-of_z w32 otherwise room) ∙ ap (cast_signed w32) (sym same.1) ∙ to_z-of_z w32 z fits
    | inr other ↦
        let has : IsHeld b t id (Some (number 4 (cast_unsigned w32 z))) = subst (λ x. IsHeld b t id (number_unless x 4 (cast_unsigned w32 z))) other.0 held in
        signed_in-present b t id otherwise has.present ∙ ap (cast_signed w32) has.item ∙ to_z-of_z w32 z fits
  ]
