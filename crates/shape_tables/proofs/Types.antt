-- A geometry that was laid has its type, and so the fields that are read of it are known.
use Rattle.std.proofs.Common.{◌≡◌, ◌⊎◌, inl, inr, ⊎_elim, ℕ, ◌≤◌, ◌==◌, ◌++◌, not, Bool, true, false, List, [], ◌∷◌, Some, if◌then◌else◌, ap, ◌∙◌, arith}
use Rattle.std.proofs.lemmas.Bool.{cases_Bool, or_left}
use Rattle.std.proofs.lemmas.Bool.Decides.{nat_tests}
use Rattle.flat_layout.specs.Layout.{number_in}
use Rattle.flat_layout.proofs.Judging.{clean-field}
use Rattle.flat_layout.proofs.Numbers.{number_in-present}
use Rattle.fgb_schema.specs.Tables.{geometry, Content, scalar, is_readable, is_typed, type_of, kind_of, is_kind, own_type, ring_fields, point_fields, part_fields, fields}
use Rattle.fgb_schema.specs.Paths.{field}
use Rattle.fgb_schema.proofs.GeometryTypes.{type_own, type_given}
use Rattle.fgb_schema.proofs.Roots.{scalar_clean}
use Rattle.fgb_schema.proofs.Weighing.{weigh_scalar}
use Rattle.flat_builder.specs.Trees.{number}
use Rattle.flat_builder.specs.Laying.{width_of}
use Rattle.shape_tables.proofs.Held.{IsHeld}
use Rattle.shape_tables.proofs.Unbroken.{IsUnbroken, AreFields, unbroken_none, unbroken_one}

-- the fields that are read of a geometry of this type at this depth
abbrev pub fields_read : ℕ → ℕ → ℕ → List (ℕ × Content)
fields_read outer depth kind = own_type outer ++ ring_fields kind ++ point_fields kind ++ part_fields depth kind

some_kind : (kind : ℕ) → is_kind kind ≡ true → 1 ≤ kind
some_kind kind known = grind (arith, nat_tests)

module _ (b : List ℕ) (t kind : ℕ) (held : IsHeld b t 6 (Some (number 1 kind))) where
  readable : is_readable 1 b t 6 ≡ true
  unfolding width_of
  readable = rw held.present held.fits

  type_field : IsUnbroken b (field (scalar 1) t 6) 0
  unfolding width_of
  type_field = record { clean = scalar_clean b 1 t 6 (clean-field 1 b t 6 held.fits); weighs = weigh_scalar b 1 t 6 }

  type_read : (own : Bool) → AreFields b t (if own then (6, scalar 1) ∷ [] else []) 0
  type_read true = unbroken_one b (field (scalar 1) t 6) 0 type_field
  type_read false = unbroken_none b

  pub own_type_unbroken : (outer : ℕ) → AreFields b t (own_type outer) 0
  own_type_unbroken outer = type_read (outer == 0)

  number_shown : number_in 1 b t 6 0 ≡ kind
  number_shown = number_in-present 1 b t 6 0 held.present ∙ held.item

  module _ (outer : ℕ) (suits : (outer ≡ 0) ⊎ (outer ≡ kind)) (known : is_kind kind ≡ true) where
    pub typed : is_typed outer b t ≡ true
    unfolding is_typed
    typed = elim (cases_Bool (not (outer == 0))) [
      | inl given ↦ or_left (not (outer == 0)) (is_readable 1 b t 6) given
      | inr own ↦ rw own readable
    ]

    pub type_shown : type_of outer b t ≡ kind
    type_shown = ⊎_elim
        (λ none. type_own outer b t none ∙ number_shown)
        (λ same. type_given outer b t (λ none. omega (arith, some_kind kind known, same, none)) ∙ same)
        suits

    pub kind_shown : kind_of outer b t ≡ kind
    kind_shown = rw typed type_shown

    pub fields_shown : (depth : ℕ) → fields (geometry outer depth) b t ≡ fields_read outer depth kind
    unfolding fields
    fields_shown depth = ap (fields_read outer depth) kind_shown
