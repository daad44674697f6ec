-- What a table holds that has the fields of a list: each item of it in its place, and nothing where there is none.
use Rattle.std.proofs.Common.{◌≡◌, ℕ, zero, suc, ◌+◌, ◌<◌, ◌≤◌, ◌≢◌, ◌==◌, ◌||◌, true, false, List, [], ◌∷◌, Option, Some, None, refl, ap, ◌∙◌, inl, inr, arith}
use Rattle.std.specs.Prelude.{⊤}
use Rattle.std.proofs.lemmas.Bool.Decides.{eqb_tells}
use Rattle.flat_layout.specs.Layout.{is_absent}
use Rattle.flat_builder.specs.Trees.{Item, Fields, none, put}
use Rattle.flat_laid.specs.Lies.{Lies, HasField, HasFields, IsTable, has_field, lies_at}
use Rattle.shape_tables.specs.Laying.{with_fields}

-- field id of the table at t holds this item, or is absent
abbrev pub IsHeld : List ℕ → ℕ → ℕ → Option Item → Type 0
IsHeld b t id None = is_absent b t id ≡ true
IsHeld b t id (Some it) = HasField b it t id (Lies b it (lies_at b it t id))

-- the fields from this id on
abbrev AreHeld : List ℕ → ℕ → ℕ → List (Option Item) → Type 0
AreHeld b t id [] = ⊤
AreHeld b t id (o ∷ rest) = IsHeld b t id o × AreHeld b t (id + 1) rest

-- the one at this place of the list
abbrev pub HeldAt : List ℕ → ℕ → ℕ → List (Option Item) → ℕ → Type 0
HeldAt b t id [] i = ⊤
HeldAt b t id (o ∷ rest) zero = IsHeld b t id o
HeldAt b t id (o ∷ rest) (suc i) = HeldAt b t (id + 1) rest i

-- a table has no field from this id on
abbrev EndsBelow : Fields → ℕ → Type 0
EndsBelow fs n = (id : ℕ) → n ≤ id → has_field fs id ≡ false

other_id : (fs : Fields) (n id : ℕ) → n ≢ id → (n == id) || has_field fs id ≡ has_field fs id
other_id fs n id other = elim (eqb_tells n id) [
  | inl same ↦ absurd (other same.1)
  | inr apart ↦ ap (λ x. x || has_field fs id) apart.0
]

ends_more : (fs : Fields) (n : ℕ) (it : Item) → EndsBelow fs n → EndsBelow (put fs n it) (n + 1)
ends_more fs n it ends id late = other_id fs n id (omega (arith, late)) ∙ ends id (omega (arith, late))

-- an id below those of the list is not changed by it
lower_id : (items : List (Option Item)) (fs : Fields) (n id : ℕ) → id < n → has_field (with_fields fs n items) id ≡ has_field fs id
lower_id [] fs n id early = refl
lower_id (None ∷ rest) fs n id early = lower_id rest fs (n + 1) id (omega (arith, early))
lower_id (Some it ∷ rest) fs n id early = lower_id rest (put fs n it) (n + 1) id (omega (arith, early)) ∙ other_id fs n id (omega (arith, early))

module _ (b : List ℕ) (t : ℕ) where
  -- the fields in front of the list
  front : (items : List (Option Item)) (fs : Fields) (n : ℕ) → HasFields b (with_fields fs n items) t → HasFields b fs t
  front [] fs n has = has
  front (None ∷ rest) fs n has = front rest fs (n + 1) has
  front (Some it ∷ rest) fs n has = (front rest (put fs n it) (n + 1) has).0

  held_from : (items : List (Option Item)) (fs : Fields) (n : ℕ) → EndsBelow fs n → HasFields b (with_fields fs n items) t
      → ((id : ℕ) → has_field (with_fields fs n items) id ≡ false → is_absent b t id ≡ true) → AreHeld b t n items
  held_from [] fs n ends has others = tt
  held_from (None ∷ rest) fs n ends has others = (
    others n (lower_id rest fs (n + 1) n (omega arith) ∙ ends n (omega arith)),
    held_from rest fs (n + 1) (λ id late. ends id (omega (arith, late))) has others,
  )
  held_from (Some it ∷ rest) fs n ends has others = (
    (front rest (put fs n it) (n + 1) has).1,
    held_from rest (put fs n it) (n + 1) (ends_more fs n it ends) has others,
  )

  held_at : (items : List (Option Item)) (id i : ℕ) → AreHeld b t id items → HeldAt b t id items i
  held_at [] id i all = tt
  held_at (o ∷ rest) id zero all = all.0
  held_at (o ∷ rest) id (suc i) all = held_at rest (id + 1) i all.1

  -- a field of a whole table
  pub field_of : (items : List (Option Item)) → IsTable b (with_fields none 0 items) t (HasFields b (with_fields none 0 items) t) → (i : ℕ) → HeldAt b t 0 items i
  field_of items has i = held_at items 0 i (held_from items none 0 (λ id late. refl) has.fields has.others)
