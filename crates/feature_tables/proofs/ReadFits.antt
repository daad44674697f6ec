-- A feature fits the header under which it is read.
use Rattle.std.proofs.Common.{◌≡◌, inl, inr, ℕ, zero, suc, true, List, length, drop, Option, Some, None, refl, sym, subst, ◌∙◌}
use Rattle.std.specs.Prelude.{nat_le, nat_lt, ◌&&◌}
use Rattle.std.specs.Option.{ForSome, option_map}
use Rattle.std.specs.List.{AllByRecursion}
use Rattle.std.proofs.lemmas.Bool.{cases_Bool, cases_eq, and_parts, ltb-true}
use Rattle.std.proofs.lemmas.Bool.Decides.{eqb_tells}
use Rattle.flat_layout.specs.Layout.{place_in}
use Rattle.fgb_values.specs.Values.{fits}
use Rattle.fgb_schema.specs.Headers.{Header, types, holding, columns_in}
use Rattle.fgb_schema.specs.Properties.{key, type_under, is_pair, pair_size, property_in, properties_within, properties_in}
use Rattle.fgb_schema.specs.Features.{bytes_in, feature_at}
use Rattle.fgb_schema.specs.Shapes.{Shape, type_in, shape_at}
use Rattle.fgb_schema.specs.Tables.{is_typed, kind_of}
use Rattle.fgb_schema.proofs.GeometryTypes.{type_given}
use Rattle.shape_tables.specs.Records.{Suits}
use Rattle.feature_tables.specs.Records.{NamesColumn, Fits}
use Rattle.feature_tables.proofs.FeatureTables.{types-holding}

-- the properties name columns, of whose types they are
module _ (kinds : List ℕ) where
  pair_named : (b : List ℕ) → is_pair kinds b ≡ true → NamesColumn kinds (property_in kinds b)
  unfolding is_pair property_in type_under
  pair_named b is =
      let front = and_parts (nat_le 2 (length b) && nat_lt (key b) (length kinds)) (fits (type_under kinds b) (drop 2 b)) is in
      record { there = ltb-true (key b) (length kinds) (and_parts (nat_le 2 (length b)) (nat_lt (key b) (length kinds)) front.0).1; same = refl }

  within_named : (n : ℕ) (b : List ℕ) → AllByRecursion (NamesColumn kinds) (properties_within n kinds b)
  within_named zero b = tt
  within_named (suc n) b = elim (cases_Bool (is_pair kinds b)) [
    | inl is ↦ rw is (pair_named b is, within_named n (drop (pair_size kinds b) b))
    | inr not ↦ rw not tt
  ]

  properties_named : (b : List ℕ) → AllByRecursion (NamesColumn kinds) (properties_in kinds b)
  unfolding properties_in
  properties_named b = within_named (length b) b

-- the shape has the type that is given from outside
module _ (outer : ℕ) (b : List ℕ) where
  shape_kind : (levels t : ℕ) → type_in (shape_at levels outer b t) ≡ kind_of outer b t
  unfolding shape_at
  shape_kind zero t = refl
  shape_kind (suc levels) t = refl

  kind_given : (t : ℕ) → (outer ≡ 0 → ⊥) → kind_of outer b t ≡ outer
  unfolding is_typed
  kind_given t given = elim (eqb_tells outer 0) [
    | inl own ↦ absurd (given own.1)
    | inr other ↦ rw other.0 (type_given outer b t given)
  ]

  shape_suits : (levels t : ℕ) → Suits outer (shape_at levels outer b t)
  shape_suits levels t = elim (cases_eq outer 0) [
    | inl own ↦ inl own
    | inr given ↦ inr (sym (shape_kind levels t ∙ kind_given t given))
  ]

  each_suits : (o : Option ℕ) → ForSome (option_map (shape_at 15 outer b) o) (Suits outer)
  each_suits None s is = absurd (differ is)
    where
      differ : (let nothing : Option Shape = None in nothing) ≡ Some s → ⊥
      differ same = cc
  each_suits (Some t) s is = let same : shape_at 15 outer b t ≡ s = cc in subst (Suits outer) same (shape_suits 15 t)

pub read_fits : (h : Header) (b : List ℕ) (t : ℕ) → Fits h (feature_at h b t)
unfolding feature_at
read_fits h b t = record {
  shape = each_suits h.geometry_type b (place_in b t 0);
  properties = subst (λ kinds. AllByRecursion (NamesColumn kinds) (properties_in (holding (types (columns_in b t 2)) (types h.columns)) (bytes_in b t 1))) (sym (types-holding (columns_in b t 2) h.columns))
      (properties_named (holding (types (columns_in b t 2)) (types h.columns)) (bytes_in b t 1));
}
