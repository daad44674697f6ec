-- What the reader of one pair gives, from what its parts say.
use Rattle.std.proofs.Common.{◌≡◌, ℕ, ◌+◌, ◌-◌, ◌<◌, ◌≤◌, true, false, List, ◌∷◌, length, take, drop, slice_index, Some, sym, ap, subst, ◌∙◌, arith}
use Rattle.std.specs.Prelude.{slice_get}
use Rattle.std.proofs.lemmas.List.{length-drop, length-map, take_all}
use Rattle.std.proofs.lemmas.Option.{get_or_from_slice_get}
use Rattle.byteorder.specs.Endian.{little_number}
use Rattle.flat_layout.specs.Layout.{number_at}
use Rattle.flat_layout.specs.Promises.{IsClean}
use Rattle.flat_layout.specs.declared.Rule.{Rule}
use Rattle.flat_layout.specs.declared.Rule.TheVariants.{PropEnd}
use Rattle.fgb_values.specs.declared.Value.{Value}
use Rattle.fgb_values.specs.Values.{Content, Shows, fits, size_in, value_in, type_of, content_of}
use Rattle.fgb_schema.specs.Headers.{Column, types}
use Rattle.fgb_schema.specs.Properties.{Property, key, type_under, pair_size, property_in, properties_in, BreaksPair, BreaksProperties, cut_value}
use Rattle.fgb_feature.specs.Pairs.{ShowsPair, property_of}
use Rattle.fgb_feature.proofs.Pairs.{is_whole}
use Rattle.fgb_feature.proofs.KeyPlaces.{clean_behind}
use Rattle.fgb_feature.proofs.PropertyLists.{properties_more}

-- the slice of the bytes from n on
pub rest_is : (b : List ℕ) (n : ℕ) → take (length b - n) (drop n b) ≡ drop n b
rest_is b n = take_all (length b - n) (drop n b) (omega (arith, length-drop n b))

-- what was read there
pub shown_at : (kinds b : List ℕ) (n : ℕ) (p : ℕ × Value × ℕ) → ShowsPair kinds (take (length b - n) (drop n b)) p → ShowsPair kinds (drop n b) p
shown_at kinds b n p shows = subst (λ rest. ShowsPair kinds rest p) (rest_is b n) shows

pub broken_there : (kinds b : List ℕ) (n : ℕ) (r : Rule) → BreaksPair kinds (take (length b - n) (drop n b)) 0 r → BreaksPair kinds (drop n b) 0 r
broken_there kinds b n r broken = subst (λ rest. BreaksPair kinds rest 0 r) (rest_is b n) broken

-- the key is what `read_u16` gives
pub key_is : (b : List ℕ) (n : ℕ) → n ≡ little_number 2 b → n ≡ key b
unfolding key number_at
key_is b n is = is

-- as many types as columns
pub types_length : (columns : List Column) → length (types columns) ≡ length columns
types_length columns = length-map columns (λ (k : Column). k.kind)

module _ (kinds b : List ℕ) (column kind : ℕ) (here : column ≡ key b) (known : slice_get kinds column ≡ Some kind) where
  typed : type_under kinds b ≡ kind
  unfolding type_under
  typed = ap (slice_index kinds) (sym here) ∙ get_or_from_slice_get kinds column kind 0 known

  early : column < length kinds → key b < length kinds
  early below = subst (λ n. n < length kinds) here below

  abbrev property : ℕ → ℕ → Content → Property
  property n k x = record { column = n; kind = k; content = x }

  same_property : (value : Value) → Shows kind (drop 2 b) value → property_of (column, value) ≡ property_in kinds b
  unfolding property_in
  same_property value shows =
      ap (λ n. property n (type_of value) (content_of value)) here
      ∙ ap (λ k. property (key b) k (content_of value)) (shows.0 ∙ sym typed)
      ∙ ap (property (key b) (type_under kinds b)) (shows.1 ∙ ap (λ k. value_in k (drop 2 b)) (sym typed))

  pub pair_shown : (size : ℕ) (value : Value) → 2 ≤ length b → column < length kinds
      → (fits kind (drop 2 b) ≡ true) × Shows kind (drop 2 b) value × (size ≡ size_in kind (drop 2 b)) × (size ≤ length (drop 2 b))
      → ShowsPair kinds b (column, value, 2 + size)
  unfolding pair_size
  pair_shown size value long below read = record {
    whole = is_whole kinds b (record { keyed = long; column = early below; fitting = subst (λ k. fits k (drop 2 b) ≡ true) (sym typed) read.0 });
    property = same_property value read.1;
    size = ap (λ n. 2 + n) (read.2 ∙ ap (λ k. size_in k (drop 2 b)) (sym typed));
    within = omega (arith, read.3, length-drop 2 b, long);
  }

  pub value_cut : 2 ≤ length b → column < length kinds → fits kind (drop 2 b) ≡ false → BreaksPair kinds b 0 PropEnd
  value_cut long below cut = cut_value long (early below) (subst (λ k. fits k (drop 2 b) ≡ false) (sym typed) cut)

-- what is left behind a pair that was read
module _ (kinds b : List ℕ) (column size : ℕ) (value : Value) (pair : ShowsPair kinds b (column, value, size)) where
  behind_pair : drop (pair_size kinds b) b ≡ take (length b - size) (drop size b)
  behind_pair = ap (λ n. drop n b) (sym pair.size) ∙ sym (rest_is b size)

  pub left_clean : IsClean (BreaksProperties kinds b) → IsClean (BreaksProperties kinds (take (length b - size) (drop size b)))
  left_clean clean = subst (λ rest. IsClean (BreaksProperties kinds rest)) behind_pair (clean_behind kinds b pair.whole clean)

  pub left_steps : properties_in kinds b ≡ property_of (column, value) ∷ properties_in kinds (take (length b - size) (drop size b))
  left_steps =
      properties_more kinds b pair.whole
      ∙ ap (λ rest. property_in kinds b ∷ properties_in kinds rest) behind_pair
      ∙ ap (λ p. p ∷ properties_in kinds (take (length b - size) (drop size b))) (sym pair.property)

  pub left_fewer : length (properties_in kinds (take (length b - size) (drop size b))) < length (properties_in kinds b)
  left_fewer = omega (arith, ap length left_steps)
