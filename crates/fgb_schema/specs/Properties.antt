-- The properties of a feature: pairs of a column's number and a value, one after another. `kinds` are the types of the
-- columns that hold (FlatGeobuf, feature.fbs, Feature, properties).
use Rattle.std.specs.Prelude.{◌≡◌, ℕ, zero, suc, ◌+◌, ◌<◌, ◌≤◌, nat_le, nat_lt, ◌&&◌, Bool, true, false, List, [], ◌∷◌, length, drop, slice_index, if◌then◌else◌}
use Rattle.flat_layout.specs.Layout.{number_at}
use Rattle.flat_layout.specs.declared.Rule.{Rule}
use Rattle.flat_layout.specs.declared.Rule.TheVariants.{PropColumn, PropEnd}
use Rattle.fgb_values.specs.Values.{Content, fits, size_in, value_in}

-- a property: the number of its column, the type of its value, and what the value says
pub record Property : Type 0 where
  pub column : ℕ
  pub kind : ℕ
  pub content : Content

-- the key at the front of some bytes: the number of a column
unfoldable pub key : List ℕ → ℕ
key b = number_at 2 b 0

-- the type of that column
unfoldable pub type_under : List ℕ → List ℕ → ℕ
type_under kinds b = slice_index kinds (key b)

-- a whole pair stands at the front: a key that names a column, and a value of its type
unfoldable pub is_pair : List ℕ → List ℕ → Bool
is_pair kinds b = nat_le 2 (length b) && nat_lt (key b) (length kinds) && fits (type_under kinds b) (drop 2 b)

-- how many bytes it takes
unfoldable pub pair_size : List ℕ → List ℕ → ℕ
pair_size kinds b = 2 + size_in (type_under kinds b) (drop 2 b)

-- what it says
unfoldable pub property_in : List ℕ → List ℕ → Property
property_in kinds b = record { column = key b; kind = type_under kinds b; content = value_in (type_under kinds b) (drop 2 b) }

-- the pairs from the front on, at most so many of them
abbrev pub properties_within : ℕ → List ℕ → List ℕ → List Property
properties_within zero kinds b = []
properties_within (suc most) kinds b = if is_pair kinds b then property_in kinds b ∷ properties_within most kinds (drop (pair_size kinds b) b) else []

-- all of them: there are no more pairs than bytes
unfoldable pub properties_in : List ℕ → List ℕ → List Property
properties_in kinds b = properties_within (length b) kinds b

-- a key stands here: at the front, or right behind a whole pair
pub data IsKeyPlace (kinds b : List ℕ) : ℕ → Type 0 where
  front : IsKeyPlace kinds b 0
  behind : {at : ℕ} → IsKeyPlace kinds b at → is_pair kinds (drop at b) ≡ true → IsKeyPlace kinds b (at + pair_size kinds (drop at b))

-- what the pair breaks whose key stands here: the bytes end in the key or in the value, or the key names no column
pub data BreaksPair (kinds b : List ℕ) (at : ℕ) : Rule → Type 0 where
  cut_key : length b < at + 2 → BreaksPair kinds b at PropEnd
  no_column : at + 2 ≤ length b → length kinds ≤ key (drop at b) → BreaksPair kinds b at PropColumn
  cut_value : at + 2 ≤ length b → key (drop at b) < length kinds → fits (type_under kinds (drop at b)) (drop (at + 2) b) ≡ false → BreaksPair kinds b at PropEnd

-- rule r is broken at place q of these bytes, by the pair whose key stands there
pub record BreaksProperties (kinds b : List ℕ) (q : ℕ) (r : Rule) : Type 0 where
  pub keyed : IsKeyPlace kinds b q
  pub early : q < length b
  pub broken : BreaksPair kinds b q r
