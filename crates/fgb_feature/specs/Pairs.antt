-- A pair of a column's number and a value, as a property.
use Rattle.std.specs.Prelude.{◌≡◌, ℕ, ◌≤◌, true, List, length}
use Rattle.fgb_schema.specs.Properties.{Property, is_pair, pair_size, property_in}
use Rattle.fgb_values.specs.declared.Value.{Value}
use Rattle.fgb_values.specs.Values.{type_of, content_of}

abbrev pub property_of : ℕ × Value → Property
property_of p = record { column = p.0; kind = type_of p.1; content = content_of p.1 }

-- a column's number, a value and a size are those of the whole pair at the front of the bytes
pub record ShowsPair (kinds b : List ℕ) (pair : ℕ × Value × ℕ) : Type 0 where
  pub whole : is_pair kinds b ≡ true
  pub property : property_of (pair.0, pair.1) ≡ property_in kinds b
  pub size : pair.2 ≡ pair_size kinds b
  pub within : pair.2 ≤ length b
