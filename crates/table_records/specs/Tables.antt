-- Tables of comma-separated values (RFC 4180, section 2).
use Rattle.std.specs.Prelude.{◌≡◌, ℕ, Bool, true, false, List, [], ◌∷◌, flat_map}
use Rattle.csv.specs.Reading.{default_config, records, strip_bom}
use Rattle.csv.specs.Writing.{default_writer, row_text}

-- the records of these bytes: commas between fields, quotes around them, and a byte order mark in front dropped
unfoldable pub records_in : List ℕ → List (List (List ℕ))
records_in bytes = records default_config (strip_bom bytes)

-- the text of one record, which ends with a line feed
unfoldable pub record_text : List (List ℕ) → List ℕ
record_text fields = row_text default_writer fields

-- the text of a table
abbrev pub table_text : List (List (List ℕ)) → List ℕ
table_text rows = flat_map record_text rows

-- the first field of all
abbrev pub first_field : List (List (List ℕ)) → List ℕ
first_field [] = []
first_field ([] ∷ rows) = []
first_field ((field ∷ fields) ∷ rows) = field

-- of the records that were left the first was given, or there was none
abbrev pub Gives : Bool → List (List ℕ) → List (List (List ℕ)) → List (List (List ℕ)) → Type 0
Gives true row old new = old ≡ row ∷ new
Gives false row old new = (old ≡ []) × (new ≡ [])
