-- What a query writes of a file: one of three texts of the features that it finds.
use Rattle.std.specs.Prelude.{ℕ, ◌<◌, List, [], ◌∷◌, ◌++◌, length, codes, Option, None, Some}
use Rattle.std.specs.List.{flat_map}
use Rattle.hex.specs.Hex.{encode_lower}
use Rattle.byteorder.specs.Endian.{little_bytes}
use Rattle.order_keys.specs.declared.bounds.Bounds.{Bounds}
use Rattle.flat_builder.specs.Laying.{laid}
use Rattle.header_tables.specs.Laying.{header_table}
use Rattle.fgb_schema.specs.Headers.{Header}
use Rattle.fgb_schema.specs.Features.{feature_of}
use Rattle.fgb_schema.specs.Shapes.{Shape}
use Rattle.fgb_file.specs.File.{magic}
use Rattle.text_query.specs.Spelling.{spelling}
use Rattle.found_features.specs.Entries.{Entry, found}
use Rattle.text_query.specs.Lines.{line}
use Rattle.text_query.specs.declared.output.Output.{Output}
use Rattle.text_query.specs.declared.output.Output.TheVariants.{Lines, Fgb, Wkb}

-- the size prefix of a feature, and its buffer unchanged
abbrev pub copy : Entry → List ℕ
copy e = little_bytes 4 (length e.buffer) ++ e.buffer

-- the digits of some bytes, or `none` where there are none
abbrev pub digits_text : Option (List ℕ) → List ℕ
digits_text None = codes "none"
digits_text (Some bytes) = encode_lower bytes

-- the digits of a shape's WKB, or `none` where there is no shape or it has no WKB
unfoldable pub hex_text : Option Shape → List ℕ
hex_text None = codes "none"
hex_text (Some seen) = digits_text (spelling seen)

-- them, and a line feed
abbrev pub hex_line : Option Shape → List ℕ
hex_line seen = hex_text seen ++ 10 ∷ []

-- what is written of one feature
abbrev pub piece : Output → Header → Entry → List ℕ
piece Lines h e = line e
piece Fgb h e = copy e
piece Wkb h e = hex_line (feature_of h e.buffer).shape

-- the buffer of the header of the found features, the number of which is not said, and which have no index
unfoldable pub found_head : Header → List ℕ
found_head h = laid (header_table (record h { features_count = 0; node_size = 0 }))

-- what is written in front of all features: of a file, its start and its header
abbrev pub front : Output → Header → List ℕ
front Lines h = []
front Fgb h = magic ++ 1 ∷ little_bytes 4 (length (found_head h)) ++ found_head h
front Wkb h = []

-- the text of found features
unfoldable pub text : Output → Header → List Entry → List ℕ
text output h entries = front output h ++ flat_map (piece output h) entries

-- that of the found ones among these features
abbrev pub answer : Output → Header → List Bounds → List (List ℕ) → List ℕ
answer output h query pieces = text output h (found h query pieces)

-- the header cannot be written: its buffer would be larger than the format lets it be
abbrev pub IsTooWide : Output → Header → Type 0
IsTooWide Lines h = ⊥
IsTooWide Fgb h = 10485760 < length (found_head h)
IsTooWide Wkb h = ⊥
