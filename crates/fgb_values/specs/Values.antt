-- What the bytes of a property's value mean. `kind` is the number of its column's type (FlatGeobuf,
-- header.fbs, ColumnType), and `b` the bytes from the value's first on.
use Rattle.std.specs.Prelude.{◌≡◌, ℕ, ℤ, pos, ◌+◌, Bool, ◌&&◌, ◌||◌, ◌==◌, nat_lt, nat_le, if◌then◌else◌, List, length, slice_range}
use Rattle.byteorder.specs.Endian.{twos_complement}
use Rattle.flat_layout.specs.Layout.{number_at}
use Rattle.fgb_values.specs.declared.Value.{Value}
use Rattle.fgb_values.specs.declared.Value.TheVariants.{Byte, UByte, Bool as truth, Short, UShort, Int, UInt, Long, ULong, Float, Double, Str, Json, DateTime, Binary}

-- what a value says: a whole number, yes or no, the pattern of a float, or bytes
pub data Content : Type 0 where
  Whole : ℤ → Content
  Truth : Bool → Content
  Pattern : ℕ → Content
  Bytes : List ℕ → Content

-- String, Json, DateTime and Binary have a length in front
unfoldable pub has_length : ℕ → Bool
has_length kind = nat_le 11 kind

-- Byte, Short, Int and Long
unfoldable pub is_signed : ℕ → Bool
is_signed kind = (kind == 0) || (kind == 3) || (kind == 5) || (kind == 7)

-- the bytes of the number that stands in front: the value itself, or its length
unfoldable pub width : ℕ → ℕ
width kind =
    if nat_le kind 2 then 1
    else if nat_le kind 4 then 2
    else if nat_le kind 6 || (kind == 9) || has_length kind then 4
    else 8

-- that number
unfoldable pub front : ℕ → List ℕ → ℕ
front kind b = number_at (width kind) b 0

-- how many bytes the value takes, with those of its length
unfoldable pub size_in : ℕ → List ℕ → ℕ
size_in kind b = if has_length kind then width kind + front kind b else width kind

-- the bytes hold the number in front, and the value whole
unfoldable pub fits : ℕ → List ℕ → Bool
fits kind b = nat_le (width kind) (length b) && nat_le (size_in kind b) (length b)

-- what the value says
unfoldable pub value_in : ℕ → List ℕ → Content
value_in kind b =
    if has_length kind then Bytes (slice_range b (width kind) (size_in kind b))
    else if kind == 2 then Truth (nat_lt 0 (front kind b))
    else if nat_le 9 kind then Pattern (front kind b)
    else if is_signed kind then Whole (twos_complement (width kind) (front kind b))
    else Whole (pos (front kind b))

-- the number of a value's type
abbrev pub type_of : Value → ℕ
type_of (Byte z) = 0
type_of (UByte n) = 1
type_of (truth y) = 2
type_of (Short z) = 3
type_of (UShort n) = 4
type_of (Int z) = 5
type_of (UInt n) = 6
type_of (Long z) = 7
type_of (ULong n) = 8
type_of (Float n) = 9
type_of (Double n) = 10
type_of (Str text) = 11
type_of (Json text) = 12
type_of (DateTime text) = 13
type_of (Binary bytes) = 14

-- what a value says
abbrev pub content_of : Value → Content
content_of (Byte z) = Whole z
content_of (UByte n) = Whole (pos n)
content_of (truth y) = Truth y
content_of (Short z) = Whole z
content_of (UShort n) = Whole (pos n)
content_of (Int z) = Whole z
content_of (UInt n) = Whole (pos n)
content_of (Long z) = Whole z
content_of (ULong n) = Whole (pos n)
content_of (Float n) = Pattern n
content_of (Double n) = Pattern n
content_of (Str text) = Bytes text.now
content_of (Json text) = Bytes text.now
content_of (DateTime text) = Bytes text.now
content_of (Binary bytes) = Bytes bytes.now

-- the value has this type, and says what stands in front of the bytes
abbrev pub Shows : ℕ → List ℕ → Value → Type 0
Shows kind b v = (type_of v ≡ kind) × (content_of v ≡ value_in kind b)
