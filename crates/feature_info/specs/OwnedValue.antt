-- The value that an owned one shows: its type, and what it says.
use Rattle.std.specs.Prelude.{ℕ, pos}
use Rattle.fgb_values.specs.Values.{Content, Whole, Truth, Pattern, Bytes}
use Rattle.feature_info.specs.declared.value.ValueInfo.{ValueInfo}
use Rattle.feature_info.specs.declared.value.ValueInfo.TheVariants.{Byte, UByte, Bool as truth, Short, UShort, Int, UInt, Long, ULong, Float, Double, Str, Json, DateTime, Binary}

abbrev pub owned_type : ValueInfo → ℕ
owned_type (Byte z) = 0
owned_type (UByte n) = 1
owned_type (truth y) = 2
owned_type (Short z) = 3
owned_type (UShort n) = 4
owned_type (Int z) = 5
owned_type (UInt n) = 6
owned_type (Long z) = 7
owned_type (ULong n) = 8
owned_type (Float n) = 9
owned_type (Double n) = 10
owned_type (Str text) = 11
owned_type (Json text) = 12
owned_type (DateTime text) = 13
owned_type (Binary bytes) = 14

abbrev pub owned_content : ValueInfo → Content
owned_content (Byte z) = Whole z
owned_content (UByte n) = Whole (pos n)
owned_content (truth y) = Truth y
owned_content (Short z) = Whole z
owned_content (UShort n) = Whole (pos n)
owned_content (Int z) = Whole z
owned_content (UInt n) = Whole (pos n)
owned_content (Long z) = Whole z
owned_content (ULong n) = Whole (pos n)
owned_content (Float n) = Pattern n
owned_content (Double n) = Pattern n
owned_content (Str text) = Bytes text.items
owned_content (Json text) = Bytes text.items
owned_content (DateTime text) = Bytes text.items
owned_content (Binary bytes) = Bytes bytes.items
