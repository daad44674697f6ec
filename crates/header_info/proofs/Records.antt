-- What is owned can be written.
use Rattle.std.proofs.Common.{Option, Some, None, subst}
use Rattle.std.specs.Prelude.{IsUtf8, option_map, string_bytes}
use Rattle.std.specs.Option.{ForSome}
use Rattle.std.specs.declared.string.String.{String}
use Rattle.std.proofs.lemmas.Option.{same_Some, none-some}
use Rattle.std.proofs.lemmas.Str.{IsUtf8-string_bytes}

-- a text that is owned
pub owned_utf8 : {Z : Type 0} (owned : Option (String Z)) → ForSome (option_map string_bytes owned) IsUtf8
owned_utf8 None = λ bytes same. absurd (none-some bytes same)
owned_utf8 (Some text) = λ bytes same. subst IsUtf8 (same_Some (string_bytes text) bytes same) (IsUtf8-string_bytes text)
