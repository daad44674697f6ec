-- The bytes of a short text.
use Rattle.std.specs.Prelude.{ℕ, List, take}
use Rattle.range_text.specs.declared.short_text.ShortText.{ShortText}

abbrev pub text_of : ShortText → List ℕ
text_of text = take text.len text.bytes
