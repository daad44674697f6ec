-- The texts of byte ranges (RFC 9110, sections 14.1.2, 14.2 and 14.4).
use Rattle.std.specs.Prelude.{◌≡◌, ◌≤◌, ◌<◌, ◌==◌, ◌&&◌, ℕ, ◌+◌, ◌-◌, min, nat_le, nat_lt, Bool, IsTrue, if◌then◌else◌, List, ◌++◌, length, codes, decimal, map}
use Rattle.std.specs.Str.{all_ascii_digits}
use Rattle.std.specs.Str.Parse.{digits_value}
use Rattle.range_text.specs.declared.answers.RangeAnswer.{RangeAnswer}
use Rattle.range_text.specs.declared.answers.RangeAnswer.TheVariants as answer
use Rattle.range_text.specs.declared.answers.ContentRange.{ContentRange}
use Rattle.range_text.specs.declared.answers.ContentRange.TheVariants as content

-- 1 to 18 decimal digits, and the number that they spell
abbrev pub is_number : List ℕ → Bool
is_number digits = nat_le 1 (length digits) && (nat_le (length digits) 18 && all_ascii_digits digits)

pub record SpellsNumber (digits : List ℕ) (number : ℕ) : Type 0 where
  pub form : IsTrue (is_number digits)
  pub value : number ≡ digits_value 10 digits

-- a letter in lower case, and any other byte as it is
abbrev pub lower : ℕ → ℕ
lower c = if nat_le 65 c && nat_le c 90 then c + 32 else c

-- the word `bytes` in any case of letters
abbrev pub IsUnit : List ℕ → Type 0
IsUnit word = map lower word ≡ codes "bytes"

-- what a range asks for: from one place to another, from a place on, or so many bytes at the end
pub data Range : Type 0 where
  between : ℕ → ℕ → Range
  from_on : ℕ → Range
  at_end : ℕ → Range

-- the value of a Range field asks for this
pub data SpellsRange : List ℕ → Range → Type 0 where
  a_to_b : (word first last : List ℕ) (a b : ℕ) → IsUnit word → SpellsNumber first a → SpellsNumber last b
      → SpellsRange (word ++ codes "=" ++ first ++ codes "-" ++ last) (between a b)
  a_on : (word first : List ℕ) (a : ℕ) → IsUnit word → SpellsNumber first a → SpellsRange (word ++ codes "=" ++ first ++ codes "-") (from_on a)
  last_k : (word suffix : List ℕ) (k : ℕ) → IsUnit word → SpellsNumber suffix k → SpellsRange (word ++ codes "=-" ++ suffix) (at_end k)

-- the answer to it, of a file of this size: a part that ends with the file at the latest. A range that ends before it
-- begins is as none, and so is one at the end of an empty file
abbrev pub answer_to : ℕ → Range → RangeAnswer
answer_to size (between a b) =
    if nat_lt b a then answer.Whole else if nat_lt a size then answer.Part a (min b (size - 1)) else answer.Unsatisfied
answer_to size (from_on a) = if nat_lt a size then answer.Part a (size - 1) else answer.Unsatisfied
answer_to size (at_end k) =
    if k == 0 then answer.Unsatisfied else if size == 0 then answer.Whole else answer.Part (size - k) (size - 1)

-- the value of a Content-Range field tells this
pub data SpellsContent : List ℕ → ContentRange → Type 0 where
  a_to_b_of : (word first last whole : List ℕ) (a b n : ℕ) → IsUnit word → SpellsNumber first a → SpellsNumber last b → SpellsNumber whole n
      → a ≤ b → b < n → SpellsContent (word ++ codes " " ++ first ++ codes "-" ++ last ++ codes "/" ++ whole) (content.Part a b n)
  none_of : (word whole : List ℕ) (n : ℕ) → IsUnit word → SpellsNumber whole n
      → SpellsContent (word ++ codes " */" ++ whole) (content.Unsatisfied n)

-- the text of a range from one place to another, and of what a reply tells
abbrev pub range_text : ℕ → ℕ → List ℕ
range_text a b = codes "bytes=" ++ decimal a ++ codes "-" ++ decimal b

abbrev pub content_text : ContentRange → List ℕ
content_text (content.Part a b n) = codes "bytes " ++ decimal a ++ codes "-" ++ decimal b ++ codes "/" ++ decimal n
content_text (content.Unsatisfied n) = codes "bytes */" ++ decimal n

-- numbers that can be told: a part of a file of at most 2^48 bytes
abbrev pub IsTellable : ContentRange → Type 0
IsTellable (content.Part a b n) = (a ≤ b) × ((b < n) × (n ≤ 281474976710656))
IsTellable (content.Unsatisfied n) = n ≤ 281474976710656
