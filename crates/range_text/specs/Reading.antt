-- How the values of fields are taken apart.
use Rattle.std.specs.Prelude.{◌==◌, ◌&&◌, ◌+◌, ℕ, nat_le, nat_lt, Bool, if◌then◌else◌, List, length, take, drop, codes, map, Option, Some, None, position}
use Rattle.std.specs.Option.{option_map, option_and_then}
use Rattle.std.specs.Str.{bytes_eq}
use Rattle.std.specs.Str.Parse.{digits_value}
use Rattle.range_text.specs.declared.reading.Asked.{Asked}
use Rattle.range_text.specs.declared.reading.Asked.TheVariants.{Between, FromOn, AtEnd}
use Rattle.range_text.specs.declared.answers.ContentRange.{ContentRange}
use Rattle.range_text.specs.declared.answers.ContentRange.TheVariants.{Part, Unsatisfied}
use Rattle.range_text.specs.Ranges.{Range, between, from_on, at_end, is_number, lower}

-- the number that these digits spell
abbrev pub number_of : List ℕ → Option ℕ
number_of digits = if is_number digits then Some (digits_value 10 digits) else None

-- what stands before the first such byte, and what behind it
abbrev pub cut : ℕ → List ℕ → Option (List ℕ × List ℕ)
cut byte bytes = option_map (λ at. (take at bytes, drop (at + 1) bytes)) (position (λ c. c == byte) bytes)

-- the word `bytes` in any case of letters
abbrev pub is_unit : List ℕ → Bool
is_unit word = bytes_eq (map lower word) (codes "bytes")

-- what stands behind that word and this byte
abbrev pub behind : ℕ → List ℕ → Option (List ℕ)
behind byte value = option_and_then (λ parts. if is_unit (parts.0) then Some (parts.1) else None) (cut byte value)

-- what stands behind the word and its byte, cut at another byte
abbrev pub parts_of : ℕ → ℕ → List ℕ → Option (List ℕ × List ℕ)
parts_of front middle value = option_and_then (cut middle) (behind front value)

-- what is asked for by the texts before and behind the `-`
abbrev pub asked_between : List ℕ → List ℕ → Option Asked
asked_between first last =
    if length first == 0 then option_map AtEnd (number_of last)
    else option_and_then (λ a. if length last == 0 then Some (FromOn a) else option_map (Between a) (number_of last)) (number_of first)

-- what the value of a Range field asks for
abbrev pub asked_of : List ℕ → Option Asked
asked_of value = option_and_then (λ parts. asked_between (parts.0) (parts.1)) (parts_of 61 45 value)

-- the same, as a range that a value spells
abbrev pub range_of : Asked → Range
range_of (Between a b) = between a b
range_of (FromOn a) = from_on a
range_of (AtEnd k) = at_end k

-- the part of a file of this size, if there is one
abbrev pub part_within : ℕ → ℕ → ℕ → Option ContentRange
part_within n a b = if nat_le a b && nat_lt b n then Some (Part a b n) else None

-- what the text before the `/` tells of a file of this size
abbrev pub told_of : List ℕ → ℕ → Option ContentRange
told_of part n =
    if bytes_eq part (codes "*") then Some (Unsatisfied n)
    else option_and_then (λ parts. option_and_then (λ a. option_and_then (part_within n a) (number_of (parts.1))) (number_of (parts.0))) (cut 45 part)

-- what the value of a Content-Range field tells
abbrev pub content_of : List ℕ → Option ContentRange
content_of value =
    option_and_then (λ parts. option_and_then (told_of (parts.0)) (number_of (parts.1))) (parts_of 32 47 value)
