-- The head of a request (RFC 9112, sections 2 to 5), and what its fields say.
use Rattle.std.specs.Prelude.{◌≤◌, ◌==◌, ◌&&◌, ◌||◌, not, ℕ, nat_eq, Bool, IsTrue, List, [], ◌∷◌, length, map, count_by, codes, bytes_eq, Option, Some, None}
use Rattle.std.specs.List.{ends_with, list_all}
use Rattle.httparse.specs.Grammar.{RequestHead, ReadsRequest}
use Rattle.httparse.specs.Spans.{name_and_value}
use Rattle.http1.specs.Fields.{Header, elements_named, has_option, is_named, values_named}

-- the empty line at the end of a head, with the end of the line before it
abbrev pub empty_line : List ℕ
empty_line = codes "\r\n\r\n"

-- the bytes are this head, whole, which ends in an empty line and has at most 32 fields
pub record IsRequest (bytes : List ℕ) (head : RequestHead) : Type 0 where
  pub ended : IsTrue (ends_with nat_eq bytes empty_line)
  pub reads : ReadsRequest bytes head []
  pub few : length head.fields ≤ 32

-- what is looked at in a request; the version is 1.0 or 1.1, and a field is a name and a value
pub record RequestParts : Type 0 where
  pub method : List ℕ
  pub target : List ℕ
  pub minor : ℕ
  pub fields : List Header

abbrev pub parts_of : RequestHead → RequestParts
parts_of head = record { method = head.method; target = head.target; minor = head.minor; fields = map name_and_value head.fields }

-- it names one host where the version is 1.1
abbrev pub has_one_host : RequestParts → Bool
has_one_host request = (request.minor == 0) || (count_by (is_named (codes "host")) request.fields == 1)

-- it has no body: no Transfer-Encoding, and no Content-Length but `0`
abbrev pub allows_no_body : Header → Bool
allows_no_body field =
    not (is_named (codes "transfer-encoding") field) && (not (is_named (codes "content-length") field) || bytes_eq field.1 (codes "0"))

abbrev pub has_no_body : RequestParts → Bool
has_no_body request = list_all allows_no_body request.fields

-- the connection closes after it: version 1.0, or an element `close` of a Connection field
abbrev pub asks_to_close : RequestParts → Bool
asks_to_close request = (request.minor == 0) || has_option (codes "close") (elements_named (codes "connection") request.fields)

-- the one value, where there is exactly one
abbrev pub only : List (List ℕ) → Option (List ℕ)
only [] = None
only (value ∷ []) = Some value
only (value ∷ other ∷ values) = None

-- the value of the one field of this name
abbrev pub only_value : List ℕ → RequestParts → Option (List ℕ)
only_value name request = only (values_named name request.fields)
