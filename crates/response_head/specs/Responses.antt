-- The head of a response (RFC 9112, sections 2 to 5), and what is looked at in it.
use Rattle.std.specs.Prelude.{◌≤◌, ℕ, nat_eq, IsTrue, List, [], length, map, Option}
use Rattle.std.specs.List.{ends_with}
use Rattle.httparse.specs.Grammar.{ResponseHead, ReadsResponse, status_code}
use Rattle.httparse.specs.Spans.{name_and_value}
use Rattle.http1.specs.Fields.{Header, values_named}
use Rattle.request_head.specs.Requests.{empty_line, only}

-- the bytes are this head, whole, which ends in an empty line and has at most 32 fields
pub record IsResponse (bytes : List ℕ) (head : ResponseHead) : Type 0 where
  pub ended : IsTrue (ends_with nat_eq bytes empty_line)
  pub reads : ReadsResponse bytes head []
  pub few : length head.fields ≤ 32

-- what is looked at in a response; a field is a name and a value
pub record ResponseParts : Type 0 where
  pub status : ℕ
  pub fields : List Header

abbrev pub parts_of : ResponseHead → ResponseParts
parts_of head = record { status = status_code head; fields = map name_and_value head.fields }

-- the value of the one field of this name
abbrev pub only_value : List ℕ → ResponseParts → Option (List ℕ)
only_value name response = only (values_named name response.fields)
