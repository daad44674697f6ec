-- A response whose parts were found in the bytes of its head.
use Rattle.std.specs.Prelude.{ℕ, List}
use Rattle.httparse.specs.declared.spans.HeaderSpan.{HeaderSpan}
use Rattle.httparse.specs.declared.spans.ResponseSpans.{ResponseSpans}
use Rattle.request_head.specs.Read.{fields_at}
use Rattle.response_head.specs.Responses.{ResponseParts}

-- the status, and the names and values that the spans cover
abbrev pub parts_at : List ℕ → ResponseSpans → List HeaderSpan → ResponseParts
parts_at head spans fields = record { status = spans.code; fields = fields_at head fields }
