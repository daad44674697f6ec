-- A request whose parts were found in the bytes of its head.
use Rattle.std.specs.Prelude.{ℕ, All, List, length, map}
use Rattle.httparse.specs.declared.spans.HeaderSpan.{HeaderSpan}
use Rattle.httparse.specs.declared.spans.RequestSpans.{RequestSpans}
use Rattle.httparse.specs.Spans.{IsHeaderWithin, IsWithin, header_bytes, span_bytes}
use Rattle.http1.specs.Fields.{Header}
use Rattle.request_head.specs.Requests.{RequestParts}

-- the names and values that the spans cover
abbrev pub fields_at : List ℕ → List HeaderSpan → List Header
fields_at head fields = map (header_bytes head) fields

-- what the spans cover
abbrev pub parts_at : List ℕ → RequestSpans → List HeaderSpan → RequestParts
parts_at head spans fields = record {
  method = span_bytes head spans.method;
  target = span_bytes head spans.path;
  minor = spans.version;
  fields = fields_at head fields;
}

-- the spans lie in the head
pub record LieIn (head : List ℕ) (spans : RequestSpans) (fields : List HeaderSpan) : Type 0 where
  pub method : IsWithin (length head) spans.method
  pub path : IsWithin (length head) spans.path
  pub fields_fit : All (IsHeaderWithin (length head)) fields
