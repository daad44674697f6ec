-- The header of a file without an index can be written where the given one can.
use Rattle.std.proofs.Common.{◌≡◌, ◌≢◌, ℕ, ◌^◌, ◌≤◌, List, length, refl, arith}
use Rattle.std.specs.List.{AllByRecursion}
use Rattle.fgb_schema.specs.Headers.{Header}
use Rattle.header_tables.specs.Records.{IsRecord}
use Rattle.fgb_file.specs.File.{IsFeature}
use Rattle.fgb_file.proofs.Walk.{framed_all, pieces_long}
use Rattle.plain_file.specs.Plain.{plain_file, plain_header}
use Rattle.plain_file.proofs.Plain.{plain_file_long}

none_is_not_one : (n : ℕ) → n ≡ 0 → n ≢ 1
none_is_not_one n none one = absurd (omega arith)

pub still_writable : (header : Header) (pieces : List (List ℕ)) → IsRecord header → AllByRecursion (IsFeature header) pieces → length (plain_file header pieces) ≤ 2 ^ 48
    → IsRecord (plain_header header pieces)
still_writable header pieces is each within = record {
  kind = is.kind;
  wide = none_is_not_one 0 refl;
  few = is.few;
  columns = is.columns;
  crs = is.crs;
  envelope = is.envelope;
  count = omega (arith, within, plain_file_long header pieces, pieces_long pieces (framed_all header pieces each));
  size = omega arith;
  name = is.name;
  title = is.title;
  description = is.description;
  metadata = is.metadata;
}
