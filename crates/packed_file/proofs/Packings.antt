-- What is known of a packing of a file that breaks no rule, unless it is too large.
use Rattle.std.proofs.Common.{◌≡◌, ◌≢◌, inl, inr, ℕ, ◌^◌, ◌<◌, ◌≤◌, List, length, Option, sym, subst, arith}
use Rattle.std.specs.Prelude.{IsPermutation}
use Rattle.std.specs.List.{AllByRecursion}
use Rattle.std.proofs.lemmas.Bool.{cases_lt}
use Rattle.flat_layout.specs.Promises.{IsClean}
use Rattle.level_bounds.specs.Levels.{Shape}
use Rattle.flat_builder.specs.Laying.{laid}
use Rattle.fgb_schema.specs.Headers.{Header, header_of}
use Rattle.fgb_schema.specs.Paths.{header_root}
use Rattle.fgb_schema.specs.Weights.{BreaksBuffer}
use Rattle.header_tables.specs.Laying.{header_table}
use Rattle.header_tables.specs.Records.{IsRecord}
use Rattle.tree_writer.proofs.Slices.{all_slice}
use Rattle.fgb_file.specs.File.{IsFeature, IsFile, box_of, header_end, header_in}
use Rattle.fgb_file.proofs.Walk.{framed_all, pieces_long}
use Rattle.packed_file.specs.Packing.{IsTooLarge, IsTreeOver, large_file, large_header, header_bytes, packed_header, packed_size}
use Rattle.packed_file.proofs.Files.{IsPacked}
use Rattle.packed_file.proofs.Lengths.{packed_file_long}
use Rattle.packed_file.proofs.Numbers.{AreBytes}
use Rattle.packed_file.proofs.Ordered.{ordered_all, ordered_count}
use Rattle.packed_file.proofs.Points.{IsStoredBox}
use Rattle.packed_file.proofs.Records.{shown_writable}

-- another number of features and another node size
still_writable : (header : Header) (features node_size : ℕ) → IsRecord header → features < 2 ^ 64 → node_size ≢ 1 → node_size < 2 ^ 16 → IsRecord (packed_header header features node_size)
still_writable header features node_size is count wide size = record {
  kind = is.kind;
  wide = wide;
  few = is.few;
  columns = is.columns;
  crs = is.crs;
  envelope = is.envelope;
  count = count;
  size = size;
  name = is.name;
  title = is.title;
  description = is.description;
  metadata = is.metadata;
}

module _ (header : Header) (pieces : List (List ℕ)) (node_size : ℕ) (index : Option Shape) (over : IsTreeOver (length pieces) node_size index) (fits : IsTooLarge header pieces node_size → ⊥) where
  small_header : length (header_bytes header (length pieces) node_size) ≤ 10485760
  small_header = elim (cases_lt 10485760 (length (header_bytes header (length pieces) node_size))) [ inl large ↦ absurd (fits (large_header large)) | inr small ↦ small ]

  small_file : packed_size header pieces node_size index ≤ 2 ^ 48
  small_file = elim (cases_lt (2 ^ 48) (packed_size header pieces node_size index)) [ inl large ↦ absurd (fits (large_file over large)) | inr small ↦ small ]

  module _ (ordered : List (List ℕ)) (same : IsPermutation pieces ordered) where
    abbrev told : Header
    told = packed_header header (length ordered) node_size

    count : length ordered ≡ length pieces
    count = ordered_count pieces ordered same

    small : length (laid (header_table told)) ≤ 10485760
    small = subst (λ n. length (header_bytes header n node_size) ≤ 10485760) (sym count) small_header

    -- laid: what is laid for a header that can be written
    pub is_packed : IsRecord header → AllByRecursion (IsFeature header) pieces → AllByRecursion (λ piece. IsStoredBox (box_of header piece)) pieces → 2 ≤ node_size → node_size < 2 ^ 16
        → (IsRecord told → length (laid (header_table told)) < 2 ^ 31 → IsClean (BreaksBuffer (laid (header_table told)) header_root))
        → (IsRecord told → length (laid (header_table told)) < 2 ^ 31 → header_of (laid (header_table told)) ≡ told)
        → IsPacked header node_size index ordered
    is_packed is each boxes wide narrow clean shown =
        let few : length ordered < 2 ^ 64 = omega (arith, count, small_file, pieces_long pieces (framed_all header pieces each)) in
        let writable = still_writable header (length ordered) node_size is few (omega arith) narrow in
        let room : length (laid (header_table told)) < 2 ^ 31 = omega (arith, small) in
        record {
          wide = wide;
          over = subst (λ n. IsTreeOver n node_size index) (sym count) over;
          small = small;
          clean = clean writable room;
          shown = shown writable room;
          within = omega (arith, small_file, packed_file_long header index pieces ordered node_size same);
          each = ordered_all pieces ordered same (IsFeature header) each;
          boxes = ordered_all pieces ordered same (λ piece. IsStoredBox (box_of header piece)) boxes;
        }

-- the header of a file of bytes can be written
pub file_writable : (image : List ℕ) (index : Option Shape) (pieces : List (List ℕ)) → AreBytes image → IsFile image index pieces → IsRecord (header_in image)
file_writable image index pieces bytes file = shown_writable _ (all_slice (λ x. x < 2 ^ 8) image 12 (header_end image) bytes) file.opened.header.clean
