-- How long a packing is.
use Rattle.std.proofs.Common.{◌≡◌, ℕ, ◌+◌, ◌*◌, List, ◌++◌, length, Option, Some, None, refl, ap, arith, length-append}
use Rattle.std.specs.Prelude.{IsPermutation}
use Rattle.std.specs.List.{concat}
use Rattle.level_bounds.specs.Levels.{Shape}
use Rattle.node_items.specs.declared.item.NodeItem.{NodeItem}
use Rattle.tree_writer.proofs.Sound.{packed_long}
use Rattle.fgb_schema.specs.Headers.{Header}
use Rattle.fgb_file.specs.File.{nodes_of}
use Rattle.packed_file.specs.Packing.{leaves_from, index_bytes, header_bytes, start_bytes, packed_file, packed_size}
use Rattle.packed_file.proofs.Ordered.{ordered_count, ordered_long}

pub index_long : (index : Option Shape) (leaves : List NodeItem) → length (index_bytes index leaves) ≡ 40 * nodes_of index
index_long None leaves = omega arith
index_long (Some t) leaves = packed_long t leaves

-- the start has twelve bytes
pub start_long : (head : List ℕ) → length (start_bytes head) ≡ 12
start_long head = refl

pub parts_long : (start head index features : List ℕ) → length (start ++ head ++ index ++ features) ≡ length start + length head + length index + length features
parts_long start head index features =
    omega (arith, length-append (start ++ head ++ index) features, length-append (start ++ head) index, length-append start head)

pub packed_file_long : (header : Header) (index : Option Shape) (pieces ordered : List (List ℕ)) (node_size : ℕ) → IsPermutation pieces ordered
    → length (packed_file header node_size index ordered) ≡ packed_size header pieces node_size index
unfolding packed_file
packed_file_long header index pieces ordered node_size same =
    let head = header_bytes header (length ordered) node_size in
    let count : length head ≡ length (header_bytes header (length pieces) node_size) = ap (λ n. length (header_bytes header n node_size)) (ordered_count pieces ordered same) in
    omega (
      arith,
      parts_long (start_bytes head) head (index_bytes index (leaves_from header 0 ordered)) (concat ordered),
      start_long head,
      count,
      index_long index (leaves_from header 0 ordered),
      ordered_long pieces ordered same,
    )
