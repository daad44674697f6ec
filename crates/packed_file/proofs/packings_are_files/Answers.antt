use Rattle.std.proofs.Common.{◌∙◌, ℕ, ◌^◌, ◌<◌, ◌≤◌, List, Option, ap, length}
use Rattle.level_bounds.specs.Levels.{Shape}
use Rattle.fgb_file.specs.File.{IsFile, header_in}
use Rattle.feature_order.specs.Order.{IsOrder}
use Rattle.packed_file.specs.Packing.{IsTooLarge, IsTreeOver, boxes_of, in_order, packed_header}
use Rattle.packed_file.proofs.Files.{IsPacked, packed_header_shown, packed_is_file}
use Rattle.packed_file.proofs.Lengths.{packed_file_long}
use Rattle.packed_file.proofs.Numbers.{AreBytes}
use Rattle.packed_file.proofs.Ordered.{ordered_count, ordered_same}
use Rattle.packed_file.proofs.Packings.{file_writable, is_packed}
use Rattle.packed_file.proofs.Pieces.{pieces_boxes}
use Rattle.packed_file.proofs.Same.{packing_same}
use Rattle.packed_file.proofs.packings_are_files.Goals as goal
use Rattle.packed_file.proofs.packings_are_files.Goals.{After-laid_headers_read_back}

module _ (c : After-laid_headers_read_back) (image : List ℕ) (index tree : Option Shape) (pieces : List (List ℕ)) (order : List ℕ) (node_size : ℕ) where
  packing : AreBytes image → IsFile image index pieces → 2 ≤ node_size → node_size < 2 ^ 16 → IsOrder (boxes_of (header_in image) pieces) order → IsTreeOver (length pieces) node_size tree
      → (IsTooLarge (header_in image) pieces node_size → ⊥) → IsPacked (header_in image) node_size tree (in_order pieces order)
  packing bytes file wide narrow is over fits =
      let told = packed_header (header_in image) (length (in_order pieces order)) node_size in
      is_packed (header_in image) pieces node_size tree over fits (in_order pieces order) (ordered_same (header_in image) pieces order is)
      (file_writable image index pieces bytes file) file.each (pieces_boxes image index pieces bytes file) wide narrow
      (c.laid_headers_read_back.ensures.clean told) (c.laid_headers_read_back.ensures.shown told)

pub returns-clause-file : goal.returns-clause-file
returns-clause-file c = λ image index tree pieces order node_size bytes file wide narrow is over fits.
    packed_is_file (header_in image) node_size (in_order pieces order) tree
    (packing (goal.at.returns-clause-file c).After-laid_headers_read_back image index tree pieces order node_size bytes file wide narrow is over fits)

pub returns-clause-header : goal.returns-clause-header
returns-clause-header c = λ image index tree pieces order node_size bytes file wide narrow is over fits.
    packed_header_shown (header_in image) node_size (in_order pieces order) tree
    (packing (goal.at.returns-clause-header c).After-laid_headers_read_back image index tree pieces order node_size bytes file wide narrow is over fits)
    ∙ ap (λ n. packed_header (header_in image) n node_size) (ordered_count pieces (in_order pieces order) (ordered_same (header_in image) pieces order is))

pub returns-clause-same : goal.returns-clause-same
returns-clause-same c = λ header pieces order is. ordered_same header pieces order is

pub returns-clause-long : goal.returns-clause-long
returns-clause-long c = λ header tree pieces order node_size is over. packed_file_long header tree pieces (in_order pieces order) node_size (ordered_same header pieces order is)

pub returns-clause-one : goal.returns-clause-one
returns-clause-one c = λ image index pieces node_size a b bytes file p q.
    packing_same c.orders_are_one.ensures.one c.shapes_are_one.ensures (header_in image) pieces node_size a b (pieces_boxes image index pieces bytes file) p q
