-- What holds of the features of a file of bytes.
use Rattle.std.proofs.Common.{◌≡◌, ℕ, ◌^◌, ◌<◌, ◌≤◌, true, List, length, take, Option, refl, subst, arith}
use Rattle.std.specs.List.{AllByRecursion, concat}
use Rattle.level_bounds.specs.Levels.{Shape}
use Rattle.node_items.specs.declared.item.NodeItem.{NodeItem}
use Rattle.order_keys.specs.Boxes.{is_box}
use Rattle.tree_writer.specs.Packed.{IsStorable}
use Rattle.tree_writer.proofs.Slices.{all_slice}
use Rattle.fgb_schema.specs.Headers.{Header}
use Rattle.fgb_schema.specs.Features.{feature_at}
use Rattle.fgb_file.specs.File.{IsFeature, IsFile, box_of, first_place, header_in}
use Rattle.packed_file.specs.Packing.{leaves_from, packed_header}
use Rattle.packed_file.proofs.Alls.{all_back, all_both, all_concat, all_weaker}
use Rattle.packed_file.proofs.Numbers.{AreBytes}
use Rattle.packed_file.proofs.Leaves.{leaf_of, leaves_each}
use Rattle.packed_file.proofs.OwnBoxes.{own_box_stored}
use Rattle.packed_file.proofs.Points.{IsStoredBox}

-- each has a box
pub pieces_boxes : (image : List ℕ) (index : Option Shape) (pieces : List (List ℕ)) → AreBytes image → IsFile image index pieces → AllByRecursion (λ piece. IsStoredBox (box_of (header_in image) piece)) pieces
pieces_boxes image index pieces bytes file =
    let features : AreBytes (concat pieces) = all_back (λ x. x < 2 ^ 8) (take (first_place image index) image) (concat pieces) (subst AreBytes file.whole bytes) in
    all_both AreBytes (IsFeature (header_in image)) (λ piece. IsStoredBox (box_of (header_in image) piece)) pieces
    (λ piece small is. own_box_stored (header_in image) _ (all_slice (λ x. x < 2 ^ 8) piece 4 (length piece) small) is.clean)
    (all_concat (λ x. x < 2 ^ 8) pieces features) file.each

-- neither the number of features nor the node size of a header says what features are under it
pub same_features : (header : Header) (features node_size : ℕ) (pieces : List (List ℕ)) → AllByRecursion (IsFeature header) pieces → AllByRecursion (IsFeature (packed_header header features node_size)) pieces
same_features header features node_size pieces each =
    all_weaker (IsFeature header) (IsFeature (packed_header header features node_size)) pieces (λ piece is. record { framed = is.framed; clean = is.clean }) each

pub same_box_of : (header : Header) (features node_size : ℕ) (piece : List ℕ) → box_of (packed_header header features node_size) piece ≡ box_of header piece
unfolding feature_at
same_box_of header features node_size piece = refl

-- the leaves over features that have boxes
module _ (header : Header) (pieces : List (List ℕ)) (boxes : AllByRecursion (λ piece. IsStoredBox (box_of header piece)) pieces) (small : length (concat pieces) ≤ 2 ^ 48) where
  abbrev Boxed : List ℕ → Type 0
  Boxed piece = IsStoredBox (box_of header piece)

  each_leaf : (P : NodeItem → Type 0) → ((piece : List ℕ) → Boxed piece → (at : ℕ) → at ≤ 2 ^ 48 → P (leaf_of header piece at)) → AllByRecursion P (leaves_from header 0 pieces)
  each_leaf P each = leaves_each header P (2 ^ 48) pieces 0 (omega (arith, small)) (all_weaker Boxed (λ piece. (at : ℕ) → at ≤ 2 ^ 48 → P (leaf_of header piece at)) pieces each boxes)

  pub leaves_fit : AllByRecursion IsStorable (leaves_from header 0 pieces)
  leaves_fit = each_leaf IsStorable (λ piece is at within. record {
    min_x = is.patterns.min_x;
    min_y = is.patterns.min_y;
    max_x = is.patterns.max_x;
    max_y = is.patterns.max_y;
    offset = omega (arith, within);
  })

  pub leaves_boxed : AllByRecursion (λ leaf. is_box leaf.bounds ≡ true) (leaves_from header 0 pieces)
  leaves_boxed = each_leaf (λ leaf. is_box leaf.bounds ≡ true) (λ piece is at within. is.box)
