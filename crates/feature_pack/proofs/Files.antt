-- A packing of features that break no rule under a header is a file that breaks none.
use Rattle.std.proofs.Common.{◌≡◌, ◌∙◌, ℕ, ◌+◌, ◌*◌, ◌^◌, ◌<◌, ◌≤◌, ◌&&◌, nat_lt, true, false, List, ◌++◌, length, take, get_or, Option, Some, None, refl, ap, sym, subst, zero-add, append_assoc, arith, length-append}
use Rattle.std.specs.List.{AllByRecursion, concat}
use Rattle.std.proofs.lemmas.Bool.Decides.{nat_tests}
use Rattle.std.proofs.lemmas.Int.{ints}
use Rattle.std.proofs.lemmas.List.{take_at}
use Rattle.flat_layout.specs.Promises.{IsClean}
use Rattle.order_keys.specs.declared.bounds.Bounds.{Bounds}
use Rattle.order_keys.specs.Keys.{at_most}
use Rattle.order_keys.specs.Boxes.{is_box, same as same_box}
use Rattle.level_bounds.specs.Levels.{Shape, IsShape, node_count, place}
use Rattle.node_items.specs.declared.item.NodeItem.{NodeItem}
use Rattle.node_items.specs.Faults.{BreaksTree}
use Rattle.node_items.specs.Nodes.{stored}
use Rattle.tree_writer.specs.Packed.{IsStorable, blank, packed}
use Rattle.tree_writer.proofs.Sound.{packed_sound, packed_stored}
use Rattle.tree_writer.proofs.Unders.{level_zero}
use Rattle.fgb_schema.specs.Headers.{Header, has_index, header_of}
use Rattle.fgb_schema.specs.Features.{feature_at}
use Rattle.fgb_schema.specs.Paths.{header_root}
use Rattle.fgb_schema.specs.Weights.{BreaksBuffer}
use Rattle.fgb_file.specs.File.{AreNodes, IsFeature, IsFile, IsHeader, IsIndex, IsTree, LeavesAgree, absent, present, box_of, first_place, header_end, header_in, leaf_in, nodes_of}
use Rattle.fgb_file.proofs.Passing.{agrees_same}
use Rattle.packed_file.specs.Packing.{IsTreeOver, no_index, tree, header_bytes, index_bytes, leaves_from, packed_file, packed_header}
use Rattle.packed_file.proofs.Alls.{all_weaker}
use Rattle.packed_file.proofs.Leaves.{leaf_behind, leaf_of, leaves_count, leaves_each}
use Rattle.packed_file.proofs.Lengths.{index_long}
use Rattle.packed_file.proofs.Points.{IsStoredBox}
use Rattle.plain_file.proofs.Fronts.{end_is, front, header_is, header_sound, made}

both_at_most : (p : ℕ) → at_most p p ≡ true
both_at_most p = grind (arith, ints)

same_itself : (b : Bounds) → same_box b b ≡ true
same_itself b = rw (both_at_most b.min_x.0, both_at_most b.min_y.0, both_at_most b.max_x.0, both_at_most b.max_y.0) refl

both_above : (n m : ℕ) → 0 < n → 0 < m → (nat_lt 0 n && nat_lt 0 m) ≡ true
both_above n m some wide = grind (arith, nat_tests)

-- neither the number of features nor the node size of a header says what features are under it
same_features : (header : Header) (features node_size : ℕ) (pieces : List (List ℕ)) → AllByRecursion (IsFeature header) pieces → AllByRecursion (IsFeature (packed_header header features node_size)) pieces
same_features header features node_size pieces each =
    all_weaker (IsFeature header) (IsFeature (packed_header header features node_size)) pieces (λ piece is. record { framed = is.framed; clean = is.clean }) each

same_box_of : (header : Header) (features node_size : ℕ) (piece : List ℕ) → box_of (packed_header header features node_size) piece ≡ box_of header piece
unfolding feature_at
same_box_of header features node_size piece = refl

-- what is known of a packing whose features stand in this order
pub record IsPacked (header : Header) (node_size : ℕ) (index : Option Shape) (ordered : List (List ℕ)) : Type 0 where
  pub wide : 2 ≤ node_size
  pub over : IsTreeOver (length ordered) node_size index
  pub small : length (header_bytes header (length ordered) node_size) ≤ 10485760
  pub clean : IsClean (BreaksBuffer (header_bytes header (length ordered) node_size) header_root)
  pub shown : header_of (header_bytes header (length ordered) node_size) ≡ packed_header header (length ordered) node_size
  pub within : length (packed_file header node_size index ordered) ≤ 2 ^ 48
  pub each : AllByRecursion (IsFeature header) ordered
  pub boxes : AllByRecursion (λ piece. IsStoredBox (box_of header piece)) ordered

module _ (header : Header) (node_size : ℕ) (index : Option Shape) (ordered : List (List ℕ)) (is : IsPacked header node_size index ordered) where
  abbrev head : List ℕ
  head = header_bytes header (length ordered) node_size

  abbrev between_bytes : List ℕ
  between_bytes = index_bytes index (leaves_from header 0 ordered)

  abbrev image : List ℕ
  image = front head ++ between_bytes ++ concat ordered

  abbrev told : Header
  told = packed_header header (length ordered) node_size

  within : length image ≤ 2 ^ 48
  unfolding packed_file
  within = is.within

  as_made : image ≡ made head (between_bytes ++ concat ordered)
  as_made = append_assoc (front head) between_bytes (concat ordered)

  header_shown : header_in image ≡ told
  header_shown = ap header_in as_made ∙ header_is head (between_bytes ++ concat ordered) is.small told is.shown

  end_shown : header_end image ≡ length (front head)
  end_shown = ap header_end as_made ∙ end_is head (between_bytes ++ concat ordered) is.small

  sound : IsHeader image
  sound = subst IsHeader (sym as_made) (header_sound head (between_bytes ++ concat ordered) is.small is.clean (subst (λ b. length b ≤ 2 ^ 48) as_made within))

  long : length image ≡ length (front head) + 40 * nodes_of index + length (concat ordered)
  long = omega (arith, length-append (front head ++ between_bytes) (concat ordered), length-append (front head) between_bytes, index_long index (leaves_from header 0 ordered))

  short : length (concat ordered) ≤ 2 ^ 48
  short = omega (arith, long, within)

  -- where the first feature stands
  first_is : first_place image index ≡ length (front head ++ between_bytes)
  first_is = place_of index between_bytes (index_long index (leaves_from header 0 ordered))
    where
      place_of : (i : Option Shape) (bytes : List ℕ) → length bytes ≡ 40 * nodes_of i → first_place image i ≡ length (front head ++ bytes)
      place_of None bytes size = omega (arith, end_shown, size, length-append (front head) bytes)
      place_of (Some t) bytes size = omega (arith, end_shown, size, length-append (front head) bytes)

  whole : image ≡ take (first_place image index) image ++ concat ordered
  whole = ap (λ s. s ++ concat ordered) (sym (take_at (front head ++ between_bytes) (concat ordered) (first_place image index) (sym first_is)))

  each : AllByRecursion (IsFeature (header_in image)) ordered
  each = subst (λ h. AllByRecursion (IsFeature h) ordered) (sym header_shown) (same_features header (length ordered) node_size ordered is.each)

  box_shown : (piece : List ℕ) → box_of (header_in image) piece ≡ box_of header piece
  box_shown piece = ap (λ h. box_of h piece) header_shown ∙ same_box_of header (length ordered) node_size piece

  each_leaf : (P : NodeItem → Type 0) → ((piece : List ℕ) → IsStoredBox (box_of header piece) → (at : ℕ) → at ≤ 2 ^ 48 → P (leaf_of header piece at)) → AllByRecursion P (leaves_from header 0 ordered)
  each_leaf P one =
      leaves_each header P (2 ^ 48) ordered 0 (omega (arith, short))
      (all_weaker (λ piece. IsStoredBox (box_of header piece)) (λ piece. (at : ℕ) → at ≤ 2 ^ 48 → P (leaf_of header piece at)) ordered one is.boxes)

  leaves_fit : AllByRecursion IsStorable (leaves_from header 0 ordered)
  leaves_fit = each_leaf IsStorable (λ piece boxed at low. record {
    min_x = boxed.patterns.min_x;
    min_y = boxed.patterns.min_y;
    max_x = boxed.patterns.max_x;
    max_y = boxed.patterns.max_y;
    offset = omega (arith, low);
  })

  leaves_boxed : AllByRecursion (λ leaf. is_box leaf.bounds ≡ true) (leaves_from header 0 ordered)
  leaves_boxed = each_leaf (λ leaf. is_box leaf.bounds ≡ true) (λ piece boxed at low. boxed.box)

-- the index of a packing that has one
module _ (header : Header) (node_size : ℕ) (t : Shape) (ordered : List (List ℕ)) (is : IsPacked header node_size (Some t) ordered)
    (shape : IsShape t) (all : t.leaves ≡ length ordered) (sized : t.node_size ≡ node_size) where
  abbrev tree_leaves : List NodeItem
  tree_leaves = leaves_from header 0 ordered

  abbrev before_tree : List ℕ
  before_tree = front (header_bytes header (length ordered) node_size)

  abbrev tree_image : List ℕ
  tree_image = image header node_size (Some t) ordered is

  tree_place : header_end tree_image ≡ length before_tree
  tree_place = end_shown header node_size (Some t) ordered is

  tree_long : length tree_image ≡ length before_tree + 40 * node_count t + length (concat ordered)
  tree_long = long header node_size (Some t) ordered is

  tree_short : length tree_image ≤ 2 ^ 48
  tree_short = within header node_size (Some t) ordered is

  tree_there : IsTree tree_image t
  tree_there =
      let shown = header_shown header node_size (Some t) ordered is in
      record {
        levels = record {
          shaped = shape;
          leaves = all ∙ ap (λ (h : Header). h.features_count) (sym shown);
          sized = sized ∙ ap (λ (h : Header). h.node_size) (sym shown);
          fits = omega (arith, tree_long, tree_short);
        };
        inside = omega (arith, tree_long, tree_place);
      }

  counted : length tree_leaves ≡ t.leaves
  counted = leaves_count header ordered 0 ∙ sym all

  few : node_count t ≤ 2 ^ 64
  few = omega (arith, tree_long, tree_short)

  fit : AllByRecursion IsStorable tree_leaves
  fit = leaves_fit header node_size (Some t) ordered is

  nodes_sound : AreNodes tree_image (Some t)
  nodes_sound = subst (λ at. IsClean (BreaksTree t (stored tree_image at) at)) (sym tree_place)
      (packed_sound t tree_leaves shape counted few fit (leaves_boxed header node_size (Some t) ordered is) before_tree (concat ordered))

  leaf_there : (k : ℕ) → k < t.leaves → leaf_in tree_image t k ≡ get_or tree_leaves k blank
  unfolding packed
  leaf_there k early =
      ap (λ at. stored tree_image at (place t 0 k)) tree_place
      ∙ packed_stored t tree_leaves shape counted few fit before_tree (concat ordered) 0 k (record { level = omega arith; there = omega (arith, early, counted, level_zero t tree_leaves shape counted) })

  leaves_agree : LeavesAgree tree_image (Some t) ordered
  leaves_agree before piece rest parts early =
      let here : leaf_in tree_image t (length before) ≡ leaf_of header piece (0 + length (concat before)) =
      leaf_there (length before) early ∙ ap (λ ps. get_or (leaves_from header 0 ps) (length before) blank) parts ∙ leaf_behind header before piece rest 0 blank in (
        ap (λ (v : NodeItem). v.offset) here ∙ zero-add (length (concat before)),
        ap (λ (v : NodeItem). same_box v.bounds (box_of (header_in tree_image) piece)) here
            ∙ ap (same_box (box_of header piece)) (box_shown header node_size (Some t) ordered is piece) ∙ same_itself (box_of header piece),
      )

module _ (header : Header) (node_size : ℕ) (ordered : List (List ℕ)) where
  -- what stands between the header and the features
  between : (index : Option Shape) (is : IsPacked header node_size index ordered) → IsTreeOver (length ordered) node_size index → IsIndex (image header node_size index ordered is) index
  between None is (no_index none) =
      let nowhere : has_index (packed_header header (length ordered) node_size) ≡ false = ap (λ n. nat_lt 0 n && nat_lt 0 node_size) none in
      absent (ap has_index (header_shown header node_size None ordered is) ∙ nowhere)
  between (Some t) is (tree shape all sized) =
      present (ap has_index (header_shown header node_size (Some t) ordered is) ∙ both_above (length ordered) node_size (omega (arith, shape.some, all)) (omega (arith, is.wide)))
      (tree_there header node_size t ordered is shape all sized)

  nodes : (index : Option Shape) (is : IsPacked header node_size index ordered) → IsTreeOver (length ordered) node_size index → AreNodes (image header node_size index ordered is) index
  nodes None is over = tt
  nodes (Some t) is (tree shape all sized) = nodes_sound header node_size t ordered is shape all sized

  agree : (index : Option Shape) (is : IsPacked header node_size index ordered) → IsTreeOver (length ordered) node_size index → LeavesAgree (image header node_size index ordered is) index ordered
  agree None is over = λ before piece rest parts. tt
  agree (Some t) is (tree shape all sized) = leaves_agree header node_size t ordered is shape all sized

  pub packed_header_shown : (index : Option Shape) → IsPacked header node_size index ordered → header_in (packed_file header node_size index ordered) ≡ packed_header header (length ordered) node_size
  unfolding packed_file
  packed_header_shown index is = header_shown header node_size index ordered is

  pub packed_is_file : (index : Option Shape) → IsPacked header node_size index ordered → IsFile (packed_file header node_size index ordered) index ordered
  unfolding packed_file
  packed_is_file index is = record {
    opened = record { header = sound header node_size index ordered is; between = between index is is.over };
    nodes = nodes index is is.over;
    whole = whole header node_size index ordered is;
    each = each header node_size index ordered is;
    leaves = agree index is is.over;
    counted = agrees_same (ap (λ (h : Header). h.features_count) (header_shown header node_size index ordered is));
  }
