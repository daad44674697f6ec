-- What is planned of pieces is their packing.
use Rattle.std.proofs.Common.{◌≡◌, ◌∙◌, inl, inr, ℕ, ◌+◌, ◌-◌, ◌*◌, ◌^◌, ◌<◌, ◌≤◌, true, List, [], ◌∷◌, ◌++◌, length, Option, refl, sym, ap, subst, arith}
use Rattle.std.specs.Prelude.{Vec, IsPermutation, min, option_map}
use Rattle.std.specs.declared.alloc.Global.{Global}
use Rattle.std.specs.List.{AllByRecursion, concat}
use Rattle.std.proofs.lemmas.List.{length-map}
use Rattle.std.proofs.lemmas.Grind.{common_steps}
use Rattle.flat_layout.specs.Promises.{IsClean}
use Rattle.order_keys.specs.declared.bounds.Bounds.{Bounds}
use Rattle.order_keys.specs.Boxes.{IsBox, is_box}
use Rattle.order_keys.proofs.Order.{is_ordered_is}
use Rattle.level_bounds.specs.Levels.{Shape}
use Rattle.level_bounds.specs.Shapes.{shape_of}
use Rattle.tree_writer.proofs.Boxes.{patterns_of}
use Rattle.fgb_schema.specs.Headers.{Header, header_of}
use Rattle.fgb_schema.specs.Paths.{header_root}
use Rattle.fgb_schema.specs.Weights.{BreaksBuffer}
use Rattle.fgb_file.specs.File.{IsFeature, IsFile, box_of, header_in, nodes_of}
use Rattle.feature_order.specs.Order.{IsOrder}
use Rattle.packed_file.specs.Packing.{IsTooLarge, large_header, IsTreeOver, boxes_of, header_bytes, in_order, index_bytes, leaves_from, packed_file, packed_header, packed_size, start_bytes}
use Rattle.packed_file.proofs.Leaves.{leaves_count}
use Rattle.packed_file.proofs.Lengths.{packed_file_long}
use Rattle.packed_file.proofs.Ordered.{ordered_all, ordered_count, ordered_long, ordered_same}
use Rattle.packed_file.proofs.Points.{IsStoredBox}
use Rattle.fgb_pack.specs.Plans.{HasNoTree, size_of}
use Rattle.fgb_pack.proofs.Orders.{order_known}
use Rattle.fgb_pack.proofs.Rooms.{has_room, no_room, no_tree, over_leaves, past_limit}
use Rattle.feature_pack.specs.Pieces.{HasPatterns, pieces_in}
use Rattle.feature_pack.specs.Plans.{IsPlan, IsWritable, planned_bytes}
use Rattle.feature_pack.specs.declared.planning.Plan.{Plan}
use Rattle.feature_pack.proofs.Files.{IsPacked, packed_header_shown, packed_is_file}
use Rattle.feature_pack.proofs.Frames.{as_many}

-- ## Boxes that can be stored

tested : (b : Bounds) → IsBox b → is_box b ≡ true
tested b (inl none) = subst (λ b. is_box b ≡ true) (sym none) refl
tested b (inr (finite, ordered)) = grind (arith, common_steps, is_ordered_is)

pub boxes_stored : (header : Header) (pieces : List (List ℕ)) → AllByRecursion IsBox (boxes_of header pieces) → AllByRecursion HasPatterns (boxes_of header pieces)
    → AllByRecursion (λ piece. IsStoredBox (box_of header piece)) pieces
boxes_stored header [] boxes patterns = tt
boxes_stored header (piece ∷ rest) boxes patterns = (
  record { box = tested (box_of header piece) boxes.0; patterns = patterns_of (record { bounds = box_of header piece; offset = 0 }) patterns.0 },
  boxes_stored header rest boxes.1 patterns.1,
)

-- ## An order of pieces

module _ (header : Header) (pieces : List (List ℕ)) (boxes : List Bounds) (order : List ℕ) (boxed : boxes ≡ boxes_of header pieces) (is : IsOrder boxes order) where
  pub pieces_ordered : IsOrder (boxes_of header pieces) order
  pieces_ordered = subst (λ bs. IsOrder bs order) boxed is

  pub pieces_same : IsPermutation pieces (in_order pieces order)
  pieces_same = ordered_same header pieces order pieces_ordered

  many : length boxes ≡ length pieces
  many = ap length boxed ∙ length-map pieces (box_of header)

  pub pieces_known : AllByRecursion (λ k. k < length pieces) order
  pieces_known = subst (λ n. AllByRecursion (λ k. k < n) order) many (order_known boxes order is)

  pub pieces_long : length (concat (in_order pieces order)) ≡ length (concat pieces)
  pieces_long = ordered_long pieces (in_order pieces order) pieces_same

-- a sum that is no larger than a file is the whole sum
pub sum_whole : (front sum all : ℕ) → sum ≡ min all (2 ^ 64 - 1) → front + sum ≤ 2 ^ 48 → sum ≡ all
sum_whole front sum all is small = omega (arith, is, small)

-- the numbers of buffers as they are lent, and how much they stand for
module _ (header : Header) (buffers : List (Vec ℕ Global)) (boxes lent : List Bounds) (order shown : List ℕ) (boxed : boxes ≡ boxes_of header (pieces_in buffers)) (is_lent : lent ≡ boxes)
    (is : IsOrder lent order) (is_shown : shown ≡ order) where
  lent_boxed : lent ≡ boxes_of header (pieces_in buffers)
  lent_boxed = is_lent ∙ boxed

  pub shown_known : AllByRecursion (λ k. k < length buffers) shown
  shown_known = subst (AllByRecursion (λ k. k < length buffers)) (sym is_shown)
      (subst (λ n. AllByRecursion (λ k. k < n) order) (as_many buffers) (pieces_known header (pieces_in buffers) lent order lent_boxed is))

  pub shown_small : (front sum : ℕ) → sum ≡ min (length (concat (pieces_in buffers))) (2 ^ 64 - 1) → front + sum ≤ 2 ^ 48 → length (concat (in_order (pieces_in buffers) shown)) ≤ 2 ^ 48
  shown_small front sum summed small =
      let all : sum ≡ length (concat (pieces_in buffers)) = sum_whole front sum (length (concat (pieces_in buffers))) summed small in
      let same : length (concat (in_order (pieces_in buffers) shown)) ≡ length (concat (pieces_in buffers)) =
      ap (λ ks. length (concat (in_order (pieces_in buffers) ks))) is_shown ∙ pieces_long header (pieces_in buffers) lent order lent_boxed is in
      omega (arith, all, same, small)

  pub boxes_many : length lent ≡ length buffers
  boxes_many = ap length lent_boxed ∙ length-map (pieces_in buffers) (box_of header) ∙ as_many buffers

-- ## Where there is no room for them

module _ (header : Header) (pieces : List (List ℕ)) (counted node_size : ℕ) (all : counted ≡ length pieces) where
  pub with_header : 10485760 < length (header_bytes header counted node_size) → IsTooLarge header pieces node_size
  with_header large = large_header (subst (λ n. 10485760 < length (header_bytes header n node_size)) all large)

  pub without_tree : HasNoTree counted node_size → IsTooLarge header pieces node_size
  without_tree none =
      no_room header pieces node_size (length pieces) (length (concat pieces)) refl refl (no_tree header (length pieces) counted node_size (length (concat pieces)) all none)

  pub past_file : (len sum : ℕ) (head : List ℕ) (index : Option Shape) → head ≡ header_bytes header counted node_size → len ≡ length head → IsTreeOver counted node_size index
      → sum ≡ min (length (concat pieces)) (2 ^ 64 - 1) → 2 ^ 48 < 12 + len + 40 * nodes_of index + sum → IsTooLarge header pieces node_size
  past_file len sum head index is_head long over summed large =
      let more : 2 ^ 48 < size_of len index (length (concat pieces)) = omega (arith, summed, large) in
      no_room header pieces node_size (length pieces) (length (concat pieces)) refl refl
      (past_limit header (length pieces) counted node_size (length (concat pieces)) len head index all is_head long over more)

-- ## The plan

module _ (header : Header) (pieces : List (List ℕ)) (node_size features sum : ℕ) (boxes : List Bounds) (plan : Plan) (wide : 2 ≤ node_size) (counted : features ≡ length pieces)
    (head : plan.head.items ≡ header_bytes header features node_size) (small : length plan.head.items ≤ 10485760) (clean : IsClean (BreaksBuffer plan.head.items header_root))
    (shown : header_of plan.head.items ≡ packed_header header features node_size) (over : IsTreeOver features node_size (option_map shape_of plan.levels))
    (sized : plan.size ≡ 12 + length plan.head.items + 40 * nodes_of (option_map shape_of plan.levels) + sum) (within : plan.size ≤ 2 ^ 48)
    (summed : sum ≡ min (length (concat pieces)) (2 ^ 64 - 1)) (each : AllByRecursion (IsFeature header) pieces)
    (boxed : boxes ≡ boxes_of header pieces) (stored : AllByRecursion (λ piece. IsStoredBox (box_of header piece)) pieces) (is : IsOrder boxes plan.numbers.items)
    (leaves : plan.leaves.items ≡ leaves_from header 0 (in_order pieces plan.numbers.items)) where
  abbrev tree : Option Shape
  tree = option_map shape_of plan.levels

  abbrev ordered : List (List ℕ)
  ordered = in_order pieces plan.numbers.items

  same : IsPermutation pieces ordered
  same = pieces_same header pieces boxes plan.numbers.items boxed is

  count : length ordered ≡ length pieces
  count = ordered_count pieces ordered same

  as_counted : features ≡ length ordered
  as_counted = counted ∙ sym count

  head_is : plan.head.items ≡ header_bytes header (length ordered) node_size
  head_is = head ∙ ap (λ n. header_bytes header n node_size) as_counted

  over_pieces : IsTreeOver (length pieces) node_size tree
  over_pieces = subst (λ n. IsTreeOver n node_size tree) counted over

  head_long : length plan.head.items ≡ length (header_bytes header (length pieces) node_size)
  head_long = ap length head ∙ ap (λ n. length (header_bytes header n node_size)) counted

  all : sum ≡ length (concat pieces)
  all = sum_whole (12 + length plan.head.items + 40 * nodes_of tree) sum (length (concat pieces)) summed (omega (arith, sized, within))

  size_is : plan.size ≡ packed_size header pieces node_size tree
  size_is = omega (arith, sized, all, head_long)

  long : length (packed_file header node_size tree ordered) ≡ packed_size header pieces node_size tree
  long = packed_file_long header tree pieces ordered node_size same

  packed : IsPacked header node_size tree ordered
  packed = record {
    wide = wide;
    over = subst (λ n. IsTreeOver n node_size tree) as_counted over;
    small = subst (λ b. length b ≤ 10485760) head_is small;
    clean = subst (λ b. IsClean (BreaksBuffer b header_root)) head_is clean;
    shown = ap header_of (sym head_is) ∙ shown ∙ ap (λ n. packed_header header n node_size) as_counted;
    within = omega (arith, long, size_is, within);
    each = ordered_all pieces ordered same (IsFeature header) each;
    boxes = ordered_all pieces ordered same (λ piece. IsStoredBox (box_of header piece)) stored;
  }

  whole : planned_bytes pieces plan ≡ packed_file header node_size tree ordered
  unfolding packed_file
  whole =
      ap (λ h. start_bytes h ++ h ++ index_bytes tree plan.leaves.items ++ concat ordered) head_is
      ∙ ap (λ l. start_bytes (header_bytes header (length ordered) node_size) ++ header_bytes header (length ordered) node_size ++ index_bytes tree l ++ concat ordered) leaves

  writable : IsWritable (length pieces) plan
  writable = record {
    head = small;
    leaves = over_leaves plan.levels features node_size (length plan.leaves.items) (ap length leaves ∙ leaves_count header ordered 0 ∙ count ∙ sym counted) over;
    known = pieces_known header pieces boxes plan.numbers.items boxed is;
  }

  pub is_plan : IsPlan header pieces node_size plan
  is_plan = record {
    writable = writable;
    ordered = pieces_ordered header pieces boxes plan.numbers.items boxed is;
    over = over_pieces;
    whole = whole;
    size = size_is ∙ sym long ∙ ap length (sym whole);
    fits = has_room header pieces node_size tree over_pieces (omega (arith, small, head_long)) (omega (arith, size_is, within));
    file = subst (λ image. IsFile image tree ordered) (sym whole) (packed_is_file header node_size ordered tree packed);
    told = ap header_in whole ∙ packed_header_shown header node_size ordered tree packed ∙ ap (λ n. packed_header header n node_size) count;
  }
