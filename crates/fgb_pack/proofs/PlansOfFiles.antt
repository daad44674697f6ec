-- What is planned of a file is its packing.
use Rattle.std.proofs.Common.{◌≡◌, ℕ, ◌+◌, ◌-◌, ◌^◌, ◌<◌, ◌≤◌, List, [], ◌++◌, length, map, take, get_or, Option, sym, ap, subst, ◌∙◌, arith, length-append}
use Rattle.std.specs.Prelude.{option_map}
use Rattle.std.specs.List.{AllByRecursion, concat, flat_map}
use Rattle.std.proofs.lemmas.List.{length-map, length-take-le}
use Rattle.level_bounds.specs.Levels.{Shape}
use Rattle.level_bounds.specs.Shapes.{shape_of}
use Rattle.node_items.specs.declared.item.NodeItem.{NodeItem}
use Rattle.fgb_schema.specs.Headers.{Header}
use Rattle.fgb_outside.proofs.Asking.{AllByRecursion-weaken}
use Rattle.fgb_file.specs.File.{IsFile, box_of, first_place, header_in}
use Rattle.fgb_file.proofs.Opening.{open_inside}
use Rattle.feature_order.specs.Order.{IsOrder}
use Rattle.feature_spans.specs.Spans.{LiesIn, Surveys, bytes_at}
use Rattle.feature_spans.specs.declared.features.Span.{Span}
use Rattle.feature_spans.specs.declared.features.Survey.{Survey}
use Rattle.packed_file.specs.Packing.{IsTooLarge, IsTreeOver, boxes_of, header_bytes, in_order, index_bytes, leaves_from, packed_file, packed_size, start_bytes}
use Rattle.fgb_pack.specs.declared.planning.Plan.{Plan}
use Rattle.fgb_pack.specs.Plans.{HasNoRoom, IsPlan, IsWritable, Plans, no_span, planned_bytes, size_of, spans_in_order}
use Rattle.fgb_pack.proofs.Leaves.{joined, leaves_long, leaves_same, lens_same}
use Rattle.fgb_pack.proofs.Orders.{all_in_order, map_in_order, order_known, order_long}
use Rattle.fgb_pack.proofs.Rooms.{has_room, no_room, over_leaves}

-- how long a packing is
abbrev pub IsLong : Type 0
IsLong =
    (header : Header) (index : Option Shape) (pieces : List (List ℕ)) (order : List ℕ) (node_size : ℕ)
    → IsOrder (boxes_of header pieces) order → IsTreeOver (length pieces) node_size index
    → length (packed_file header node_size index (in_order pieces order)) ≡ packed_size header pieces node_size index

-- a part between two places lies in the source
pub lies_wider : (from to size : ℕ) (spans : List Span) → to ≤ size → AllByRecursion (LiesIn from to) spans → AllByRecursion (LiesIn 0 size) spans
lies_wider from to size spans within all =
    AllByRecursion-weaken (LiesIn from to) (LiesIn 0 size) (λ span lies. record { some = lies.some; from_on = omega arith; before = omega (arith, lies.before, within) }) spans all

-- any plan can be written
pub plan_writable : (header : Header) (survey : Survey) (node_size bytes from to size : ℕ) (plan : Plan) → length survey.spans.items ≡ length survey.boxes.items
    → to ≤ size → AllByRecursion (LiesIn from to) survey.spans.items → Plans header survey node_size bytes plan → IsWritable size plan
plan_writable header survey node_size bytes from to size plan each within lie plans =
    let boxes = survey.boxes.items in
    let spans = survey.spans.items in
    let known = order_known boxes plans.order plans.ordered in
    let long : length plan.leaves.items ≡ length boxes = ap length plans.leaves ∙ leaves_long survey 0 plans.order ∙ order_long boxes plans.order plans.ordered in
    record {
      head = plans.small_head;
      leaves = over_leaves plan.levels (length boxes) node_size (length plan.leaves.items) long plans.over;
      spans = lies_wider from to size plan.spans.items within
          (subst (AllByRecursion (LiesIn from to)) (sym plans.spans)
          (all_in_order (LiesIn from to) spans no_span plans.order lie (subst (λ n. AllByRecursion (λ k. k < n) plans.order) (sym each) known)));
    }

-- the features have all bytes from the first one on
pub features_long : (image : List ℕ) (index : Option Shape) (pieces : List (List ℕ)) → IsFile image index pieces
    → length image - first_place image index ≡ length (concat pieces)
features_long image index pieces file =
    let first = first_place image index in
    let inside = open_inside image index file.opened in
    let front : length (take first image) ≡ first = length-take-le first image inside in
    let whole : length image ≡ length (take first image) + length (concat pieces) = ap length file.whole ∙ length-append (take first image) (concat pieces) in
    omega arith

-- the bytes that are written, by their parts
whole_same : (header : Header) (node_size : ℕ) (index : Option Shape) (ordered : List (List ℕ)) (head : List ℕ) (leaves : List NodeItem) (bytes : List ℕ)
    → head ≡ header_bytes header (length ordered) node_size → leaves ≡ leaves_from header 0 ordered → bytes ≡ concat ordered
    → start_bytes head ++ head ++ index_bytes index leaves ++ bytes ≡ packed_file header node_size index ordered
unfolding packed_file
whole_same header node_size index ordered head leaves bytes is_head are_leaves are_bytes =
    ap (λ h. start_bytes h ++ h ++ index_bytes index leaves ++ bytes) is_head
    ∙ ap (λ l. start_bytes (header_bytes header (length ordered) node_size) ++ header_bytes header (length ordered) node_size ++ index_bytes index l ++ bytes) are_leaves
    ∙ ap (λ b. start_bytes (header_bytes header (length ordered) node_size) ++ header_bytes header (length ordered) node_size ++ index_bytes index (leaves_from header 0 ordered) ++ b) are_bytes

-- the features are a part of them
features_inside : (header : Header) (node_size : ℕ) (index : Option Shape) (ordered : List (List ℕ)) → length (concat ordered) ≤ length (packed_file header node_size index ordered)
unfolding packed_file
features_inside header node_size index ordered =
    let front = start_bytes (header_bytes header (length ordered) node_size) ++ header_bytes header (length ordered) node_size ++ index_bytes index (leaves_from header 0 ordered) in
    omega (arith, length-append front (concat ordered))

module _ (is_long : IsLong) (image : List ℕ) (index : Option Shape) (pieces : List (List ℕ)) (file : IsFile image index pieces)
    (survey : Survey) (surveys : Surveys image (header_in image) pieces survey) (node_size : ℕ) where
  abbrev header : Header
  header = header_in image

  as_many : length survey.boxes.items ≡ length pieces
  as_many = ap length surveys.boxes ∙ length-map pieces (box_of header)

  pub file_no_room : HasNoRoom header (length survey.boxes.items) node_size (length image - first_place image index) → IsTooLarge header pieces node_size
  file_no_room lacks = no_room header pieces node_size (length survey.boxes.items) (length image - first_place image index) as_many (features_long image index pieces file) lacks

  module _ (plan : Plan) (lie : AllByRecursion (LiesIn (first_place image index) (length image)) survey.spans.items)
      (plans : Plans header survey node_size (length image - first_place image index) plan) where
    abbrev tree : Option Shape
    tree = option_map shape_of plan.levels

    ordered : IsOrder (boxes_of header pieces) plans.order
    ordered = subst (λ boxes. IsOrder boxes plans.order) surveys.boxes plans.ordered

    over : IsTreeOver (length pieces) node_size tree
    over = subst (λ n. IsTreeOver n node_size tree) as_many plans.over

    known : AllByRecursion (λ k. k < length pieces) plans.order
    known = subst (λ n. AllByRecursion (λ k. k < n) plans.order) as_many (order_known survey.boxes.items plans.order plans.ordered)

    many_spans : length survey.spans.items ≡ length pieces
    many_spans = sym (length-map survey.spans.items (bytes_at image)) ∙ ap length surveys.spans

    long_order : length (in_order pieces plans.order) ≡ length pieces
    long_order = length-map plans.order (λ k. get_or pieces k []) ∙ order_long survey.boxes.items plans.order plans.ordered ∙ as_many

    head : plan.head.items ≡ header_bytes header (length pieces) node_size
    head = plans.head ∙ ap (λ n. header_bytes header n node_size) as_many

    size : plan.size ≡ packed_size header pieces node_size tree
    size = plans.size ∙ ap (λ n. size_of n tree (length image - first_place image index)) (ap length head)
        ∙ ap (size_of (length (header_bytes header (length pieces) node_size)) tree) (features_long image index pieces file)

    long : plan.size ≡ length (packed_file header node_size tree (in_order pieces plans.order))
    long = size ∙ sym (is_long header tree pieces plans.order node_size ordered over)

    leaves : plan.leaves.items ≡ leaves_from header 0 (in_order pieces plans.order)
    leaves =
        let small : 0 + length (concat (in_order pieces plans.order)) < 2 ^ 64 = omega (arith, features_inside header node_size tree (in_order pieces plans.order), long, plans.small) in
        plans.leaves ∙ leaves_same header survey pieces 0 plans.order surveys.boxes (lens_same image (first_place image index) survey.spans.items lie ∙ ap (map length) surveys.spans) known small

    bytes : flat_map (bytes_at image) plan.spans.items ≡ concat (in_order pieces plans.order)
    bytes =
        ap (flat_map (bytes_at image)) plans.spans ∙ joined (bytes_at image) (spans_in_order survey.spans.items plans.order)
        ∙ ap concat (map_in_order (bytes_at image) survey.spans.items no_span [] plans.order (subst (λ n. AllByRecursion (λ k. k < n) plans.order) (sym many_spans) known)
        ∙ ap (λ all. map (λ k. get_or all k []) plans.order) surveys.spans)

    whole : planned_bytes image plan ≡ packed_file header node_size tree (in_order pieces plans.order)
    whole = whole_same header node_size tree (in_order pieces plans.order) plan.head.items plan.leaves.items (flat_map (bytes_at image) plan.spans.items)
        (head ∙ ap (λ n. header_bytes header n node_size) (sym long_order)) leaves bytes

    pub plan_of_file : IsPlan image pieces node_size plan
    plan_of_file = record {
      order = plans.order;
      ordered = ordered;
      over = over;
      whole = whole;
      count = ap length plans.spans ∙ length-map plans.order (λ k. get_or survey.spans.items k no_span) ∙ order_long survey.boxes.items plans.order plans.ordered ∙ as_many;
      size = long ∙ ap length (sym whole);
      fits = has_room header pieces node_size tree over (subst (λ b. length b ≤ 10485760) head plans.small_head) (subst (λ n. n ≤ 2 ^ 48) size plans.small);
    }

-- the same, of what was read of the file
module _ (is_long : IsLong) (image : List ℕ) (index : Option Shape) (pieces : List (List ℕ)) (file : IsFile image index pieces)
    (survey : Survey) (surveys : Surveys image (header_in image) pieces survey) (node_size first end : ℕ) (shown : Header)
    (is_shown : shown ≡ header_in image) (is_first : first ≡ first_place image index) (is_end : end ≡ length image) where
  same_bytes : end - first ≡ length image - first_place image index
  same_bytes = ap (λ n. n - first) is_end ∙ ap (λ n. length image - n) is_first

  pub too_large_as_read : HasNoRoom shown (length survey.boxes.items) node_size (end - first) → IsTooLarge (header_in image) pieces node_size
  too_large_as_read lacks =
      file_no_room is_long image index pieces file survey surveys node_size
      (subst (λ h. HasNoRoom h (length survey.boxes.items) node_size (length image - first_place image index)) is_shown
      (subst (λ n. HasNoRoom shown (length survey.boxes.items) node_size n) same_bytes lacks))

  pub plan_as_read : (plan : Plan) → AllByRecursion (LiesIn first end) survey.spans.items → Plans shown survey node_size (end - first) plan → IsPlan image pieces node_size plan
  plan_as_read plan lie plans =
      plan_of_file is_long image index pieces file survey surveys node_size plan
      (subst (λ n. AllByRecursion (LiesIn n (length image)) survey.spans.items) is_first (subst (λ n. AllByRecursion (LiesIn first n) survey.spans.items) is_end lie))
      (subst (λ h. Plans h survey node_size (length image - first_place image index) plan) is_shown
      (subst (λ n. Plans shown survey node_size n plan) same_bytes plans))
