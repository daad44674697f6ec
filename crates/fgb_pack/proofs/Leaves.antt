-- The leaves of a plan.
use Rattle.std.proofs.Common.{◌≡◌, ℕ, ◌+◌, ◌-◌, ◌^◌, ◌<◌, ◌≤◌, List, [], ◌∷◌, ◌++◌, length, map, get_or, drop, suc, refl, sym, ap, ◌∙◌, append_assoc, arith, length-append, length-drop}
use Rattle.std.specs.List.{AllByRecursion, concat, flat_map}
use Rattle.std.proofs.Common.{drop-cons, add-one}
use Rattle.std.proofs.lemmas.List.{append-nil, get_or-map, get_or_default, length-map, length-take-le}
use Rattle.order_keys.specs.declared.bounds.Bounds.{Bounds}
use Rattle.node_items.specs.declared.item.NodeItem.{NodeItem}
use Rattle.fgb_schema.specs.Headers.{Header}
use Rattle.fgb_file.specs.File.{box_of}
use Rattle.feature_spans.specs.Spans.{LiesIn, bytes_at}
use Rattle.feature_spans.specs.declared.features.Span.{Span}
use Rattle.feature_spans.specs.declared.features.Survey.{Survey}
use Rattle.packed_file.specs.Packing.{in_order, leaves_from}
use Rattle.fgb_pack.specs.Plans.{behind, leaves_over, no_box, no_span}

-- as many as numbers
pub leaves_long : (survey : Survey) (offset : ℕ) (order : List ℕ) → length (leaves_over survey offset order) ≡ length order
unfolding leaves_over
leaves_long survey offset [] = refl
leaves_long survey offset (k ∷ rest) = ap suc (leaves_long survey (behind offset (get_or survey.spans.items k no_span).len) rest)

leaves_none : (survey : Survey) (offset : ℕ) (order : List ℕ) → length order ≡ 0 → leaves_over survey offset order ≡ []
unfolding leaves_over
leaves_none survey offset [] none = refl
leaves_none survey offset (k ∷ rest) none = absurd (omega arith)

leaves_first : (survey : Survey) (offset k : ℕ) (rest : List ℕ) → leaves_over survey offset (k ∷ rest)
    ≡ record { bounds = get_or survey.boxes.items k no_box; offset = offset } ∷ leaves_over survey (behind offset (get_or survey.spans.items k no_span).len) rest
unfolding leaves_over
leaves_first survey offset k rest = refl

-- none are left
pub leaves_end : (survey : Survey) (offset i : ℕ) (order : List ℕ) (done all : List NodeItem) → length order ≤ i → done ++ leaves_over survey offset (drop i order) ≡ all → done ≡ all
leaves_end survey offset i order done all ended so_far =
    let none : length (drop i order) ≡ 0 = omega (arith, length-drop i order) in
    sym (append-nil done) ∙ ap (λ l. done ++ l) (sym (leaves_none survey offset (drop i order) none)) ∙ so_far

-- one more, as its box and its part are read
pub leaves_next : (survey : Survey) (offset i : ℕ) (order : List ℕ) (done more all : List NodeItem) (box : Bounds) (span : Span) (next : ℕ) → i < length order
    → length survey.spans.items ≡ length survey.boxes.items → get_or order i 0 < length survey.boxes.items
    → box ≡ get_or survey.boxes.items (get_or order i 0) box → span ≡ get_or survey.spans.items (get_or order i 0) span
    → more ≡ done ++ record { bounds = box; offset = offset } ∷ [] → next ≡ behind offset span.len
    → done ++ leaves_over survey offset (drop i order) ≡ all → more ++ leaves_over survey next (drop (i + 1) order) ≡ all
leaves_next survey offset i order done more all box span next there each known is_box is_span is_more is_next so_far =
    let k = get_or order i 0 in
    let spans_known : k < length survey.spans.items = omega (arith, known, each) in
    let at_box : get_or survey.boxes.items k no_box ≡ box = get_or_default survey.boxes.items k no_box box known ∙ sym is_box in
    let at_span : get_or survey.spans.items k no_span ≡ span = get_or_default survey.spans.items k no_span span spans_known ∙ sym is_span in
    let leaf : NodeItem = record { bounds = box; offset = offset } in
    let rest = drop (i + 1) order in
    let split : drop i order ≡ k ∷ rest = drop-cons order i 0 there ∙ ap (λ n. k ∷ drop n order) (sym (add-one i)) in
    let left : leaf ∷ leaves_over survey next rest ≡ leaves_over survey offset (drop i order) =
    ap (λ n. leaf ∷ leaves_over survey n rest) (is_next ∙ ap (λ (s : Span). behind offset s.len) (sym at_span))
    ∙ ap (λ (b : Bounds). record { bounds = b; offset = offset } ∷ leaves_over survey (behind offset (get_or survey.spans.items k no_span).len) rest) (sym at_box)
    ∙ sym (leaves_first survey offset k rest) ∙ ap (leaves_over survey offset) (sym split) in
    ap (λ l. l ++ leaves_over survey next rest) is_more ∙ append_assoc done (leaf ∷ []) (leaves_over survey next rest) ∙ ap (λ l. done ++ l) left ∙ so_far

-- a part has as many bytes as it says, where it lies in the file
pub bytes_long : (image : List ℕ) (from : ℕ) (span : Span) → LiesIn from (length image) span → length (bytes_at image span) ≡ span.len
bytes_long image from span lies =
    let enough : span.at + span.len - span.at ≤ length (drop span.at image) = omega (arith, length-drop span.at image, lies.before) in
    length-take-le (span.at + span.len - span.at) (drop span.at image) enough ∙ omega arith

pub lens_same : (image : List ℕ) (from : ℕ) (spans : List Span) → AllByRecursion (LiesIn from (length image)) spans
    → map (λ (span : Span). span.len) spans ≡ map length (map (bytes_at image) spans)
lens_same image from [] all = refl
lens_same image from (span ∷ rest) all =
    ap (λ n. n ∷ map (λ (span : Span). span.len) rest) (sym (bytes_long image from span all.0))
    ∙ ap (λ l. length (bytes_at image span) ∷ l) (lens_same image from rest all.1)

-- the offset behind a feature, as long as all of them end below 2^64
behind_next : (offset len size more : ℕ) → len ≡ size → offset + (size + more) < 2 ^ 64 → behind offset len ≡ offset + size
behind_next offset len size more same small = omega arith

-- of the features of a file, which have these boxes and sizes
pub leaves_same : (header : Header) (survey : Survey) (pieces : List (List ℕ)) (offset : ℕ) (order : List ℕ)
    → survey.boxes.items ≡ map (box_of header) pieces → map (λ (span : Span). span.len) survey.spans.items ≡ map length pieces
    → AllByRecursion (λ k. k < length pieces) order → offset + length (concat (in_order pieces order)) < 2 ^ 64
    → leaves_over survey offset order ≡ leaves_from header offset (in_order pieces order)
unfolding leaves_over leaves_from
leaves_same header survey pieces offset [] boxes lens known small = refl
leaves_same header survey pieces offset (k ∷ rest) boxes lens known small =
    let piece = get_or pieces k [] in
    let len = (get_or survey.spans.items k no_span).len in
    let box : get_or survey.boxes.items k no_box ≡ box_of header piece = ap (λ l. get_or l k no_box) boxes ∙ get_or-map (box_of header) pieces k [] no_box known.0 in
    let as_many : length survey.spans.items ≡ length pieces =
    sym (length-map survey.spans.items (λ (span : Span). span.len)) ∙ ap length lens ∙ length-map pieces length in
    let there : k < length survey.spans.items = omega (arith, known.0, as_many) in
    let sized : len ≡ length piece =
    sym (get_or-map (λ (span : Span). span.len) survey.spans.items k no_span 0 there) ∙ ap (λ l. get_or l k 0) lens ∙ get_or-map length pieces k [] 0 known.0 in
    let long : length (concat (in_order pieces (k ∷ rest))) ≡ length piece + length (concat (in_order pieces rest)) = length-append piece (concat (in_order pieces rest)) in
    let next : behind offset len ≡ offset + length piece = behind_next offset len (length piece) (length (concat (in_order pieces rest))) sized (omega (arith, small, long)) in
    ap (λ b. record { bounds = b; offset = offset } ∷ leaves_over survey (behind offset len) rest) box
    ∙ ap (λ n. record { bounds = box_of header piece; offset = offset } ∷ leaves_over survey n rest) next
    ∙ ap (λ l. record { bounds = box_of header piece; offset = offset } ∷ l)
    (leaves_same header survey pieces (offset + length piece) rest boxes lens known.1 (omega (arith, small, long)))

-- the bytes of parts, one behind the other
pub joined : (f : Span → List ℕ) (spans : List Span) → flat_map f spans ≡ concat (map f spans)
joined f [] = refl
joined f (span ∷ rest) = ap (λ l. f span ++ l) (joined f rest)
