-- What a packing is made of, before any of it is written.
use Rattle.std.specs.Prelude.{◌≡◌, ⊤, ℕ, ◌+◌, ◌-◌, ◌*◌, ◌^◌, ◌<◌, ◌≤◌, min, List, [], ◌∷◌, ◌++◌, length, map, slice_index_or, Option, Some, option_map, IfSome}
use Rattle.std.specs.List.{AllByRecursion, flat_map}
use Rattle.order_keys.specs.declared.bounds.Bounds.{Bounds}
use Rattle.level_bounds.specs.Levels.{Shape, node_count}
use Rattle.level_bounds.specs.Shapes.{shape_of}
use Rattle.node_items.specs.declared.item.NodeItem.{NodeItem}
use Rattle.fgb_schema.specs.Headers.{Header}
use Rattle.fgb_file.specs.File.{header_in, nodes_of}
use Rattle.feature_order.specs.Order.{IsOrder}
use Rattle.feature_spans.specs.Spans.{LiesIn, bytes_at}
use Rattle.feature_spans.specs.declared.features.Span.{Span}
use Rattle.feature_spans.specs.declared.features.Survey.{Survey}
use Rattle.packed_file.specs.Packing.{IsTooLarge, IsTreeOver, boxes_of, header_bytes, in_order, index_bytes, packed_file, start_bytes}
use Rattle.fgb_pack.specs.declared.done.PackError.{PackError}
use Rattle.fgb_pack.specs.declared.done.PackError.TheVariants.{Refused, SourceFailed, SinkFailed, TooLarge, Memory}
use Rattle.fgb_pack.specs.declared.planning.Plan.{Plan}

-- the part and the box of a number that stands for no feature
abbrev pub no_span : Span
no_span = record { at = 0; len = 0 }

abbrev pub no_box : Bounds
no_box = record { min_x = record { 0 = 0 }; min_y = record { 0 = 0 }; max_x = record { 0 = 0 }; max_y = record { 0 = 0 } }

-- the parts with these numbers
abbrev pub spans_in_order : List Span → List ℕ → List Span
spans_in_order spans order = map (λ k. slice_index_or spans k no_span) order

-- where the next feature begins behind one with so many bytes, as far as eight bytes hold it
abbrev pub behind : ℕ → ℕ → ℕ
behind offset len = min (offset + len) (2 ^ 64 - 1)

-- the leaves of the features with these numbers, which stand one behind the other, the first at this offset
unfoldable pub leaves_over : Survey → ℕ → List ℕ → List NodeItem
leaves_over survey offset [] = []
leaves_over survey offset (k ∷ rest) =
    record { bounds = slice_index_or survey.boxes.items k no_box; offset = offset }
    ∷ leaves_over survey (behind offset (slice_index_or survey.spans.items k no_span).len) rest

-- the bytes of a file with a header of so many, this index, and features of so many
abbrev pub size_of : ℕ → Option Shape → ℕ → ℕ
size_of head index bytes = 12 + head + 40 * nodes_of index + bytes

-- of the features of a survey, which have so many bytes together, under a header but for the number of features and the
-- node size, where the file is not too large
pub record Plans (header : Header) (survey : Survey) (node_size bytes : ℕ) (plan : Plan) : Type 0 where
  pub order : List ℕ
  pub ordered : IsOrder survey.boxes.items order
  pub over : IsTreeOver (length survey.boxes.items) node_size (option_map shape_of plan.levels)
  pub head : plan.head.items ≡ header_bytes header (length survey.boxes.items) node_size
  pub leaves : plan.leaves.items ≡ leaves_over survey 0 order
  pub spans : plan.spans.items ≡ spans_in_order survey.spans.items order
  pub size : plan.size ≡ size_of (length plan.head.items) (option_map shape_of plan.levels) bytes
  pub small_head : length plan.head.items ≤ 10485760
  pub small : plan.size ≤ 2 ^ 48

-- a tree over so many features is larger than a file may be
pub record HasNoTree (features node_size : ℕ) : Type 0 where
  pub tree : Shape
  pub over : IsTreeOver features node_size (Some tree)
  pub large : 2 ^ 48 < 40 * node_count tree

-- the header or the file would be too large
pub data HasNoRoom (header : Header) (features node_size bytes : ℕ) : Type 0 where
  no_header : 10485760 < length (header_bytes header features node_size) → HasNoRoom header features node_size bytes
  no_file : {index : Option Shape} → IsTreeOver features node_size index
      → 2 ^ 48 < size_of (length (header_bytes header features node_size)) index bytes → HasNoRoom header features node_size bytes

-- the errors of a plan whose features are known, and of writing
abbrev pub IsOfPlan : PackError → Type 0
IsOfPlan (Refused broken) = ⊥
IsOfPlan SourceFailed = ⊥
IsOfPlan SinkFailed = ⊥
IsOfPlan TooLarge = ⊤
IsOfPlan Memory = ⊤

abbrev pub IsOfWriting : PackError → Type 0
IsOfWriting (Refused broken) = ⊥
IsOfWriting SourceFailed = ⊤
IsOfWriting SinkFailed = ⊤
IsOfWriting TooLarge = ⊥
IsOfWriting Memory = ⊤

-- it can be written from a source of this size
pub record IsWritable (size : ℕ) (plan : Plan) : Type 0 where
  pub head : length plan.head.items ≤ 10485760
  pub leaves : IfSome plan.levels (λ l. length plan.leaves.items ≡ (shape_of l).leaves)
  pub spans : AllByRecursion (LiesIn 0 size) plan.spans.items

-- the bytes that are written
abbrev pub planned_bytes : List ℕ → Plan → List ℕ
planned_bytes image plan =
    start_bytes plan.head.items ++ plan.head.items
    ++ index_bytes (option_map shape_of plan.levels) plan.leaves.items ++ flat_map (bytes_at image) plan.spans.items

-- of a file: they are its packing, which is not too large
pub record IsPlan (image : List ℕ) (pieces : List (List ℕ)) (node_size : ℕ) (plan : Plan) : Type 0 where
  pub order : List ℕ
  pub ordered : IsOrder (boxes_of (header_in image) pieces) order
  pub over : IsTreeOver (length pieces) node_size (option_map shape_of plan.levels)
  pub whole : planned_bytes image plan ≡ packed_file (header_in image) node_size (option_map shape_of plan.levels) (in_order pieces order)
  pub count : length plan.spans.items ≡ length pieces
  pub size : plan.size ≡ length (planned_bytes image plan)
  pub fits : IsTooLarge (header_in image) pieces node_size → ⊥
