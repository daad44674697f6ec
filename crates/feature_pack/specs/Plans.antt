-- What a packing of pieces is made of, before any of it is written.
use Rattle.std.specs.Prelude.{◌≡◌, ⊤, ℕ, ◌<◌, ◌≤◌, List, ◌++◌, length, option_map, IfSome}
use Rattle.std.specs.List.{AllByRecursion, concat}
use Rattle.level_bounds.specs.Shapes.{shape_of}
use Rattle.fgb_schema.specs.Headers.{Header}
use Rattle.fgb_file.specs.File.{IsFile, header_in}
use Rattle.feature_order.specs.Order.{IsOrder}
use Rattle.packed_file.specs.Packing.{IsTooLarge, IsTreeOver, boxes_of, in_order, index_bytes, packed_file, packed_header, start_bytes}
use Rattle.fgb_pack.specs.declared.done.PackError.{PackError}
use Rattle.fgb_pack.specs.declared.done.PackError.TheVariants.{Refused, SourceFailed, SinkFailed, TooLarge, Memory}
use Rattle.feature_pack.specs.declared.planning.Plan.{Plan}

-- the bytes that are written of pieces
abbrev pub planned_bytes : List (List ℕ) → Plan → List ℕ
planned_bytes pieces plan =
    start_bytes plan.head.items ++ plan.head.items
    ++ index_bytes (option_map shape_of plan.levels) plan.leaves.items ++ concat (in_order pieces plan.numbers.items)

-- so many pieces can be written by it
pub record IsWritable (pieces : ℕ) (plan : Plan) : Type 0 where
  pub head : length plan.head.items ≤ 10485760
  pub leaves : IfSome plan.levels (λ l. length plan.leaves.items ≡ (shape_of l).leaves)
  pub known : AllByRecursion (λ k. k < pieces) plan.numbers.items

-- of pieces under a header: the bytes are their packing, which is not too large, and a file that breaks no rule
pub record IsPlan (header : Header) (pieces : List (List ℕ)) (node_size : ℕ) (plan : Plan) : Type 0 where
  pub writable : IsWritable (length pieces) plan
  pub ordered : IsOrder (boxes_of header pieces) plan.numbers.items
  pub over : IsTreeOver (length pieces) node_size (option_map shape_of plan.levels)
  pub whole : planned_bytes pieces plan ≡ packed_file header node_size (option_map shape_of plan.levels) (in_order pieces plan.numbers.items)
  pub size : plan.size ≡ length (planned_bytes pieces plan)
  pub fits : IsTooLarge header pieces node_size → ⊥
  pub file : IsFile (planned_bytes pieces plan) (option_map shape_of plan.levels) (in_order pieces plan.numbers.items)
  pub told : header_in (planned_bytes pieces plan) ≡ packed_header header (length pieces) node_size

-- the errors of writing it
abbrev pub IsOfSink : PackError → Type 0
IsOfSink (Refused broken) = ⊥
IsOfSink SourceFailed = ⊥
IsOfSink SinkFailed = ⊤
IsOfSink TooLarge = ⊥
IsOfSink Memory = ⊤

-- and those of packing owned features
abbrev pub IsOfFeatures : PackError → Type 0
IsOfFeatures (Refused broken) = ⊥
IsOfFeatures SourceFailed = ⊥
IsOfFeatures SinkFailed = ⊤
IsOfFeatures TooLarge = ⊤
IsOfFeatures Memory = ⊤
