-- What a file is made of, before any of it is written.
use Rattle.std.specs.Prelude.{◌≡◌, ℕ, List, ◌++◌, length, map, Vec, vec_items}
use Rattle.std.specs.Global.{Global}
use Rattle.std.specs.List.{concat}
use Rattle.fgb_schema.specs.Headers.{Header}
use Rattle.fgb_schema.specs.Features.{Feature}
use Rattle.packed_file.specs.Packing.{start_bytes}
use Rattle.laid_features.specs.Buffers.{framed}
use Rattle.fgb_lay.specs.Laying.{HasNoRoom, IsLaid, laid_file}
use Rattle.fgb_lay.specs.declared.planning.Plan.{Plan}

-- buffers as they stand in a file
abbrev pub framed_all : List (Vec ℕ Global) → List (List ℕ)
framed_all buffers = map framed (map vec_items buffers)

-- the bytes that are written
unfoldable pub planned_bytes : Plan → List ℕ
planned_bytes plan = start_bytes plan.head.items ++ plan.head.items ++ concat (framed_all plan.buffers.items)

-- they are the file of these features under a header
pub record IsPlan (header : Header) (features : List Feature) (plan : Plan) : Type 0 where
  pub whole : planned_bytes plan ≡ laid_file header features
  pub size : plan.size ≡ length (laid_file header features)
  pub fits : HasNoRoom header features → ⊥
  pub valid : IsLaid header features
