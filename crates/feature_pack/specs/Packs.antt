-- What a packer of owned features leaves.
use Rattle.std.specs.Prelude.{◌≡◌, ℕ, List, length, map, IsPermutation}
use Rattle.fgb_schema.specs.Headers.{Header}
use Rattle.fgb_schema.specs.Features.{Feature}
use Rattle.fgb_outside.specs.Sink.{Sink, Appends, AppendsPart}
use Rattle.fgb_file.specs.File.{IsFile, header_in, nodes_of}
use Rattle.packed_file.specs.Packing.{IsPacking, IsTooLarge, in_order, packed_header}
use Rattle.laid_features.specs.Buffers.{IsTooLarge as HasTooLarge, pieces_of, shown_in}
use Rattle.fgb_pack.specs.declared.done.PackDone.{PackDone}

-- a packing of features under a header is a file that breaks no rule. Its header is this one but for the number of
-- features and the node size. Its features are these in their order, each with its bytes unchanged, and each piece shows
-- its feature
pub record IsSound (header : Header) (features : List Feature) (node_size : ℕ) (bytes : List ℕ) (packing : IsPacking header (pieces_of features) node_size bytes) : Type 0 where
  pub file : IsFile bytes packing.index (in_order (pieces_of features) packing.order)
  pub told : header_in bytes ≡ packed_header header (length features) node_size
  pub same : IsPermutation (pieces_of features) (in_order (pieces_of features) packing.order)
  pub shown : map (shown_in (header_in bytes)) (pieces_of features) ≡ features

-- the packing of features under a header was written: so many features, nodes and bytes
pub record Packs (header : Header) (features : List Feature) (node_size : ℕ) (done : PackDone) (o o' : Sink) : Type 0 where
  pub bytes : List ℕ
  pub packing : IsPacking header (pieces_of features) node_size bytes
  pub sound : IsSound header features node_size bytes packing
  pub written : Appends o o' bytes
  pub counted : done.features ≡ length features
  pub nodes : done.nodes ≡ nodes_of packing.index
  pub size : done.bytes ≡ length bytes

-- nothing was written, or a front of the packing
pub data PacksPart (header : Header) (features : List Feature) (node_size : ℕ) (o o' : Sink) : Type 0 where
  nothing : o' ≡ o → PacksPart header features node_size o o'
  front : {bytes : List ℕ} → IsPacking header (pieces_of features) node_size bytes → AppendsPart o o' bytes → PacksPart header features node_size o o'

-- there is none that the format admits: the buffer of a feature, the header or the file would be too large
pub data LacksPacking (header : Header) (features : List Feature) (node_size : ℕ) : Type 0 where
  large_feature : HasTooLarge features → LacksPacking header features node_size
  large_packing : IsTooLarge header (pieces_of features) node_size → LacksPacking header features node_size
