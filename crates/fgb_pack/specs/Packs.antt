-- What a packer leaves.
use Rattle.std.specs.Prelude.{◌≡◌, ℕ, List, length}
use Rattle.fgb_outside.specs.Sink.{Sink, Appends, AppendsPart}
use Rattle.fgb_file.specs.File.{header_in, nodes_of}
use Rattle.packed_file.specs.Packing.{IsPacking}
use Rattle.fgb_pack.specs.declared.done.PackDone.{PackDone}

-- the packing of the features of a file was written: so many features, nodes and bytes
pub record Packs (image : List ℕ) (pieces : List (List ℕ)) (node_size : ℕ) (done : PackDone) (o o' : Sink) : Type 0 where
  pub bytes : List ℕ
  pub packing : IsPacking (header_in image) pieces node_size bytes
  pub written : Appends o o' bytes
  pub features : done.features ≡ length pieces
  pub nodes : done.nodes ≡ nodes_of packing.index
  pub size : done.bytes ≡ length bytes

-- nothing was written, or a front of the packing
pub data PacksPart (image : List ℕ) (pieces : List (List ℕ)) (node_size : ℕ) (o o' : Sink) : Type 0 where
  nothing : o' ≡ o → PacksPart image pieces node_size o o'
  front : {bytes : List ℕ} → IsPacking (header_in image) pieces node_size bytes → AppendsPart o o' bytes → PacksPart image pieces node_size o o'
