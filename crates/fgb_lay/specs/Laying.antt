-- A file without an index of owned features, and what is left of its writing.
use Rattle.std.specs.Prelude.{◌≡◌, ⊤, ℕ, List, length, map, None}
use Rattle.fgb_schema.specs.Headers.{Header}
use Rattle.fgb_schema.specs.Features.{Feature}
use Rattle.fgb_outside.specs.Sink.{Sink, Appends}
use Rattle.fgb_file.specs.File.{IsFile, header_in}
use Rattle.fgb_pack.specs.declared.done.PackDone.{PackDone}
use Rattle.fgb_pack.specs.declared.done.PackError.{PackError}
use Rattle.fgb_pack.specs.declared.done.PackError.TheVariants.{Refused, SourceFailed, SinkFailed, TooLarge, Memory}
use Rattle.laid_features.specs.Buffers.{IsTooLarge, pieces_of, shown_in}
use Rattle.plain_file.specs.Plain.{IsTooLarge as IsLargeFile, plain_file, plain_header}

-- the file of these features under a header
abbrev pub laid_file : Header → List Feature → List ℕ
laid_file header features = plain_file header (pieces_of features)

-- it can't be written: a feature, the header or the file would be too large for the format
pub data HasNoRoom (header : Header) (features : List Feature) : Type 0 where
  of_feature : IsTooLarge features → HasNoRoom header features
  of_file : IsLargeFile header (pieces_of features) → HasNoRoom header features

-- it is a valid file with this header, but for the number of features and the node size, and it shows just these
-- features in their order
pub record IsLaid (header : Header) (features : List Feature) : Type 0 where
  pub file : IsFile (laid_file header features) None (pieces_of features)
  pub told : header_in (laid_file header features) ≡ plain_header header (pieces_of features)
  pub shown : map (shown_in header) (pieces_of features) ≡ features

-- it was written: so many features, no nodes, and so many bytes
pub record Lays (header : Header) (features : List Feature) (done : PackDone) (o o' : Sink) : Type 0 where
  pub written : Appends o o' (laid_file header features)
  pub valid : IsLaid header features
  pub count : done.features ≡ length features
  pub nodes : done.nodes ≡ 0
  pub size : done.bytes ≡ length (laid_file header features)

-- the errors that it may end with
abbrev pub IsOfLaying : PackError → Type 0
IsOfLaying (Refused broken) = ⊥
IsOfLaying SourceFailed = ⊥
IsOfLaying SinkFailed = ⊤
IsOfLaying TooLarge = ⊤
IsOfLaying Memory = ⊤
