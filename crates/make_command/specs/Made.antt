-- The file that is made, and what is written of it.
use Rattle.std.specs.Prelude.{◌≡◌, ⊤, ℕ, pos, negsuc, List, [], ◌∷◌, ◌++◌, length, codes, decimal, Option}
use Rattle.order_keys.specs.declared.bounds.Bounds.{Bounds}
use Rattle.level_bounds.specs.Levels.{Shape}
use Rattle.fgb_schema.specs.Features.{Feature}
use Rattle.fgb_outside.specs.Sink.{Sink, Appends, AppendsPart}
use Rattle.fgb_file.specs.File.{header_in, nodes_of}
use Rattle.found_features.specs.Entries.{found}
use Rattle.box_query.specs.Needed.{asked as asked_positions}
use Rattle.text_query.specs.Texts.{answer}
use Rattle.text_query.specs.declared.output.Output.TheVariants.{Lines}
use Rattle.packed_file.specs.Packing.{IsPacking, in_order}
use Rattle.laid_features.specs.Buffers.{pieces_of}
use Rattle.grid_features.specs.Grid.{AreGridFrom, IsPattern, grid_header}
use Rattle.command_words.specs.declared.stop.Stop.{Stop}
use Rattle.command_words.specs.declared.stop.Stop.TheVariants.{Refused, SourceFailed, SinkFailed, Memory, TooLarge}

-- the bytes are the packing of so many features of the grid from this start on, with at most 16 children of a node: with
-- this index, and with the features as they stand there
pub record IsMadeFile (count start : ℕ) (bytes : List ℕ) (index : Option Shape) (pieces : List (List ℕ)) : Type 0 where
  pub features : List Feature
  pub grid : AreGridFrom start 0 features
  pub counted : length features ≡ count
  pub packing : IsPacking grid_header (pieces_of features) 16 bytes
  pub indexed : index ≡ packing.index
  pub ordered : pieces ≡ in_order (pieces_of features) packing.order

-- the box from -10 to 10 across and up
pub record IsTenAround (box : Bounds) : Type 0 where
  pub min_x : IsPattern (negsuc 9) box.min_x.0
  pub min_y : IsPattern (negsuc 9) box.min_y.0
  pub max_x : IsPattern (pos 10) box.max_x.0
  pub max_y : IsPattern (pos 10) box.max_y.0

-- the line of a file that was made and queried: how many features, nodes and bytes it has, how many features were found,
-- and how many positions were asked for
unfoldable pub summary_line : ℕ → ℕ → ℕ → ℕ → ℕ → List ℕ
summary_line features nodes bytes found asked =
    codes "features " ++ decimal features ++ codes " nodes " ++ decimal nodes ++ codes " bytes " ++ decimal bytes
    ++ codes " found " ++ decimal found ++ codes " asked " ++ decimal asked ++ 10 ∷ []

-- what is written of a file of so many features, with this index and these pieces: the lines of those that meet the box,
-- and the line of its numbers
abbrev pub text_of : ℕ → List ℕ → Option Shape → List (List ℕ) → Bounds → List ℕ
text_of count bytes index pieces box =
    answer Lines (header_in bytes) (box ∷ []) pieces
    ++ summary_line count (nodes_of index) (length bytes) (length (found (header_in bytes) (box ∷ []) pieces)) (length (asked_positions bytes index (box ∷ []) 0))

-- it is the text of the file that is made, which is queried with the box from -10 to 10
pub record IsMadeText (count start : ℕ) (text : List ℕ) : Type 0 where
  pub bytes : List ℕ
  pub index : Option Shape
  pub pieces : List (List ℕ)
  pub file : IsMadeFile count start bytes index pieces
  pub box : Bounds
  pub around : IsTenAround box
  pub whole : text ≡ text_of count bytes index pieces box

-- it was written
pub record WritesMade (count start : ℕ) (o o' : Sink) : Type 0 where
  pub text : List ℕ
  pub made : IsMadeText count start text
  pub written : Appends o o' text

-- nothing was written, or a front of it
pub data WritesMadePart (count start : ℕ) (o o' : Sink) : Type 0 where
  nothing : o' ≡ o → WritesMadePart count start o o'
  front : {text : List ℕ} → IsMadeText count start text → AppendsPart o o' text → WritesMadePart count start o o'

-- the sink failed, or there was no memory
abbrev pub IsFault : Stop → Type 0
IsFault (Refused broken) = ⊥
IsFault SourceFailed = ⊥
IsFault SinkFailed = ⊤
IsFault Memory = ⊤
IsFault TooLarge = ⊥
