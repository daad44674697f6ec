-- Going through the features of a section.
use Rattle.std.specs.Prelude.{◌≡◌, ℕ, ◌+◌, ◌-◌, ◌<◌, ◌≤◌, List, length, slice_range}
use Rattle.std.specs.List.{range_with_len}
use Rattle.flat_layout.specs.declared.Broken.{Broken}
use Rattle.fgb_outside.specs.Source.{Source, IfTold}
use Rattle.fgb_outside.specs.Asked.{Reads, ReadsFront}
use Rattle.section_window.specs.Window.{IsPiece, ahead, Shows as ShowsWindow}
use Rattle.fgb_file.specs.File.{size_at, buffer_at, IsFramed, BreaksPrefix}
use Rattle.fgb_reader.specs.declared.pieces.Pieces.{Pieces}

-- the size prefix of the feature stands here, and what comes behind it here; they are one place before the first
-- feature and at the end
abbrev pub place_of : Pieces → ℕ
place_of p = p.window.at

abbrev pub next_of : Pieces → ℕ
next_of p = p.window.at + p.len

-- the first feature stands here, and the section ends here
abbrev pub first_of : Pieces → ℕ
first_of p = p.first

abbrev pub end_of : Pieces → ℕ
end_of p = p.window.end

-- the bytes before here were asked for
abbrev pub ahead_of : Pieces → ℕ
ahead_of p = ahead p.window

-- the bytes of the feature's buffer
abbrev pub buffer_of : Pieces → List ℕ
buffer_of p = slice_range p.window.bytes 4 p.len

-- what is held is the source's
abbrev pub Shows : Pieces → Source → Type 0
Shows p s = ShowsWindow p.window s

-- the feature stands at its place in the file, a size prefix and its buffer
pub record StandsIn (image : List ℕ) (p : Pieces) : Type 0 where
  pub framed : IsFramed image (place_of p)
  pub len : p.len ≡ 4 + size_at image (place_of p)
  pub buffer : buffer_of p ≡ buffer_at image (place_of p)

-- it went on behind the feature, where the section ends
pub record IsAtEnd (p p' : Pieces) : Type 0 where
  pub place : place_of p' ≡ next_of p
  pub ended : next_of p ≡ end_of p
  pub len : p'.len ≡ 0
  pub ahead : ahead_of p' ≡ end_of p

-- it went on behind the feature, where the next one stands
pub record IsAtNext (p p' : Pieces) (s : Source) : Type 0 where
  pub place : place_of p' ≡ next_of p
  pub early : next_of p < end_of p
  pub some : 4 ≤ p'.len
  pub stands : IfTold s (λ image. end_of p ≡ length image → StandsIn image p')

-- the size prefix behind the feature is broken
pub record RefusesNext (p : Pieces) (refusal : Broken) (image : List ℕ) : Type 0 where
  pub early : next_of p < length image
  pub place : refusal.place ≡ next_of p
  pub breaks : BreaksPrefix image (next_of p) refusal.rule

-- the positions between what had been asked for and what has been asked for now were asked for, by pieces of the section
pub record Fetches (p p' : Pieces) (s s' : Source) : Type 0 where
  pub reads : Reads (IsPiece (first_of p) (end_of p)) s s' (range_with_len (ahead_of p) (ahead_of p' - ahead_of p))
  pub onward : ahead_of p ≤ ahead_of p'
  pub first : first_of p' ≡ first_of p
  pub end : end_of p' ≡ end_of p
  pub shows : Shows p' s'

-- a front of the positions that were left was asked for
pub record FetchesPart (p p' : Pieces) (s s' : Source) : Type 0 where
  pub front : ReadsFront (IsPiece (first_of p) (end_of p)) s s' (range_with_len (ahead_of p) (end_of p - ahead_of p))
  pub first : first_of p' ≡ first_of p
  pub end : end_of p' ≡ end_of p
