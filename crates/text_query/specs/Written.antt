-- What a query leaves of a file on its sink.
use Rattle.std.specs.Prelude.{ℕ, List, [], Option}
use Rattle.order_keys.specs.declared.bounds.Bounds.{Bounds}
use Rattle.flat_layout.specs.declared.Broken.{Broken}
use Rattle.level_bounds.specs.Levels.{Shape}
use Rattle.fgb_outside.specs.Source.{Source}
use Rattle.fgb_outside.specs.Sink.{Sink, Appends, AppendsPart}
use Rattle.fgb_file.specs.File.{header_in, BreaksInFront}
use Rattle.found_features.specs.Entries.{Entry}
use Rattle.box_query.specs.Answers.{Answers, AnswersPart, Refuses}
use Rattle.box_query.specs.Needed.{AsksNeeded, AsksNeededFront}
use Rattle.text_query.specs.Texts.{text, answer}
use Rattle.text_query.specs.declared.output.Output.{Output}

-- these are found, whatever the bytes are, and their text was written
pub record TextOf (image : List ℕ) (boxes : List Bounds) (output : Output) (o o' : Sink) : Type 0 where
  pub entries : List Entry
  pub answers : Answers image boxes entries
  pub written : Appends o o' (text output (header_in image) entries)

-- nothing was written, where nothing is found yet; or the text of what is found as far as it is known, or a front of it
pub data TextPart (image : List ℕ) (boxes : List Bounds) (output : Output) (o o' : Sink) : Type 0 where
  nothing : Appends o o' [] → TextPart image boxes output o o'
  front : {entries : List Entry} → AnswersPart image boxes entries → AppendsPart o o' (text output (header_in image) entries) → TextPart image boxes output o o'

-- the file breaks this rule at this place, in front of all features, or in what the query asks for behind; and just the
-- text of what is found before was written
pub data TextRefused (image : List ℕ) (boxes : List Bounds) (output : Output) (o o' : Sink) (broken : Broken) : Type 0 where
  in_front : BreaksInFront image broken → Appends o o' [] → TextRefused image boxes output o o' broken
  behind : {entries : List Entry} → Refuses image boxes broken entries → Appends o o' (text output (header_in image) entries)
      → TextRefused image boxes output o o' broken

-- on a file that breaks no rule just the text of the features whose own boxes meet one of these was written, in file
-- order, each once, and just the needed positions were asked for, and the holes shorter than the gap between them:
-- ascending, and each once
pub record Headline (image : List ℕ) (index : Option Shape) (pieces : List (List ℕ)) (boxes : List Bounds) (gap : ℕ) (output : Output) (s s' : Source) (o o' : Sink) : Type 0 where
  pub written : Appends o o' (answer output (header_in image) boxes pieces)
  pub asked : AsksNeeded image index boxes gap s s'

-- a front of this text was written, and a front of these positions asked for
pub record HeadlinePart (image : List ℕ) (index : Option Shape) (pieces : List (List ℕ)) (boxes : List Bounds) (gap : ℕ) (output : Output) (s s' : Source) (o o' : Sink) : Type 0 where
  pub written : AppendsPart o o' (answer output (header_in image) boxes pieces)
  pub asked : AsksNeededFront image index boxes gap s s'
