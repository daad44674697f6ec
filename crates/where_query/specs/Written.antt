-- What a query with a condition leaves of a file on its sink.
use Rattle.std.specs.Prelude.{ℕ, List, [], Option}
use Rattle.order_keys.specs.declared.bounds.Bounds.{Bounds}
use Rattle.flat_layout.specs.Promises.{Names}
use Rattle.flat_layout.specs.declared.Rule.{Rule}
use Rattle.flat_layout.specs.declared.Broken.{Broken}
use Rattle.level_bounds.specs.Levels.{Shape}
use Rattle.fgb_outside.specs.Source.{Source}
use Rattle.fgb_outside.specs.Sink.{Sink, Appends, AppendsPart}
use Rattle.fgb_file.specs.File.{header_buffer, header_in, IsOpen, BreaksInFront}
use Rattle.found_features.specs.Entries.{Entry, found}
use Rattle.box_query.specs.Answers.{Answers, AnswersPart, Refuses}
use Rattle.box_query.specs.Needed.{AsksHeader, AsksNeeded, AsksNeededFront}
use Rattle.text_query.specs.Texts.{text}
use Rattle.text_query.specs.declared.output.Output.{Output}
use Rattle.fgb_where.specs.Binding.{Bounded, Binds, BreaksCondition}
use Rattle.fgb_where.specs.Filtering.{chosen}
use Rattle.fgb_where.specs.declared.words.Condition.{Condition}

-- the entries for which a condition holds that was bound under the header of a file
abbrev pub chosen_in : List ℕ → Bounded → List Entry → List Entry
chosen_in image bounded entries = chosen (record { header = header_in image; bounded = bounded }) entries

-- the text of these
abbrev pub chosen_text : Output → List ℕ → Bounded → List Entry → List ℕ
chosen_text output image bounded entries = text output (header_in image) (chosen_in image bounded entries)

-- that of those whose own boxes meet one of these boxes, among the features of a file
abbrev pub chosen_answer : Output → List ℕ → Bounded → List Bounds → List (List ℕ) → List ℕ
chosen_answer output image bounded boxes pieces = chosen_text output image bounded (found (header_in image) boxes pieces)

-- a condition breaks no rule under the header of a file, and is bound there
abbrev pub BindsIn : List ℕ → Condition → Bounded → Type 0
BindsIn image condition bounded = Binds (header_in image) condition bounded

-- it breaks this rule at this place of the header's buffer
abbrev pub BreaksIn : List ℕ → Condition → ℕ → Rule → Type 0
BreaksIn image condition q r = BreaksCondition (header_buffer image) condition q r

-- these are found, whatever the bytes are; the condition breaks no rule; and the text of those for which it holds was
-- written
pub record TextOf (image : List ℕ) (boxes : List Bounds) (condition : Condition) (output : Output) (o o' : Sink) : Type 0 where
  pub entries : List Entry
  pub answers : Answers image boxes entries
  pub bounded : Bounded
  pub binds : BindsIn image condition bounded
  pub written : Appends o o' (chosen_text output image bounded entries)

-- nothing was written; or the condition breaks no rule, and the text of those for which it holds was written, or a front
-- of it, among what is found as far as it is known
pub data TextPart (image : List ℕ) (boxes : List Bounds) (condition : Condition) (output : Output) (o o' : Sink) : Type 0 where
  nothing : Appends o o' [] → TextPart image boxes condition output o o'
  front : {entries : List Entry} {bounded : Bounded} → AnswersPart image boxes entries → BindsIn image condition bounded
      → AppendsPart o o' (chosen_text output image bounded entries) → TextPart image boxes condition output o o'

-- the file breaks this rule at this place, in front of all features, or in what the query asks for behind, where the
-- condition breaks none; and just the text of those for which it holds was written, among what is found before
pub data TextRefused (image : List ℕ) (boxes : List Bounds) (condition : Condition) (output : Output) (o o' : Sink) (broken : Broken) : Type 0 where
  in_front : BreaksInFront image broken → Appends o o' [] → TextRefused image boxes condition output o o' broken
  behind : {entries : List Entry} {bounded : Bounded} → Refuses image boxes broken entries → BindsIn image condition bounded
      → Appends o o' (chosen_text output image bounded entries) → TextRefused image boxes condition output o o' broken

-- the condition breaks this rule at this place, under the header of a file whose start, header and index end break none;
-- just the start and the header were asked for, and nothing was written
pub record ConditionRefused (image : List ℕ) (condition : Condition) (s s' : Source) (o o' : Sink) (broken : Broken) : Type 0 where
  pub index : Option Shape
  pub opened : IsOpen image index
  pub named : Names 12 (BreaksIn image condition) broken
  pub asked : AsksHeader image s s'
  pub written : Appends o o' []

-- on a file that breaks no rule just the text of the features whose own boxes meet one of these, and for which the
-- condition holds as it is bound here, was written, in file order, each once; and just the needed positions were asked
-- for, as without a condition, and the holes shorter than the gap between them
pub record Headline (image : List ℕ) (index : Option Shape) (pieces : List (List ℕ)) (boxes : List Bounds) (bounded : Bounded) (gap : ℕ) (output : Output) (s s' : Source) (o o' : Sink) : Type 0 where
  pub written : Appends o o' (chosen_answer output image bounded boxes pieces)
  pub asked : AsksNeeded image index boxes gap s s'

-- a front of this text was written, and a front of these positions asked for
pub record HeadlinePart (image : List ℕ) (index : Option Shape) (pieces : List (List ℕ)) (boxes : List Bounds) (bounded : Bounded) (gap : ℕ) (output : Output) (s s' : Source) (o o' : Sink) : Type 0 where
  pub written : AppendsPart o o' (chosen_answer output image bounded boxes pieces)
  pub asked : AsksNeededFront image index boxes gap s s'
