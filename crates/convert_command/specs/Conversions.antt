-- What is written of an input in a form, and why not.
use Rattle.std.specs.Prelude.{◌≡◌, ⊤, ℕ, List}
use Rattle.std.specs.List.{AllByRecursion}
use Rattle.flat_layout.specs.declared.Broken.{Broken}
use Rattle.fgb_outside.specs.Sink.{Sink, Appends, AppendsPart}
use Rattle.fgb_lay.specs.Laying.{HasNoRoom, laid_file}
use Rattle.wkb_features.specs.Refusals.{IsFirstWithout}
use Rattle.wkb_features.specs.Values.{AreValues, HasValue}
use Rattle.command_words.specs.declared.format.Format.{Format}
use Rattle.command_words.specs.declared.format.Format.TheVariants.{Fgb, Wkb}
use Rattle.command_words.specs.declared.stop.Stop.{Stop}
use Rattle.command_words.specs.declared.stop.Stop.TheVariants.{Refused, SourceFailed, SinkFailed, Memory, TooLarge}
use Rattle.convert_command.specs.Inputs.{BreaksInput, Input, IsFileInput}

-- the bytes are the conversion of an input: the file without an index of its features under its header, or the values of
-- its features, one after another
abbrev pub IsConversion : Format → Input → List ℕ → Type 0
IsConversion Fgb input bytes = bytes ≡ laid_file input.header input.features
IsConversion Wkb input bytes = AreValues input.features bytes

-- there is one that can be written: the file has room, or each feature has a value
abbrev pub IsConvertible : Format → Input → Type 0
IsConvertible Fgb input = HasNoRoom input.header input.features → ⊥
IsConvertible Wkb input = AllByRecursion HasValue input.features

-- it was written
pub record WritesConversion (to : Format) (input : Input) (o o' : Sink) : Type 0 where
  pub bytes : List ℕ
  pub conversion : IsConversion to input bytes
  pub written : Appends o o' bytes

-- nothing was written, or a front of it
pub data WritesConversionPart (to : Format) (input : Input) (o o' : Sink) : Type 0 where
  nothing : o' ≡ o → WritesConversionPart to input o o'
  front : (bytes : List ℕ) → IsConversion to input bytes → AppendsPart o o' bytes → WritesConversionPart to input o o'

-- the bytes are no file of the one form, for this broken rule; or they are a FlatGeobuf file, the other form is WKB, and
-- a feature is the first that has no value
pub data RefusesConversion (from to : Format) (image : List ℕ) (broken : Broken) : Type 0 where
  no_input : BreaksInput from image broken → RefusesConversion from to image broken
  no_value : {input : Input} → from ≡ Fgb → to ≡ Wkb → IsFileInput image input → IsFirstWithout input.features input.places broken
      → RefusesConversion from to image broken

-- the source or the sink failed, or there was no memory
abbrev pub IsFault : Stop → Type 0
IsFault (Refused broken) = ⊥
IsFault SourceFailed = ⊤
IsFault SinkFailed = ⊤
IsFault Memory = ⊤
IsFault TooLarge = ⊥
