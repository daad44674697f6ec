-- What a query, a check, a packing, a conversion, a making and a run promise.
use Rattle.std.specs.Prelude.{◌≡◌, ◌≢◌, ◌⊎◌, ℕ, List, [], Option, None, Some}
use Rattle.std.specs.List.{AllByRecursion}
use Rattle.order_keys.specs.declared.bounds.Bounds.{Bounds}
use Rattle.flat_layout.specs.declared.Broken.{Broken}
use Rattle.fgb_outside.specs.Source.{Source, IfTold, Rose}
use Rattle.fgb_outside.specs.Sink.{Sink, Appends, AppendsPart}
use Rattle.level_bounds.specs.Levels.{Shape}
use Rattle.fgb_file.specs.File.{header_in, IsOpen, IsUnindexed, IsFile, IsDeclared, BreaksFirst, IsValid}
use Rattle.read_stop.specs.Asks.{AsksOnly}
use Rattle.fgb_check.specs.Verdicts.{IsFileOf}
use Rattle.fgb_reader.specs.Requests.{AsksAll, AsksFront}
use Rattle.box_query.specs.Needed.{AsksSearch}
use Rattle.text_query.specs.Texts.{IsTooWide}
use Rattle.text_query.specs.Written.{TextOf, TextPart, TextRefused, Headline, HeadlinePart}
use Rattle.text_query.specs.declared.output.Output.{Output}
use Rattle.text_query.specs.declared.output.Output.TheVariants.{Fgb}
use Rattle.packed_file.specs.Packing.{IsPacking, IsTooLarge}
use Rattle.fgb_pack.specs.Packs.{PacksPart}
use Rattle.fgb_lay.specs.Laying.{HasNoRoom, IsLaid}
use Rattle.wkb_features.specs.Values.{HasValue}
use Rattle.convert_command.specs.Inputs.{Input, IsAccepted, IsInput}
use Rattle.convert_command.specs.Conversions.{WritesConversion, WritesConversionPart, IsConvertible, RefusesConversion}
use Rattle.make_command.specs.Made.{WritesMade, WritesMadePart}
use Rattle.command_words.specs.declared.format.Format.{Format}
use Rattle.command_words.specs.declared.format.Format.TheVariants as f
use Rattle.command_words.specs.Texts.{Tells, refusal_text, source_text, sink_text, memory_text, too_large_text}
use Rattle.command_words.specs.Requests.{Request, query, check, pack, convert, make, report, serve}
use Rattle.command_words.specs.Words.{Comparison}
use Rattle.command_words.specs.Asking.{comparison_in}
use Rattle.fgb_where.specs.declared.words.Condition.{Condition}
use Rattle.fgb_tool.specs.Filtered.{RunsWhere}
use Rattle.fgb_tool.specs.Texts.{accepted_text}

-- what a query of these boxes, with this gap, that writes such a text does, by the status that it ends with
pub record Runs (boxes : List Bounds) (gap : ℕ) (output : Output) (s s' : Source) (o o' e e' : Sink) (status : ℕ) : Type 0 where
  -- a file that breaks no rule is answered at 0, and at each other status by a front of that
  pub headline : status ≡ 0 → IfTold s (λ image. (index : Option Shape) (pieces : List (List ℕ)) → IsFile image index pieces → Headline image index pieces boxes gap output s s' o o')
  pub valid_part : IfTold s (λ image. (index : Option Shape) (pieces : List (List ℕ)) → IsFile image index pieces → HeadlinePart image index pieces boxes gap output s s' o o')
  -- where no count rose, it is answered, or its header laid anew would be too large, or there was no memory
  pub valid_done : IfTold s (λ image. IsValid image → (IsTooWide output (header_in image) → ⊥) → (Rose s.faults s'.faults → ⊥) → (Rose o.faults o'.faults → ⊥) → (status ≡ 0) ⊎ (status ≡ 5))
  pub valid_large : IfTold s (λ image. IsValid image → IsTooWide output (header_in image) → (Rose s.faults s'.faults → ⊥) → (status ≡ 6) ⊎ (status ≡ 5))
  -- whatever the bytes, each request lies inside one section that may be asked for; what is asked for rises, each
  -- position once, and of an index just wanted nodes
  pub declared : IfTold s (λ image. AsksOnly (IsDeclared image) s s')
  pub search : IfTold s (λ image. (t : Shape) → IsOpen image (Some t) → AsksSearch image t boxes gap s s')
  pub front : IfTold s (λ image. ((t : Shape) → IsOpen image (Some t) → ⊥) → AsksFront image s s')
  -- 0: the text of what is found was written; a file without an index breaks no rule, and all of it was asked for
  pub done : status ≡ 0 → IfTold s (λ image. TextOf image boxes output o o')
  pub sound : status ≡ 0 → IfTold s (λ image. IsUnindexed image → IsValid image × AsksAll image s s')
  pub quiet : status ≡ 0 → e' ≡ e
  -- 1: the printed rule is broken at the printed place, and just the text of what is found before it was written;
  -- without an index it is broken in the first unit in which any is
  pub refused : status ≡ 1 → (broken : Broken) × Tells e e' (refusal_text broken) × IfTold s (λ image.
      TextRefused image boxes output o o' broken × (IsUnindexed image → BreaksFirst image broken))
  -- 3, 4 and 5: the source failed, the sink failed, or there was no memory
  pub source_failed : status ≡ 3 → Rose s.faults s'.faults × Tells e e' source_text
  pub sink_failed : status ≡ 4 → Rose o.faults o'.faults × Tells e e' sink_text
  pub memory : status ≡ 5 → Tells e e' memory_text
  -- 6: a file was to be written; the start, the header and the end of the index break no rule, the header laid anew would
  -- be too large, and nothing was written
  pub large : status ≡ 6 → Tells e e' too_large_text × IfTold s (λ image.
      IsTooWide output (header_in image) × ((index : Option Shape) × IsOpen image index) × Appends o o' [])
  pub large_file : status ≡ 6 → output ≡ Fgb
  -- and it comes just there, but where the source failed before, or there was no memory
  pub large_done : IfTold s (λ image. (index : Option Shape) → IsOpen image index → IsTooWide output (header_in image)
      → ((status ≡ 6) ⊎ (status ≡ 5) ⊎ (status ≡ 3)) × Appends o o' [])
  pub statuses : (status ≡ 0) ⊎ (status ≡ 1) ⊎ (status ≡ 3) ⊎ (status ≡ 4) ⊎ (status ≡ 5) ⊎ (status ≡ 6)
  -- whatever the status, the text of what is found was written, or a front of it
  pub part : IfTold s (λ image. TextPart image boxes output o o')

-- the file breaks no rule, and the line with the numbers of its features and of its nodes was written
pub record Accepts (image : List ℕ) (o o' : Sink) : Type 0 where
  pub features : ℕ
  pub nodes : ℕ
  pub file : IsFileOf image features nodes
  pub written : Appends o o' (accepted_text features nodes)

-- nothing was written, or the line of a file that breaks no rule, or a front of it
pub data AcceptsPart (image : List ℕ) (o o' : Sink) : Type 0 where
  nothing : o' ≡ o → AcceptsPart image o o'
  line_of : {features nodes : ℕ} → IsFileOf image features nodes → AppendsPart o o' (accepted_text features nodes) → AcceptsPart image o o'

-- what a check does, by the status that it ends with
pub record Checks (s s' : Source) (o o' e e' : Sink) (status : ℕ) : Type 0 where
  -- 0: the file breaks no rule, its line was written, and all of a file without an index was asked for once
  pub done : status ≡ 0 → IfTold s (λ image. Accepts image o o')
  pub asked : status ≡ 0 → IfTold s (λ image. IsUnindexed image → AsksAll image s s')
  pub quiet : status ≡ 0 → e' ≡ e
  -- 1: the printed rule is broken at the printed place, in the first unit in which any is, and nothing was written
  pub refused : status ≡ 1 → (o' ≡ o) × ((broken : Broken) × Tells e e' (refusal_text broken) × IfTold s (λ image. BreaksFirst image broken))
  -- 3, 4 and 5: the source failed, the sink failed, or there was no memory
  pub source_failed : status ≡ 3 → (o' ≡ o) × (Rose s.faults s'.faults × Tells e e' source_text)
  pub sink_failed : status ≡ 4 → Rose o.faults o'.faults × Tells e e' sink_text
  pub memory : status ≡ 5 → Tells e e' memory_text
  pub statuses : (status ≡ 0) ⊎ (status ≡ 1) ⊎ (status ≡ 3) ⊎ (status ≡ 4) ⊎ (status ≡ 5)
  -- whatever the status, each request lay inside one section that may be asked for
  pub declared : IfTold s (λ image. AsksOnly (IsDeclared image) s s')
  -- and of a file of which no index is read a front was asked for, in order and each position once
  pub front : IfTold s (λ image. ((t : Shape) → IsOpen image (Some t) → ⊥) → AsksFront image s s')
  -- and nothing was written, or the line of a file that breaks no rule, or a front of it
  pub part : IfTold s (λ image. AcceptsPart image o o')
  -- on a file that breaks no rule its line was written, or a front of it, and it is not refused
  pub valid_part : IfTold s (λ image. (features nodes : ℕ) → IsFileOf image features nodes → AppendsPart o o' (accepted_text features nodes) × (status ≢ 1))
  -- on one that breaks a rule nothing was written, and it is not accepted
  pub broken_none : IfTold s (λ image. (IsValid image → ⊥) → (o' ≡ o) × (status ≢ 0))
  -- where no count rose, a file that breaks no rule is accepted, another refused, or there was no memory
  pub valid_done : IfTold s (λ image. IsValid image → (Rose s.faults s'.faults → ⊥) → (Rose o.faults o'.faults → ⊥) → (status ≡ 0) ⊎ (status ≡ 5))
  pub broken_done : IfTold s (λ image. (IsValid image → ⊥) → (Rose s.faults s'.faults → ⊥) → (Rose o.faults o'.faults → ⊥) → (status ≡ 1) ⊎ (status ≡ 5))

-- the packing of the features of a file was written
pub record WritesPacking (image : List ℕ) (pieces : List (List ℕ)) (node_size : ℕ) (o o' : Sink) : Type 0 where
  pub bytes : List ℕ
  pub packing : IsPacking (header_in image) pieces node_size bytes
  pub written : Appends o o' bytes

-- what a packing with nodes of so many children does, by the status that it ends with
pub record Repacks (node_size : ℕ) (s s' : Source) (o o' e e' : Sink) (status : ℕ) : Type 0 where
  -- 0: the file breaks no rule, and its packing was written
  pub done : status ≡ 0 → IfTold s (λ image. IsValid image × ((index : Option Shape) (pieces : List (List ℕ)) → IsFile image index pieces
      → WritesPacking image pieces node_size o o'))
  pub quiet : status ≡ 0 → e' ≡ e
  -- 1: the printed rule is broken at the printed place, in the first unit in which any is, and nothing was written
  pub refused : status ≡ 1 → (o' ≡ o) × ((broken : Broken) × Tells e e' (refusal_text broken) × IfTold s (λ image. BreaksFirst image broken))
  -- 3, 4 and 5: the source failed, the sink failed, or there was no memory
  pub source_failed : status ≡ 3 → Rose s.faults s'.faults × Tells e e' source_text
  pub sink_failed : status ≡ 4 → Rose o.faults o'.faults × Tells e e' sink_text
  pub memory : status ≡ 5 → Tells e e' memory_text
  -- 6: the file breaks no rule, its packing would be too large, and nothing was written
  pub too_large : status ≡ 6 → (o' ≡ o) × (Tells e e' too_large_text × IfTold s (λ image. IsValid image
      × ((index : Option Shape) (pieces : List (List ℕ)) → IsFile image index pieces → IsTooLarge (header_in image) pieces node_size)))
  pub statuses : (status ≡ 0) ⊎ (status ≡ 1) ⊎ (status ≡ 3) ⊎ (status ≡ 4) ⊎ (status ≡ 5) ⊎ (status ≡ 6)
  -- whatever the status, of a file that breaks no rule a front of its packing was written, or nothing
  pub part : IfTold s (λ image. (index : Option Shape) (pieces : List (List ℕ)) → IsFile image index pieces → PacksPart image pieces node_size o o')
  -- where that would be too large, nothing was written, and the status is not 0; where the file breaks a rule, neither
  pub large_none : IfTold s (λ image. (index : Option Shape) (pieces : List (List ℕ)) → IsFile image index pieces
      → IsTooLarge (header_in image) pieces node_size → (o' ≡ o) × (status ≢ 0))
  pub broken_none : IfTold s (λ image. (IsValid image → ⊥) → (o' ≡ o) × (status ≢ 0))
  -- where no count rose: a file that breaks no rule is packed, or is too large, another is refused, or there was no memory
  pub valid_done : IfTold s (λ image. (index : Option Shape) (pieces : List (List ℕ)) → IsFile image index pieces
      → (IsTooLarge (header_in image) pieces node_size → ⊥) → (Rose s.faults s'.faults → ⊥) → (Rose o.faults o'.faults → ⊥) → (status ≡ 0) ⊎ (status ≡ 5))
  pub large_done : IfTold s (λ image. (index : Option Shape) (pieces : List (List ℕ)) → IsFile image index pieces
      → IsTooLarge (header_in image) pieces node_size → (Rose s.faults s'.faults → ⊥) → (Rose o.faults o'.faults → ⊥) → (status ≡ 6) ⊎ (status ≡ 5))
  pub broken_done : IfTold s (λ image. (IsValid image → ⊥) → (Rose s.faults s'.faults → ⊥) → (Rose o.faults o'.faults → ⊥) → (status ≡ 1) ⊎ (status ≡ 5))

-- what a conversion from the one form to the other does, by the status that it ends with
pub record Converts (from to : Format) (s s' : Source) (o o' e e' : Sink) (status : ℕ) : Type 0 where
  -- 0: it is a file of the one form, and its conversion was written, which as a FlatGeobuf file is valid
  pub done : status ≡ 0 → IfTold s (λ image. IsAccepted from image × ((input : Input) → IsInput from image input → WritesConversion to input o o'))
  pub laid : status ≡ 0 → to ≡ f.Fgb → IfTold s (λ image. (input : Input) → IsInput from image input → IsLaid input.header input.features)
  pub quiet : status ≡ 0 → e' ≡ e
  -- 1: the printed rule is broken at the printed place, or the first feature without a value stands there, and nothing was
  -- written
  pub refused : status ≡ 1 → (o' ≡ o) × ((broken : Broken) × Tells e e' (refusal_text broken) × IfTold s (λ image. RefusesConversion from to image broken))
  -- 3, 4 and 5: the source failed, the sink failed, or there was no memory
  pub source_failed : status ≡ 3 → Rose s.faults s'.faults × Tells e e' source_text
  pub sink_failed : status ≡ 4 → Rose o.faults o'.faults × Tells e e' sink_text
  pub memory : status ≡ 5 → Tells e e' memory_text
  -- 6: a file of the one form has no room as a FlatGeobuf file, and nothing was written
  pub too_large : status ≡ 6 → (to ≡ f.Fgb) × (o' ≡ o) × (Tells e e' too_large_text × IfTold s (λ image. IsAccepted from image
      × ((input : Input) → IsInput from image input → HasNoRoom input.header input.features)))
  pub statuses : (status ≡ 0) ⊎ (status ≡ 1) ⊎ (status ≡ 3) ⊎ (status ≡ 4) ⊎ (status ≡ 5) ⊎ (status ≡ 6)
  -- whatever the status, of a file of the one form a front of its conversion was written, or nothing
  pub part : IfTold s (λ image. (input : Input) → IsInput from image input → WritesConversionPart to input o o')
  -- where that has no room, or a feature has no value, nothing was written, and the status is not 0; where it is no file of
  -- the one form, neither
  pub large_none : IfTold s (λ image. (input : Input) → IsInput from image input → to ≡ f.Fgb → HasNoRoom input.header input.features → (o' ≡ o) × (status ≢ 0))
  pub valueless_none : IfTold s (λ image. (input : Input) → IsInput from image input → to ≡ f.Wkb → (AllByRecursion HasValue input.features → ⊥)
      → (o' ≡ o) × (status ≢ 0))
  pub broken_none : IfTold s (λ image. (IsAccepted from image → ⊥) → (o' ≡ o) × (status ≢ 0))
  -- where no count rose: a file of the one form is converted, or has no room, or is refused for a feature without a value,
  -- another is refused, or there was no memory
  pub valid_done : IfTold s (λ image. (input : Input) → IsInput from image input → IsConvertible to input
      → (Rose s.faults s'.faults → ⊥) → (Rose o.faults o'.faults → ⊥) → (status ≡ 0) ⊎ (status ≡ 5))
  pub large_done : IfTold s (λ image. (input : Input) → IsInput from image input → to ≡ f.Fgb → HasNoRoom input.header input.features
      → (Rose s.faults s'.faults → ⊥) → (Rose o.faults o'.faults → ⊥) → (status ≡ 6) ⊎ (status ≡ 5))
  pub valueless_done : IfTold s (λ image. (input : Input) → IsInput from image input → to ≡ f.Wkb → (AllByRecursion HasValue input.features → ⊥)
      → (Rose s.faults s'.faults → ⊥) → (Rose o.faults o'.faults → ⊥) → (status ≡ 1) ⊎ (status ≡ 5))
  pub broken_done : IfTold s (λ image. (IsAccepted from image → ⊥) → (Rose s.faults s'.faults → ⊥) → (Rose o.faults o'.faults → ⊥) → (status ≡ 1) ⊎ (status ≡ 5))

-- what the making of so many features from this one on does, by the status that it ends with
pub record Makes (count start : ℕ) (s s' : Source) (o o' e e' : Sink) (status : ℕ) : Type 0 where
  -- 0: the lines of the features that are found were written, and behind them the line of the numbers
  pub done : status ≡ 0 → WritesMade count start o o'
  pub quiet : status ≡ 0 → e' ≡ e
  -- 4 and 5: the sink failed, or there was no memory
  pub sink_failed : status ≡ 4 → Rose o.faults o'.faults × Tells e e' sink_text
  pub memory : status ≡ 5 → Tells e e' memory_text
  pub statuses : (status ≡ 0) ⊎ (status ≡ 4) ⊎ (status ≡ 5)
  -- whatever the status, nothing was asked of the source, and a front of that text was written
  pub untouched : s' ≡ s
  pub part : WritesMadePart count start o o'
  -- where the sink did not fail, all was written, or there was no memory
  pub unfailed : (Rose o.faults o'.faults → ⊥) → (status ≡ 0) ⊎ (status ≡ 5)

-- what a query under the condition of this comparison does
pub record Compares (boxes : List Bounds) (gap : ℕ) (comparison : Comparison) (output : Output) (s s' : Source) (o o' e e' : Sink) (status : ℕ) : Type 0 where
  pub condition : Condition
  pub same : comparison_in condition ≡ comparison
  pub runs : RunsWhere boxes gap condition output s s' o o' e e' status

-- what was asked for is done
abbrev pub Does : Request → Source → Source → Sink → Sink → Sink → Sink → ℕ → Type 0
Does (query input boxes gap None output) s s' o o' e e' status = Runs boxes gap output s s' o o' e e' status
Does (query input boxes gap (Some comparison) output) s s' o o' e e' status = Compares boxes gap comparison output s s' o o' e e' status
Does (check input) s s' o o' e e' status = Checks s s' o o' e e' status
Does (pack input node_size) s s' o o' e e' status = Repacks node_size s s' o o' e e' status
Does (convert input from to) s s' o o' e e' status = Converts from to s s' o o' e e' status
Does (make count start) s s' o o' e e' status = Makes count start s s' o o' e e' status
Does (report input boxes gap) s s' o o' e e' status = ⊥
Does (serve name port connections) s s' o o' e e' status = ⊥
