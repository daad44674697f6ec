-- What a run promises, from what its query with a condition has left.
use Rattle.std.proofs.Common.{◌≡◌, ◌⊎◌, inl, inr, ◌+◌, ℕ, List, [], Option, Some, Result, Ok, Err, OnOk, IsErrAnd, IsErrOf, MatchResult, refl, ap, subst}
use Rattle.flat_layout.specs.Promises.{IsClean}
use Rattle.flat_layout.specs.declared.Rule.{Rule}
use Rattle.flat_layout.specs.declared.Broken.{Broken}
use Rattle.order_keys.specs.declared.bounds.Bounds.{Bounds}
use Rattle.fgb_outside.specs.Source.{Source, IfTold, Rose}
use Rattle.fgb_outside.specs.Sink.{Sink, Appends}
use Rattle.fgb_file.specs.File.{header_in, IsFile, IsOpen, IsUnindexed, IsDeclared, BreaksFirst, IsValid}
use Rattle.fgb_file.proofs.Valid.{valid_file}
use Rattle.level_bounds.specs.Levels.{Shape}
use Rattle.read_stop.specs.Asks.{AsksOnly}
use Rattle.fgb_reader.specs.Requests.{AsksAll, AsksFront}
use Rattle.box_query.specs.Needed.{AsksHeaderFront, AsksSearch}
use Rattle.text_query.specs.Causes.{IfRefused as IfTextRefused}
use Rattle.text_query.specs.Texts.{IsTooWide}
use Rattle.text_query.specs.declared.error.TextError.{TextError}
use Rattle.text_query.specs.declared.error.TextError.TheVariants as text_error
use Rattle.text_query.specs.declared.output.Output.{Output}
use Rattle.text_query.specs.declared.output.Output.TheVariants.{Fgb}
use Rattle.fgb_where.specs.Binding.{Bounded}
use Rattle.fgb_where.specs.declared.words.Condition.{Condition}
use Rattle.where_query.specs.Written.{BindsIn, BreaksIn, ConditionRefused, TextOf, TextPart, TextRefused, Headline, HeadlinePart}
use Rattle.command_words.specs.declared.stop.Stop.{Stop}
use Rattle.command_words.specs.declared.stop.Stop.TheVariants.{Refused, SourceFailed, SinkFailed, Memory, TooLarge}
use Rattle.command_words.specs.Causes.{IsTextCause}
use Rattle.command_words.specs.Statuses.{IsStatus}
use Rattle.command_words.specs.Texts.{Tells, refusal_text}
use Rattle.command_words.specs.Words.{Input}
use Rattle.command_words.specs.Asking.{comparison_in}
use Rattle.command_words.specs.Requests.{Request, query}
use Rattle.command_words.proofs.Meanings.{statuses, at_done, at_refused, at_source, at_sink, at_memory, at_large, unfailed}
use Rattle.fgb_tool.specs.Filtered.{RunsWhere}
use Rattle.fgb_tool.specs.Runs.{Does}
use Rattle.fgb_tool.proofs.Running.{done_or_memory, text_of, mapped, at_ok, at_refusal, wide_status}

-- what a query with a condition leaves
pub record Filtered {T : Type 0} (boxes : List Bounds) (gap : ℕ) (condition : Condition) (output : Output) (s s' : Source) (o o' : Sink) (result : Result T TextError) : Type 0 where
  pub headline : OnOk result (IfTold s (λ image. (index : Option Shape) (pieces : List (List ℕ)) (bounded : Bounded) → IsFile image index pieces → BindsIn image condition bounded
      → Headline image index pieces boxes bounded gap output s s' o o'))
  pub headline_part : IfTold s (λ image. (index : Option Shape) (pieces : List (List ℕ)) (bounded : Bounded) → IsFile image index pieces → BindsIn image condition bounded
      → HeadlinePart image index pieces boxes bounded gap output s s' o o')
  pub done : OnOk result (IfTold s (λ image. TextOf image boxes condition output o o'))
  pub sound : OnOk result (IfTold s (λ image. IsUnindexed image → IsValid image × AsksAll image s s'))
  pub refused : IfTextRefused result (λ broken. IfTold s (λ image.
      ConditionRefused image condition s s' o o' broken
      ⊎ (TextRefused image boxes condition output o o' broken × (IsUnindexed image → BreaksFirst image broken))))
  pub unrefused : IfTold s (λ image. IsValid image → IsClean (BreaksIn image condition) → IfTextRefused result (λ _. ⊥))
  pub part : IfTold s (λ image. TextPart image boxes condition output o o')
  pub broken_condition : IfTold s (λ image. (index : Option Shape) (q : ℕ) (r : Rule) → IsOpen image index → BreaksIn image condition q r
      → ((result ≡ Err (text_error.Refused (record { place = 12 + q; rule = r }))) ⊎ (result ≡ Err text_error.Memory) ⊎ (result ≡ Err text_error.SourceFailed))
      × Appends o o' [] × AsksHeaderFront image s s')
  pub large : result ≡ Err text_error.TooLarge → IfTold s (λ image.
      IsTooWide output (header_in image) × ((index : Option Shape) × IsOpen image index) × ((bounded : Bounded) × BindsIn image condition bounded) × Appends o o' [])
  pub large_done : IfTold s (λ image. (index : Option Shape) → IsOpen image index → IsClean (BreaksIn image condition) → IsTooWide output (header_in image)
      → ((result ≡ Err text_error.TooLarge) ⊎ (result ≡ Err text_error.Memory) ⊎ (result ≡ Err text_error.SourceFailed)) × Appends o o' [])
  pub large_file : result ≡ Err text_error.TooLarge → output ≡ Fgb
  pub declared : IfTold s (λ image. AsksOnly (IsDeclared image) s s')
  pub search : IfTold s (λ image. (t : Shape) → IsOpen image (Some t) → AsksSearch image t boxes gap s s')
  pub front : IfTold s (λ image. ((t : Shape) → IsOpen image (Some t) → ⊥) → AsksFront image s s')
  pub failed : IsErrOf result text_error.SourceFailed → Rose s.faults s'.faults
  pub sink_failed : IsErrOf result text_error.SinkFailed → Rose o.faults o'.faults

-- one refusal is of one rule at one place
same_refusal : (T : Type 0) (a b : Broken) → (let refusal : Broken → Result T TextError = λ c. Err (text_error.Refused c) in refusal a ≡ refusal b) → a ≡ b
same_refusal T a b same = cc

-- refused for this, no memory, or a source that failed
condition_status : {T : Type 0} (e e' : Sink) (status : ℕ) (broken : Broken) (r : Result T Stop) → IsStatus r e e' status
    → (text_of r ≡ Err (text_error.Refused broken)) ⊎ (text_of r ≡ Err text_error.Memory) ⊎ (text_of r ≡ Err text_error.SourceFailed)
    → ((status ≡ 1) × Tells e e' (refusal_text broken)) ⊎ (status ≡ 5) ⊎ (status ≡ 3)
condition_status e e' status broken (Err Memory) is came = inr (inl is.0)
condition_status e e' status broken (Err SourceFailed) is came = inr (inr is.0)
condition_status {T = T} e e' status broken (Err (Refused other)) is came = elim came [
  | inl same ↦ inl (is.0, subst (λ b. Tells e e' (refusal_text b)) (same_refusal T other broken same) is.1)
  | inr (inl memory) ↦ cc
  | inr (inr failed) ↦ cc
]
condition_status e e' status broken (Ok done) is came = elim came [
  | inl same ↦ cc
  | inr (inl memory) ↦ cc
  | inr (inr failed) ↦ cc
]
condition_status e e' status broken (Err TooLarge) is came = elim came [
  | inl same ↦ cc
  | inr (inl memory) ↦ cc
  | inr (inr failed) ↦ cc
]
condition_status e e' status broken (Err SinkFailed) is came = elim came [
  | inl same ↦ cc
  | inr (inl memory) ↦ cc
  | inr (inr failed) ↦ cc
]

module _ {T : Type 0} (s s' : Source) (o o' e e' : Sink) (status : ℕ) (r : Result T Stop) (is : IsStatus r e e' status) where
  filters : (boxes : List Bounds) (gap : ℕ) (condition : Condition) (output : Output) → Filtered boxes gap condition output s s' o o' (text_of r) → RunsWhere boxes gap condition output s s' o o' e e' status
  filters boxes gap condition output q = record {
    headline = λ zero. (at_done e e' status r _ is (at_ok r _ q.headline) zero).0;
    valid_part = q.headline_part;
    valid_done = λ image told valid clean fits source sink. done_or_memory
        (λ one. (at_refused e e' status r _ is (at_refusal r _ (q.unrefused image told valid clean)) one).2)
        (λ six. fits (q.large (ap text_of (at_large e e' status r is six).0) image told).0)
        (unfailed e e' status r is (λ failed. source (q.failed (ap text_of failed))) (λ failed. sink (q.sink_failed (ap text_of failed))));
    valid_large = λ image told valid clean wide source.
        let file = valid_file image valid in
        elim (wide_status e e' status r is (q.large_done image told file.0 file.2.opened clean wide).0) [
          | inl six ↦ inl six
          | inr (inl five) ↦ inr five
          | inr (inr three) ↦ absurd (source (q.failed (ap text_of (at_source e e' status r is three).0)))
        ];
    broken_condition = λ image told index place rule opened breaks.
        let left = q.broken_condition image told index place rule opened breaks in (condition_status e e' status _ r is left.0, left.1, left.2);
    declared = q.declared;
    search = q.search;
    front = q.front;
    done = λ zero. (at_done e e' status r _ is (at_ok r _ q.done) zero).0;
    sound = λ zero. (at_done e e' status r _ is (at_ok r _ q.sound) zero).0;
    quiet = λ zero. (at_done e e' status r _ is (at_ok r _ q.done) zero).1;
    refused = at_refused e e' status r _ is (at_refusal r _ q.refused);
    valid_refused = λ one image told valid clean. (at_refused e e' status r _ is (at_refusal r _ (q.unrefused image told valid clean)) one).2;
    source_failed = λ three. let at = at_source e e' status r is three in (q.failed (ap text_of at.0), at.1);
    sink_failed = λ four. let at = at_sink e e' status r is four in (q.sink_failed (ap text_of at.0), at.1);
    memory = at_memory e e' status r is;
    large = λ six. let at = at_large e e' status r is six in (at.1, q.large (ap text_of at.0));
    large_file = λ six. q.large_file (ap text_of (at_large e e' status r is six).0);
    large_done = λ image told index opened clean wide. let left = q.large_done image told index opened clean wide in (wide_status e e' status r is left.0, left.1);
    statuses = statuses e e' status r is;
    part = q.part;
  }

  -- the promise at what the words ask for
  pub does_where : (file : Input) (boxes : List Bounds) (gap : ℕ) (condition : Condition) (output : Output) (request : Request) (asked : Result T TextError)
      → MatchResult asked (λ done. r ≡ Ok done) (λ error. IsErrAnd r (IsTextCause error)) → Filtered boxes gap condition output s s' o o' asked
      → query file boxes gap (Some (comparison_in condition)) output ≡ request → Does request s s' o o' e e' status
  does_where file boxes gap condition output request asked made q same =
      let kept = subst (Filtered boxes gap condition output s s' o o') (mapped asked r made) q in
      subst (λ what. Does what s s' o o' e e' status) same (record { condition = condition; same = refl; runs = filters boxes gap condition output kept })
