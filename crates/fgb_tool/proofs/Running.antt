-- What a run promises, from what its query, its check or its packing has left.
use Rattle.std.proofs.Common.{◌≡◌, ◌≢◌, ◌⊎◌, inl, inr, ℕ, List, [], Option, Some, None, Result, Ok, Err, OnOk, IsErrAnd, IsErrOf, MatchResult, sym, ap, subst}
use Rattle.flat_layout.specs.declared.Broken.{Broken}
use Rattle.order_keys.specs.declared.bounds.Bounds.{Bounds}
use Rattle.fgb_outside.specs.Source.{Source, IfTold, Rose}
use Rattle.fgb_outside.specs.Sink.{Sink, Appends, AppendsPart}
use Rattle.fgb_file.specs.File.{header_in, IsFile, IsOpen, IsUnindexed, IsDeclared, BreaksFirst, IsValid}
use Rattle.fgb_file.proofs.Passing.{first_invalid, file_sound}
use Rattle.fgb_file.proofs.Valid.{valid_file}
use Rattle.level_bounds.specs.Levels.{Shape}
use Rattle.read_stop.specs.Asks.{AsksOnly}
use Rattle.fgb_check.specs.Verdicts.{IsFileOf}
use Rattle.fgb_reader.specs.Requests.{AsksAll, AsksFront}
use Rattle.box_query.specs.Needed.{AsksSearch}
use Rattle.text_query.specs.Causes.{IfRefused as IfTextRefused}
use Rattle.text_query.specs.Texts.{IsTooWide}
use Rattle.text_query.specs.Written.{TextOf, TextPart, TextRefused, Headline, HeadlinePart}
use Rattle.text_query.specs.declared.error.TextError.{TextError}
use Rattle.text_query.specs.declared.error.TextError.TheVariants as text_error
use Rattle.text_query.specs.declared.output.Output.{Output}
use Rattle.text_query.specs.declared.output.Output.TheVariants.{Fgb}
use Rattle.packed_file.specs.Packing.{IsTooLarge}
use Rattle.fgb_pack.specs.Packs.{PacksPart}
use Rattle.command_words.specs.declared.stop.Stop.{Stop}
use Rattle.command_words.specs.declared.stop.Stop.TheVariants.{Refused, SourceFailed, SinkFailed, Memory, TooLarge}
use Rattle.command_words.specs.Causes.{IsTextCause}
use Rattle.command_words.specs.Statuses.{IsStatus, IfRefused}
use Rattle.command_words.specs.Words.{Input}
use Rattle.command_words.specs.Requests.{Request, query, check, pack}
use Rattle.command_words.proofs.Meanings.{statuses, statuses_of_small, not_usage, at_done, at_refused, at_source, at_sink, at_memory, at_large, unfailed}
use Rattle.fgb_tool.specs.Texts.{accepted_text}
use Rattle.fgb_tool.specs.Runs.{Runs, Accepts, AcceptsPart, Checks, WritesPacking, Repacks, Does}
use Rattle.fgb_tool.proofs.Checking.{numbered_valid}

-- ## What is left of four statuses

module _ {A B C D : Type 0} where
  pub done_or_memory : (B → ⊥) → (D → ⊥) → A ⊎ B ⊎ C ⊎ D → A ⊎ C
  done_or_memory refused large (inl a) = inl a
  done_or_memory refused large (inr (inl b)) = absurd (refused b)
  done_or_memory refused large (inr (inr (inl c))) = inr c
  done_or_memory refused large (inr (inr (inr d))) = absurd (large d)

  pub refused_or_memory : (A → ⊥) → (D → ⊥) → A ⊎ B ⊎ C ⊎ D → B ⊎ C
  refused_or_memory done large (inl a) = absurd (done a)
  refused_or_memory done large (inr (inl b)) = inl b
  refused_or_memory done large (inr (inr (inl c))) = inr c
  refused_or_memory done large (inr (inr (inr d))) = absurd (large d)

  pub large_or_memory : (A → ⊥) → (B → ⊥) → A ⊎ B ⊎ C ⊎ D → D ⊎ C
  large_or_memory done refused (inl a) = absurd (done a)
  large_or_memory done refused (inr (inl b)) = absurd (refused b)
  large_or_memory done refused (inr (inr (inl c))) = inr c
  large_or_memory done refused (inr (inr (inr d))) = inl d

-- ## A query

-- a result, with the errors of a query that writes a text
abbrev pub text_of : {T : Type 0} → Result T Stop → Result T TextError
text_of (Ok done) = Ok done
text_of (Err (Refused broken)) = Err (text_error.Refused broken)
text_of (Err SourceFailed) = Err text_error.SourceFailed
text_of (Err SinkFailed) = Err text_error.SinkFailed
text_of (Err Memory) = Err text_error.Memory
text_of (Err TooLarge) = Err text_error.TooLarge

module _ {T : Type 0} where
  -- it is the one whose errors were made into those of the work
  pub mapped : (r : Result T TextError) (stop : Result T Stop) → MatchResult r (λ done. stop ≡ Ok done) (λ error. IsErrAnd stop (IsTextCause error)) → r ≡ text_of stop
  mapped (Ok done) stop is = sym (ap text_of is)
  mapped (Err error) (Ok done) is = absurd is
  mapped (Err (text_error.Refused broken)) (Err cause) is = sym (ap (λ c. text_of {T = T} (Err c)) is)
  mapped (Err text_error.SourceFailed) (Err cause) is = sym (ap (λ c. text_of {T = T} (Err c)) is)
  mapped (Err text_error.SinkFailed) (Err cause) is = sym (ap (λ c. text_of {T = T} (Err c)) is)
  mapped (Err text_error.TooLarge) (Err cause) is = sym (ap (λ c. text_of {T = T} (Err c)) is)
  mapped (Err text_error.Memory) (Err cause) is = sym (ap (λ c. text_of {T = T} (Err c)) is)

  pub at_ok : (r : Result T Stop) (P : Type 0) → OnOk (text_of r) P → OnOk r P
  at_ok (Ok done) P p = p
  at_ok (Err error) P p = tt

  pub at_refusal : (r : Result T Stop) (P : Broken → Type 0) → IfTextRefused (text_of r) P → IfRefused r P
  at_refusal (Ok done) P p = tt
  at_refusal (Err (Refused broken)) P p = p
  at_refusal (Err SourceFailed) P p = tt
  at_refusal (Err SinkFailed) P p = tt
  at_refusal (Err Memory) P p = tt
  at_refusal (Err TooLarge) P p = tt

-- what a query leaves
pub record Queried {T : Type 0} (boxes : List Bounds) (gap : ℕ) (output : Output) (s s' : Source) (o o' : Sink) (result : Result T TextError) : Type 0 where
  pub headline : OnOk result (IfTold s (λ image. (index : Option Shape) (pieces : List (List ℕ)) → IsFile image index pieces → Headline image index pieces boxes gap output s s' o o'))
  pub headline_part : IfTold s (λ image. (index : Option Shape) (pieces : List (List ℕ)) → IsFile image index pieces → HeadlinePart image index pieces boxes gap output s s' o o')
  pub done : OnOk result (IfTold s (λ image. TextOf image boxes output o o'))
  pub sound : OnOk result (IfTold s (λ image. IsUnindexed image → IsValid image × AsksAll image s s'))
  pub refused : IfTextRefused result (λ broken. IfTold s (λ image. TextRefused image boxes output o o' broken × (IsUnindexed image → BreaksFirst image broken)))
  pub unrefused : IfTold s (λ image. IsValid image → IfTextRefused result (λ _. ⊥))
  pub part : IfTold s (λ image. TextPart image boxes output o o')
  pub large : result ≡ Err text_error.TooLarge → IfTold s (λ image. IsTooWide output (header_in image) × ((index : Option Shape) × IsOpen image index) × Appends o o' [])
  pub large_done : IfTold s (λ image. (index : Option Shape) → IsOpen image index → IsTooWide output (header_in image)
      → ((result ≡ Err text_error.TooLarge) ⊎ (result ≡ Err text_error.Memory) ⊎ (result ≡ Err text_error.SourceFailed)) × Appends o o' [])
  pub large_file : result ≡ Err text_error.TooLarge → output ≡ Fgb
  pub declared : IfTold s (λ image. AsksOnly (IsDeclared image) s s')
  pub search : IfTold s (λ image. (t : Shape) → IsOpen image (Some t) → AsksSearch image t boxes gap s s')
  pub front : IfTold s (λ image. ((t : Shape) → IsOpen image (Some t) → ⊥) → AsksFront image s s')
  pub failed : IsErrOf result text_error.SourceFailed → Rose s.faults s'.faults
  pub sink_failed : IsErrOf result text_error.SinkFailed → Rose o.faults o'.faults

-- too large, no memory, or a source that failed
pub wide_status : {T : Type 0} (e e' : Sink) (status : ℕ) (r : Result T Stop) → IsStatus r e e' status
    → (text_of r ≡ Err text_error.TooLarge) ⊎ (text_of r ≡ Err text_error.Memory) ⊎ (text_of r ≡ Err text_error.SourceFailed) → (status ≡ 6) ⊎ (status ≡ 5) ⊎ (status ≡ 3)
wide_status e e' status (Err TooLarge) is came = inl is.0
wide_status e e' status (Err Memory) is came = inr (inl is.0)
wide_status e e' status (Err SourceFailed) is came = inr (inr is.0)
wide_status e e' status (Ok done) is came = elim came [
  | inl large ↦ cc
  | inr (inl memory) ↦ cc
  | inr (inr failed) ↦ cc
]
wide_status e e' status (Err (Refused broken)) is came = elim came [
  | inl large ↦ cc
  | inr (inl memory) ↦ cc
  | inr (inr failed) ↦ cc
]
wide_status e e' status (Err SinkFailed) is came = elim came [
  | inl large ↦ cc
  | inr (inl memory) ↦ cc
  | inr (inr failed) ↦ cc
]

module _ {T : Type 0} (s s' : Source) (o o' e e' : Sink) (status : ℕ) (r : Result T Stop) (is : IsStatus r e e' status) where
  runs : (boxes : List Bounds) (gap : ℕ) (output : Output) → Queried boxes gap output s s' o o' (text_of r) → Runs boxes gap output s s' o o' e e' status
  runs boxes gap output q = record {
    headline = λ zero. (at_done e e' status r _ is (at_ok r _ q.headline) zero).0;
    valid_part = q.headline_part;
    valid_done = λ image told valid fits source sink. done_or_memory
        (λ one. (at_refused e e' status r _ is (at_refusal r _ (q.unrefused image told valid)) one).2)
        (λ six. fits (q.large (ap text_of (at_large e e' status r is six).0) image told).0)
        (unfailed e e' status r is (λ failed. source (q.failed (ap text_of failed))) (λ failed. sink (q.sink_failed (ap text_of failed))));
    valid_large = λ image told valid wide source.
        let file = valid_file image valid in
        elim (wide_status e e' status r is (q.large_done image told file.0 file.2.opened wide).0) [
          | inl six ↦ inl six
          | inr (inl five) ↦ inr five
          | inr (inr three) ↦ absurd (source (q.failed (ap text_of (at_source e e' status r is three).0)))
        ];
    declared = q.declared;
    search = q.search;
    front = q.front;
    done = λ zero. (at_done e e' status r _ is (at_ok r _ q.done) zero).0;
    sound = λ zero. (at_done e e' status r _ is (at_ok r _ q.sound) zero).0;
    quiet = λ zero. (at_done e e' status r _ is (at_ok r _ q.done) zero).1;
    refused = at_refused e e' status r _ is (at_refusal r _ q.refused);
    source_failed = λ three. let at = at_source e e' status r is three in (q.failed (ap text_of at.0), at.1);
    sink_failed = λ four. let at = at_sink e e' status r is four in (q.sink_failed (ap text_of at.0), at.1);
    memory = at_memory e e' status r is;
    large = λ six. let at = at_large e e' status r is six in (at.1, q.large (ap text_of at.0));
    large_file = λ six. q.large_file (ap text_of (at_large e e' status r is six).0);
    large_done = λ image told index opened wide. let left = q.large_done image told index opened wide in (wide_status e e' status r is left.0, left.1);
    statuses = statuses e e' status r is;
    part = q.part;
  }

  -- the promise at what the words ask for
  pub does_query : (file : Input) (boxes : List Bounds) (gap : ℕ) (output : Output) (request : Request) (asked : Result T TextError) → MatchResult asked (λ done. r ≡ Ok done) (λ error. IsErrAnd r (IsTextCause error))
      → Queried boxes gap output s s' o o' asked → query file boxes gap None output ≡ request → Does request s s' o o' e e' status
  does_query file boxes gap output request asked made q same =
      subst (λ what. Does what s s' o o' e e' status) same (runs boxes gap output (subst (Queried boxes gap output s s' o o') (mapped asked r made) q))

-- ## A check

-- what a check leaves
pub record Checked {T : Type 0} (s s' : Source) (o o' : Sink) (result : Result T Stop) : Type 0 where
  pub done : OnOk result (IfTold s (λ image. Accepts image o o'))
  pub refused : IfRefused result (λ broken. IfTold s (λ image. BreaksFirst image broken))
  pub declared : IfTold s (λ image. AsksOnly (IsDeclared image) s s')
  pub asked : OnOk result (IfTold s (λ image. IsUnindexed image → AsksAll image s s'))
  pub front : IfTold s (λ image. ((t : Shape) → IsOpen image (Some t) → ⊥) → AsksFront image s s')
  pub failed : IsErrOf result SourceFailed → Rose s.faults s'.faults
  pub sink_failed : IsErrOf result SinkFailed → Rose o.faults o'.faults
  pub wrote : IfTold s (λ image. AcceptsPart image o o')
  pub part : IfTold s (λ image. (features nodes : ℕ) → IsFileOf image features nodes → AppendsPart o o' (accepted_text features nodes))
  pub broken : IfTold s (λ image. (IsValid image → ⊥) → o' ≡ o)
  pub unwritten : IfRefused result (λ _. o' ≡ o)
  pub unread : IsErrOf result SourceFailed → o' ≡ o
  pub never_large : result ≢ Err TooLarge

module _ {T : Type 0} (s s' : Source) (o o' e e' : Sink) (status : ℕ) (r : Result T Stop) (is : IsStatus r e e' status) where
  checks : Checked s s' o o' r → Checks s s' o o' e e' status
  checks q =
      let refused : IfTold s (λ image. status ≡ 1 → IsValid image → ⊥) = λ image told one valid. first_invalid image ((at_refused e e' status r _ is q.refused one).2 image told) valid in
      let large : status ≢ 6 = λ six. q.never_large (at_large e e' status r is six).0 in
      let accepted : IfTold s (λ image. status ≡ 0 → (IsValid image → ⊥) → ⊥) = λ image told zero invalid. invalid (numbered_valid image ((at_done e e' status r _ is q.done zero).0 image told).file) in
      record {
        done = λ zero. (at_done e e' status r _ is q.done zero).0;
        asked = λ zero. (at_done e e' status r _ is q.asked zero).0;
        quiet = λ zero. (at_done e e' status r _ is q.asked zero).1;
        refused = λ one. ((at_refused e e' status r _ is q.unwritten one).2, at_refused e e' status r _ is q.refused one);
        source_failed = λ three. let at = at_source e e' status r is three in (q.unread at.0, (q.failed at.0, at.1));
        sink_failed = λ four. let at = at_sink e e' status r is four in (q.sink_failed at.0, at.1);
        memory = at_memory e e' status r is;
        statuses = statuses_of_small e e' status r q.never_large is;
        declared = q.declared;
        front = q.front;
        part = q.wrote;
        valid_part = λ image told features nodes file. (q.part image told features nodes file, λ one. refused image told one (numbered_valid image file));
        broken_none = λ image told invalid. (q.broken image told invalid, λ zero. accepted image told zero invalid);
        valid_done = λ image told valid source sink. done_or_memory (λ one. refused image told one valid) large
            (unfailed e e' status r is (λ failed. source (q.failed failed)) (λ failed. sink (q.sink_failed failed)));
        broken_done = λ image told invalid source sink. refused_or_memory (λ zero. accepted image told zero invalid) large
            (unfailed e e' status r is (λ failed. source (q.failed failed)) (λ failed. sink (q.sink_failed failed)));
      }

  pub does_check : (file : Input) (request : Request) → Checked s s' o o' r → check file ≡ request → (status ≢ 2) × Does request s s' o o' e e' status
  does_check file request q same = (not_usage e e' status r is, subst (λ asked. Does asked s s' o o' e e' status) same (checks q))

-- ## A packing

-- what a packing leaves
pub record Packed {T : Type 0} (node_size : ℕ) (s s' : Source) (o o' : Sink) (result : Result T Stop) : Type 0 where
  pub done : OnOk result (IfTold s (λ image. IsValid image × ((index : Option Shape) (pieces : List (List ℕ)) → IsFile image index pieces
      → WritesPacking image pieces node_size o o')))
  pub refused : IfRefused result (λ broken. IfTold s (λ image. BreaksFirst image broken))
  pub unwritten : IfRefused result (λ _. o' ≡ o)
  pub too_large : result ≡ Err TooLarge → (o' ≡ o) × IfTold s (λ image. IsValid image
      × ((index : Option Shape) (pieces : List (List ℕ)) → IsFile image index pieces → IsTooLarge (header_in image) pieces node_size))
  pub part : IfTold s (λ image. (index : Option Shape) (pieces : List (List ℕ)) → IsFile image index pieces → PacksPart image pieces node_size o o')
  pub large_none : IfTold s (λ image. (index : Option Shape) (pieces : List (List ℕ)) → IsFile image index pieces
      → IsTooLarge (header_in image) pieces node_size → (o' ≡ o) × OnOk result ⊥)
  pub broken : IfTold s (λ image. (IsValid image → ⊥) → o' ≡ o)
  pub failed : IsErrOf result SourceFailed → Rose s.faults s'.faults
  pub sink_failed : IsErrOf result SinkFailed → Rose o.faults o'.faults

module _ {T : Type 0} (s s' : Source) (o o' e e' : Sink) (status : ℕ) (r : Result T Stop) (is : IsStatus r e e' status) where
  repacks : (node_size : ℕ) → Packed node_size s s' o o' r → Repacks node_size s s' o o' e e' status
  repacks node_size q =
      let packed : IfTold s (λ image. status ≡ 0 → IsValid image) = λ image told zero. ((at_done e e' status r _ is q.done zero).0 image told).0 in
      let refused : IfTold s (λ image. status ≡ 1 → IsValid image → ⊥) = λ image told one valid. first_invalid image ((at_refused e e' status r _ is q.refused one).2 image told) valid in
      let left : (status ≡ 6) → (o' ≡ o) × IfTold s (λ image. IsValid image
      × ((index : Option Shape) (pieces : List (List ℕ)) → IsFile image index pieces → IsTooLarge (header_in image) pieces node_size)) =
      λ six. q.too_large (at_large e e' status r is six).0 in
      let unfailed_at : (Rose s.faults s'.faults → ⊥) → (Rose o.faults o'.faults → ⊥) → (status ≡ 0) ⊎ (status ≡ 1) ⊎ (status ≡ 5) ⊎ (status ≡ 6) =
      λ source sink. unfailed e e' status r is (λ failed. source (q.failed failed)) (λ failed. sink (q.sink_failed failed)) in
      record {
        done = λ zero. (at_done e e' status r _ is q.done zero).0;
        quiet = λ zero. (at_done e e' status r _ is q.done zero).1;
        refused = λ one. ((at_refused e e' status r _ is q.unwritten one).2, at_refused e e' status r _ is q.refused one);
        source_failed = λ three. let at = at_source e e' status r is three in (q.failed at.0, at.1);
        sink_failed = λ four. let at = at_sink e e' status r is four in (q.sink_failed at.0, at.1);
        memory = at_memory e e' status r is;
        too_large = λ six. ((left six).0, ((at_large e e' status r is six).1, (left six).1));
        statuses = statuses e e' status r is;
        part = q.part;
        large_none = λ image told index pieces file large.
            let none = q.large_none image told index pieces file large in (none.0, λ zero. (at_done e e' status r ⊥ is none.1 zero).0);
        broken_none = λ image told invalid. (q.broken image told invalid, λ zero. invalid (packed image told zero));
        valid_done = λ image told index pieces file fits source sink. done_or_memory
            (λ one. refused image told one (file_sound image file))
            (λ six. fits (((left six).1 image told).1 index pieces file))
            (unfailed_at source sink);
        large_done = λ image told index pieces file large source sink. large_or_memory
            (λ zero. (at_done e e' status r ⊥ is (q.large_none image told index pieces file large).1 zero).0)
            (λ one. refused image told one (file_sound image file))
            (unfailed_at source sink);
        broken_done = λ image told invalid source sink. refused_or_memory
            (λ zero. invalid (packed image told zero))
            (λ six. invalid ((left six).1 image told).0)
            (unfailed_at source sink);
      }

  pub does_pack : (file : Input) (node_size : ℕ) (request : Request) → Packed node_size s s' o o' r → pack file node_size ≡ request → (status ≢ 2) × Does request s s' o o' e e' status
  does_pack file node_size request q same = (not_usage e e' status r is, subst (λ asked. Does asked s s' o o' e e' status) same (repacks node_size q))
