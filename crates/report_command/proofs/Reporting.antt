-- What a report promises, from what its query and the writing of its lines have left.
use Rattle.std.proofs.Common.{◌≡◌, ◌≢◌, ◌⊎◌, inl, inr, ℕ, List, [], Result, Ok, Err, IsErrOf, subst}
use Rattle.std.specs.Prelude.{OnErr}
use Rattle.std.proofs.lemmas.List.{append-nil}
use Rattle.flat_layout.specs.declared.Broken.{Broken}
use Rattle.order_keys.specs.declared.bounds.Bounds.{Bounds}
use Rattle.fgb_outside.specs.Source.{Source}
use Rattle.fgb_outside.specs.Sink.{Sink}
use Rattle.fgb_file.specs.File.{header_in}
use Rattle.fgb_reader.proofs.Whole.{whole_front}
use Rattle.found_features.specs.Entries.{found}
use Rattle.found_features.proofs.Stopping.{on_ok_map}
use Rattle.box_query.specs.Needed.{asked}
use Rattle.fgb_reports.specs.States.{State}
use Rattle.command_words.specs.Requests.{Request, query, check, pack, convert, make, report, serve}
use Rattle.command_words.specs.Statuses.{IsStatus, IfRefused}
use Rattle.command_words.specs.declared.stop.Stop.{Stop}
use Rattle.command_words.specs.declared.stop.Stop.TheVariants.{Refused, SourceFailed, SinkFailed, Memory, TooLarge}
use Rattle.command_words.proofs.Meanings.{statuses_of_small, not_usage, at_done, at_refused, at_source, at_sink, at_memory, at_large, unfailed}
use Rattle.report_command.specs.Feeds.{Feeds, all}
use Rattle.report_command.specs.Writes.{WritesLines}
use Rattle.report_command.specs.Reports.{Reported, Reports}

-- ## Results

-- the sink failed, or there was no memory
abbrev pub SinkStops : {T : Type 0} → Result T Stop → Type 0
SinkStops r = OnErr r ((r ≡ Err SinkFailed) ⊎ (r ≡ Err Memory))

module _ {T : Type 0} where
  -- then nothing is refused, the source did not fail, and nothing is too large
  never_refused : (r : Result T Stop) (P : Broken → Type 0) → SinkStops r → IfRefused r P
  never_refused (Ok x) P stops = tt
  never_refused (Err (Refused broken)) P stops = elim stops [
    | inl sink ↦ cc
    | inr memory ↦ cc
  ]
  never_refused (Err SourceFailed) P stops = tt
  never_refused (Err SinkFailed) P stops = tt
  never_refused (Err Memory) P stops = tt
  never_refused (Err TooLarge) P stops = tt

  never_source : (r : Result T Stop) → SinkStops r → IsErrOf r SourceFailed → ⊥
  never_source (Ok x) stops is = cc
  never_source (Err stop) stops is = elim stops [
    | inl sink ↦ cc
    | inr memory ↦ cc
  ]

  never_large : (r : Result T Stop) → SinkStops r → r ≢ Err TooLarge
  never_large (Ok x) stops is = cc
  never_large (Err stop) stops is = elim stops [
    | inl sink ↦ cc
    | inr memory ↦ cc
  ]

-- ## A report

module _ {T : Type 0} (boxes : List Bounds) (gap : ℕ) (s s' : Source) (before after : List State) (o o' : Sink) where
  -- it came to its end, and the lines were written, or a front of them
  pub wrote : (x : T) (result : Result T Stop) → Feeds boxes gap s s' before after (Ok x) → WritesLines o o' after result → Reported boxes gap s s' before after o o' result
  wrote x result f w = record {
    headline = on_ok_map result _ _ (λ _. f.headline) w.whole;
    valid_part = λ image told index pieces file. record {
      taken = found (header_in image) boxes pieces;
      rest = [];
      split = append-nil (found (header_in image) boxes pieces);
      fed = (f.headline image told index pieces file).fed;
      asked = whole_front (asked image index boxes gap) (f.headline image told index pieces file).asked;
    };
    done = on_ok_map result _ _ (λ _. f.done) w.whole;
    sound = on_ok_map result _ _ (λ _. f.sound) w.whole;
    part = λ image told. all (f.done image told);
    refused = never_refused result _ w.causes;
    unrefused = λ image told valid. never_refused result _ w.causes;
    failed = λ is. absurd (never_source result w.causes is);
    sink_failed = w.failed;
    no_limit = never_large result w.causes;
    written = w.whole;
    written_part = w.part;
    unwritten = never_refused result _ w.causes;
    unread = λ is. absurd (never_source result w.causes is);
    declared = f.declared;
    search = f.search;
    front = f.front;
  }

-- ## Its status

done_or_memory : {A B C D : Type 0} → (B → ⊥) → (D → ⊥) → A ⊎ B ⊎ C ⊎ D → A ⊎ C
done_or_memory refused large (inl a) = inl a
done_or_memory refused large (inr (inl b)) = absurd (refused b)
done_or_memory refused large (inr (inr (inl c))) = inr c
done_or_memory refused large (inr (inr (inr d))) = absurd (large d)

-- the boxes of a report that is asked for, and its gap
abbrev pub boxes_asked : List Bounds → Request → List Bounds
boxes_asked other (query input boxes gap condition output) = other
boxes_asked other (check input) = other
boxes_asked other (pack input node_size) = other
boxes_asked other (convert input from to) = other
boxes_asked other (make count start) = other
boxes_asked other (report input boxes gap) = boxes
boxes_asked other (serve name port connections) = other

abbrev pub gap_asked : ℕ → Request → ℕ
gap_asked other (query input boxes gap condition output) = other
gap_asked other (check input) = other
gap_asked other (pack input node_size) = other
gap_asked other (convert input from to) = other
gap_asked other (make count start) = other
gap_asked other (report input boxes gap) = gap
gap_asked other (serve name port connections) = other

module _ {T : Type 0} (boxes : List Bounds) (gap : ℕ) (s s' : Source) (before after : List State) (o o' e e' : Sink) (status : ℕ) (r : Result T Stop) (is : IsStatus r e e' status) where
  reports : Reported boxes gap s s' before after o o' r → Reports boxes gap s s' before after o o' e e' status
  reports q = record {
    headline = λ zero. (at_done e e' status r _ is q.headline zero).0;
    valid_part = q.valid_part;
    valid_done = λ image told valid source sink. done_or_memory
        (λ one. (at_refused e e' status r _ is (q.unrefused image told valid) one).2)
        (λ six. q.no_limit (at_large e e' status r is six).0)
        (unfailed e e' status r is (λ failed. source (q.failed failed)) (λ failed. sink (q.sink_failed failed)));
    declared = q.declared;
    search = q.search;
    front = q.front;
    done = λ zero. (at_done e e' status r _ is q.done zero).0;
    sound = λ zero. (at_done e e' status r _ is q.sound zero).0;
    written = λ zero. (at_done e e' status r _ is q.written zero).0;
    quiet = λ zero. (at_done e e' status r _ is q.written zero).1;
    refused = λ one. ((at_refused e e' status r _ is q.unwritten one).2, at_refused e e' status r _ is q.refused one);
    source_failed = λ three. let at = at_source e e' status r is three in (q.unread at.0, (q.failed at.0, at.1));
    sink_failed = λ four. let at = at_sink e e' status r is four in (q.sink_failed at.0, at.1);
    memory = at_memory e e' status r is;
    statuses = statuses_of_small e e' status r q.no_limit is;
    part = q.part;
    written_part = q.written_part;
  }

  -- the promise at the boxes and the gap that the words ask for
  pub does_report : (sought : List Bounds) (bridged : ℕ) → boxes ≡ sought → gap ≡ bridged → Reported boxes gap s s' before after o o' r → (status ≢ 2) × Reports sought bridged s s' before after o o' e e' status
  does_report sought bridged same short q = (not_usage e e' status r is, subst (λ g. Reports sought g s s' before after o o' e e' status) short (subst (λ b. Reports b gap s s' before after o o' e e' status) same (reports q)))
