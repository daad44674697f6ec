-- What a query of a file leaves, by what its visitor was handed and what was written behind it.
use Rattle.std.proofs.Common.{◌≡◌, ◌⊎◌, inl, inr, ⊎_elim, ℕ, ◌≤◌, Bool, true, false, List, [], ◌∷◌, ◌++◌, map, Option, Some, None, Result, Ok, Err, IsOk, IsErrOf, refl, sym, ap, subst, ◌∙◌, arith}
use Rattle.std.specs.Prelude.{IfOk, OnOk, OnErr}
use Rattle.std.specs.List.{flat_map}
use Rattle.std.proofs.lemmas.List.{append-nil, map-append}
use Rattle.std.proofs.lemmas.Bool.{true≢false}
use Rattle.std.proofs.Math.Seq.{take-nil}
use Rattle.flat_layout.specs.declared.Broken.{Broken}
use Rattle.order_keys.specs.declared.bounds.Bounds.{Bounds}
use Rattle.level_bounds.specs.Levels.{Shape}
use Rattle.fgb_outside.specs.Source.{Source, IfTold, Rose, added}
use Rattle.fgb_outside.specs.Sink.{Sink, Appends, AppendsPart}
use Rattle.fgb_outside.proofs.Shown.{appends_part, part_longer, rose_since, rose_until}
use Rattle.fgb_file.specs.File.{header_in, IsOpen, IsUnindexed, IsFile, IsValid, BreaksFirst}
use Rattle.fgb_file.proofs.Passing.{file_passes, file_sound, first_invalid}
use Rattle.fgb_file.proofs.Valid.{valid_file}
use Rattle.fgb_file.proofs.Opening.{open_same}
use Rattle.fgb_reader.specs.Requests.{AsksAll}
use Rattle.fgb_reader.proofs.Whole.{whole_front}
use Rattle.found_features.specs.Entries.{Entry, found}
use Rattle.found_features.specs.Visits.{Takes, Begins, Visits}
use Rattle.found_features.specs.declared.stop.QueryError.{QueryError}
use Rattle.found_features.specs.declared.stop.QueryError.TheVariants as query_error
use Rattle.found_features.specs.Stops.{IfRefused as IfQueryRefused}
use Rattle.feature_scan.specs.Scans.{whole, part, behind as behind_in_scan, at_end}
use Rattle.hit_reader.specs.Met.{entry_at}
use Rattle.box_query.specs.Answers.{met, Answers, scanned, searched, AnswersPart, scanned as scanned_part, searched as searched_part, Refuses, in_scan, at_node, at_leaf}
use Rattle.box_query.specs.Needed.{AsksNeeded, AsksNeededFront, asked as asked_positions}
use Rattle.box_query.specs.Visited.{Visited, VisitedPart, untouched, no_start, begun, VisitedRefused, in_front, behind}
use Rattle.text_query.specs.declared.error.TextError.{TextError}
use Rattle.text_query.specs.declared.error.TextError.TheVariants.{Refused, SourceFailed, SinkFailed, TooLarge, Memory}
use Rattle.text_query.specs.declared.output.Output.{Output}
use Rattle.text_query.specs.declared.output.Output.TheVariants.{Fgb}
use Rattle.text_query.specs.Causes.{IfRefused}
use Rattle.text_query.specs.Texts.{piece, text, answer, IsTooWide}
use Rattle.text_query.specs.Steps.{State}
use Rattle.text_query.specs.Written.{TextOf, TextPart, nothing, front, TextRefused, in_front as refused_in_front, behind as refused_behind, Headline, HeadlinePart}
use Rattle.text_query.proofs.Pages.{adds_whole, adds_part, adds_left, on_ok_map}
use Rattle.text_query.proofs.Writing.{text-append, Start, FailStart, Step, FailStep, adds_all, adds_some, begun_fits, all_narrow, some_narrow, visits_later, visits_stopped, visits_wide}

-- ## What holds of files that break no rule, and of a refusal of a file without an index

-- what is found is what a filter over all features finds
abbrev pub AllIsFound : Type 0
AllIsFound =
    (image : List ℕ) (index : Option Shape) (pieces : List (List ℕ)) (boxes : List Bounds) (entries : List Entry)
    → IsFile image index pieces → Answers image boxes entries → entries ≡ found (header_in image) boxes pieces

-- what is found as far as it is known is a front of what a filter finds, in a file that breaks no rule
abbrev pub PartIsFound : Type 0
PartIsFound =
    (image : List ℕ) (index : Option Shape) (pieces : List (List ℕ)) (boxes : List Bounds) (entries : List Entry)
    → IsFile image index pieces → AnswersPart image boxes entries → (rest : List Entry) × (entries ++ rest ≡ found (header_in image) boxes pieces)

-- such a file is not refused
abbrev pub IsNeverRefused : Type 0
IsNeverRefused =
    (image : List ℕ) (index : Option Shape) (pieces : List (List ℕ)) (boxes : List Bounds) (broken : Broken) (entries : List Entry)
    → IsFile image index pieces → Refuses image boxes broken entries → ⊥

-- a refusal of a file without an index names the first unit that breaks a rule
abbrev pub IsFirst : Type 0
IsFirst = (image : List ℕ) (boxes : List Bounds) (broken : Broken) (entries : List Entry) → IsUnindexed image → Refuses image boxes broken entries → BreaksFirst image broken

-- a front of nothing is nothing
pub nothing_whole : (o o' : Sink) → AppendsPart o o' [] → Appends o o' []
nothing_whole o o' written = written.1 ∙ ap (added o.written) (take-nil written.0)

module _ (image : List ℕ) (boxes : List Bounds) where
  -- all that is found is found as far as it is known
  pub part_of_all : (entries : List Entry) → Answers image boxes entries → AnswersPart image boxes entries
  part_of_all entries (scanned (whole file)) = scanned_part (part (file_passes image file))
  part_of_all entries (searched is) = searched_part is.opened

  -- what is found before a refusal is a front of what is found as far as it is known
  pub part_of_refused : (broken : Broken) (entries : List Entry) → Refuses image boxes broken entries → (rest : List Entry) × AnswersPart image boxes (entries ++ rest)
  part_of_refused broken entries (in_scan (behind_in_scan passes early breaks)) = ([], subst (AnswersPart image boxes) (sym (append-nil entries)) (scanned_part (part passes)))
  part_of_refused broken entries (in_scan (at_end passes breaks)) = ([], subst (AnswersPart image boxes) (sym (append-nil entries)) (scanned_part (part passes)))
  part_of_refused broken entries (at_node {t = t} opened breaks) = (met image t boxes, searched_part opened)
  part_of_refused broken entries (at_leaf {t = t} found_before rest k opened split breaks) = (
    map (entry_at image t) (k ∷ rest),
    subst (AnswersPart image boxes) (ap (map (entry_at image t)) split ∙ map-append (entry_at image t) found_before (k ∷ rest)) (searched_part opened),
  )

  -- a file without an index is answered by a scan of a file that breaks no rule
  pub unindexed_valid : (entries : List Entry) → Answers image boxes entries → IsUnindexed image → IsValid image
  unindexed_valid entries (scanned (whole file)) unindexed = file_sound image file
  unindexed_valid entries (searched {t = t} is) unindexed = absurd (let e : None ≡ Some t = open_same image unindexed is.opened in cc)

  -- ## Texts

  module _ (output : Output) (o o' : Sink) where
    -- the text of a front of what is found so far
    part_of_front : (entries rest : List Entry) → AnswersPart image boxes (entries ++ rest) → AppendsPart o o' (text output (header_in image) entries) → TextPart image boxes output o o'
    part_of_front entries rest answers written = front answers (subst (AppendsPart o o') (sym (text-append output (header_in image) entries rest))
        (part_longer o o' (text output (header_in image) entries) (flat_map (piece output (header_in image)) rest) written))

    -- on a file that breaks no rule it is a front of the text of its features
    part_of_file : (index : Option Shape) (pieces : List (List ℕ)) → PartIsFound → IsFile image index pieces → TextPart image boxes output o o' → AppendsPart o o' (answer output (header_in image) boxes pieces)
    part_of_file index pieces law file (nothing written) = part_longer o o' [] (answer output (header_in image) boxes pieces) (appends_part o o' [] written)
    part_of_file index pieces law file (front {entries = entries} answers written) =
        let rest = law image index pieces boxes entries file answers in
        subst (AppendsPart o o') (sym (text-append output (header_in image) entries rest.0) ∙ ap (text output (header_in image)) rest.1)
        (part_longer o o' (text output (header_in image) entries) (flat_map (piece output (header_in image)) rest.0) written)

-- ## Results

pub at_ok : {T E : Type 0} (r : Result T E) (P : T → Type 0) → IfOk r P → IsOk r → (x : T) × P x
at_ok (Ok x) P p is = (x, p)
at_ok (Err e) P p is = absurd (true≢false (sym is))

-- whichever way it went
pub either : {T E : Type 0} (r : Result T E) (A B Q : Type 0) → (A → Q) → (B → Q) → OnOk r A → OnErr r B → Q
either (Ok x) A B Q f g a b = f a
either (Err e) A B Q f g a b = g b

pub refused_map : {T : Type 0} (r : Result T TextError) (P Q : Broken → Type 0) → ((b : Broken) → P b → Q b) → IfRefused r P → IfRefused r Q
refused_map (Ok x) P Q f p = tt
refused_map (Err (Refused b)) P Q f p = f b p
refused_map (Err SourceFailed) P Q f p = tt
refused_map (Err SinkFailed) P Q f p = tt
refused_map (Err TooLarge) P Q f p = tt
refused_map (Err Memory) P Q f p = tt

pub failed_apart : {T : Type 0} (r : Result T TextError) → r ≡ Err SinkFailed → r ≡ Err TooLarge → ⊥
failed_apart r failed large = cc (failed, large)

-- ## A query of a file

-- what it promises
pub record Queried {T : Type 0} (boxes : List Bounds) (gap : ℕ) (output : Output) (s s' : Source) (o o' : Sink) (result : Result T TextError) : Type 0 where
  pub headline : OnOk result (IfTold s (λ image. (index : Option Shape) (pieces : List (List ℕ)) → IsFile image index pieces → Headline image index pieces boxes gap output s s' o o'))
  pub headline_part : IfTold s (λ image. (index : Option Shape) (pieces : List (List ℕ)) → IsFile image index pieces → HeadlinePart image index pieces boxes gap output s s' o o')
  pub done : OnOk result (IfTold s (λ image. TextOf image boxes output o o'))
  pub sound : OnOk result (IfTold s (λ image. IsUnindexed image → IsValid image × AsksAll image s s'))
  pub refused : IfRefused result (λ broken. IfTold s (λ image. TextRefused image boxes output o o' broken × (IsUnindexed image → BreaksFirst image broken)))
  pub unrefused : IfTold s (λ image. IsValid image → IfRefused result (λ _. ⊥))
  pub part : IfTold s (λ image. TextPart image boxes output o o')
  pub large : result ≡ Err TooLarge → IfTold s (λ image. IsTooWide output (header_in image) × ((index : Option Shape) × IsOpen image index) × Appends o o' [])
  pub large_done : IfTold s (λ image. (index : Option Shape) → IsOpen image index → IsTooWide output (header_in image)
      → ((result ≡ Err TooLarge) ⊎ (result ≡ Err Memory) ⊎ (result ≡ Err SourceFailed)) × Appends o o' [])
  pub large_file : result ≡ Err TooLarge → output ≡ Fgb
  pub sink_failed : IsErrOf result SinkFailed → Rose o.faults o'.faults

-- what the writing of what is left on the page leaves behind it
pub record Finishing {T D : Type 0} (asked : Result D QueryError) (wide : Bool) (o o' : Sink) (page : List ℕ) (result : Result T TextError) : Type 0 where
  pub done : OnOk result (IsOk asked × Appends o o' page)
  pub refused : IfRefused result (λ broken. IsErrOf asked (query_error.Refused broken) × Appends o o' page)
  pub part : AppendsPart o o' page
  pub sink_failed : IsErrOf result SinkFailed → IsErrOf asked query_error.VisitorStopped ⊎ Rose o.faults o'.faults
  pub idle : page ≡ [] → IsErrOf result SinkFailed → IsErrOf asked query_error.VisitorStopped
  pub large : result ≡ Err TooLarge → wide ≡ true
  pub too_wide : wide ≡ true → result ≡ Err TooLarge
  pub later : o.faults ≤ o'.faults

-- a query of a visitor that writes texts: by its reference and its state
module _ {V N D : Type 0} (name : V → N) (state : V → State) (count : D → ℕ) (boxes : List Bounds) (gap : ℕ) (v w : V) where
  abbrev Took : List ℕ → D → Type 0
  Took image d = Visited (Start name state) (FailStart name state) (Step name state) (FailStep name state) image boxes v w (count d)

  abbrev TookPart : Source → Source → List ℕ → Type 0
  TookPart s s' image = VisitedPart (Start name state) (FailStart name state) (Step name state) (FailStep name state) image boxes s s' v w

  abbrev TookRefused : List ℕ → Broken → Type 0
  TookRefused image broken = VisitedRefused (Start name state) (FailStart name state) (Step name state) (FailStep name state) image boxes v w broken

  -- what it leaves
  pub record Visiting (s s' : Source) (asked : Result D QueryError) : Type 0 where
    pub done : IfOk asked (λ d. IfTold s (λ image. Took image d))
    pub needed : OnOk asked (IfTold s (λ image. (index : Option Shape) (pieces : List (List ℕ)) → IsFile image index pieces → AsksNeeded image index boxes gap s s'))
    pub all : OnOk asked (IfTold s (λ image. IsUnindexed image → AsksAll image s s'))
    pub part : OnErr asked (IfTold s (λ image. TookPart s s' image))
    pub needed_part : OnErr asked (IfTold s (λ image. (index : Option Shape) (pieces : List (List ℕ)) → IsFile image index pieces → AsksNeededFront image index boxes gap s s'))
    pub refused : IfQueryRefused asked (λ broken. IfTold s (λ image. TookRefused image broken))
    pub visits : Visits (Start name state) (FailStart name state) (Step name state) (FailStep name state) v w
    pub stopped : IsErrOf asked query_error.VisitorStopped → Rose (state v).stops (state w).stops

  module _ {T : Type 0} (s s' : Source) (asked : Result D QueryError) (last : Sink) (result : Result T TextError) (visiting : Visiting s s' asked)
      (finishing : Finishing asked (state w).wide (state w).sink last (state w).page result) (empty : (state v).page ≡ []) (fits : (state v).wide ≡ false) (starts : (state v).stops ≡ 0) where
    abbrev output : Output
    output = (state v).output

    abbrev o : Sink
    o = (state v).sink

    later : o.faults ≤ (state w).sink.faults
    later = visits_later name state v w visiting.visits

    -- it stopped, and no header was too wide: the sink failed
    rose_before : Rose (state v).stops (state w).stops → ((state w).wide ≡ true → ⊥) → Rose o.faults last.faults
    rose_before rose narrow =
        let stopped : (state w).stops ≡ (state v).stops → ⊥ = λ same. omega (arith, starts, rose, same) in
        ⊎_elim (λ wide. absurd (narrow wide)) (λ risen. rose_until o.faults (state w).sink.faults last.faults risen finishing.later) (visits_stopped name state v w visiting.visits stopped)

    -- what is not too wide later was not so before
    narrow_wide : (state w).wide ≡ (state v).wide → (state w).wide ≡ true → ⊥
    narrow_wide same wide = true≢false (sym wide ∙ same ∙ fits)

    sink_rose : IsErrOf result SinkFailed → Rose o.faults last.faults
    sink_rose is = ⊎_elim
        (λ stopped. rose_before (visiting.stopped stopped) (λ wide. failed_apart result is (finishing.too_wide wide)))
        (λ rose. rose_since o.faults (state w).sink.faults last.faults later rose) (finishing.sink_failed is)

    -- the writer's page is empty, and nothing was written
    none_part : (state w).sink ≡ o → (state w).page ≡ (state v).page → AppendsPart o last []
    none_part sink page = subst (λ p. AppendsPart o last p) (page ∙ empty) (subst (λ x. AppendsPart x last (state w).page) sink finishing.part)

    none_whole : (state w).sink ≡ o → (state w).page ≡ (state v).page → Appends o last []
    none_whole sink page = nothing_whole o last (none_part sink page)

    module _ (image : List ℕ) (told : s.image ≡ Some image) where
      -- the text of what was handed over, where all of it was taken
      module _ (entries : List Entry) (begins : Begins (Start name state) v (header_in image) (λ u. Takes (Step name state) u entries w)) where
        wrote_all : Appends (state w).sink last (state w).page → Appends o last (text output (header_in image) entries)
        wrote_all written = adds_whole o (state w).sink (state w).page (text output (header_in image) entries) (adds_all name state v w (header_in image) entries empty begins) last written

        wrote_part : AppendsPart o last (text output (header_in image) entries)
        wrote_part = adds_part o (state w).sink (state w).page (text output (header_in image) entries) (adds_all name state v w (header_in image) entries empty begins) last finishing.part

      text_of : IsOk asked → Appends (state w).sink last (state w).page → TextOf image boxes output o last
      text_of ok written =
          let visited = (at_ok asked _ visiting.done ok).1 image told in
          record { entries = visited.entries; answers = visited.answers; written = wrote_all visited.entries visited.begins written }

      -- the writer was left alone, and nothing was written
      untouched_all : w ≡ v → Appends o last []
      untouched_all same = none_whole (ap (λ x. (state x).sink) same) (ap (λ x. (state x).page) same)

      at_refused : (broken : Broken) → IsErrOf asked (query_error.Refused broken) → TookRefused image broken
      at_refused broken is = subst (λ r. IfQueryRefused r (λ b. IfTold s (λ bytes. TookRefused bytes b))) is visiting.refused image told

      at_part : (e : QueryError) → asked ≡ Err e → TookPart s s' image
      at_part e is = subst (λ r. OnErr r (IfTold s (λ bytes. TookPart s s' bytes))) is visiting.part image told

      at_done : (d : D) → asked ≡ Ok d → Took image d
      at_done d is = subst (λ r. IfOk r (λ x. IfTold s (λ bytes. Took bytes x))) is visiting.done image told

      text_refused : (broken : Broken) → Appends (state w).sink last (state w).page → TookRefused image broken → TextRefused image boxes output o last broken
      text_refused broken written (in_front breaks same) = refused_in_front breaks (untouched_all same)
      text_refused broken written (behind entries refuses begins) = refused_behind refuses (wrote_all entries begins written)

      part_refused : (broken : Broken) → TookRefused image broken → TextPart image boxes output o last
      part_refused broken (in_front breaks same) = nothing (untouched_all same)
      part_refused broken (behind entries refuses begins) =
          let all = part_of_refused image boxes broken entries refuses in part_of_front image boxes output o last entries all.0 all.1 (wrote_part entries begins)

      -- it stopped before its end
      part_stopped : TookPart s s' image → TextPart image boxes output o last
      part_stopped (untouched same asks) = nothing (untouched_all same)
      part_stopped (no_start index opened fails asks) = nothing (none_whole fails.1.sink fails.1.page)
      part_stopped (begun due answers begins) =
          front answers (adds_left o (state w).sink (state w).page (text output (header_in image) due) (adds_some name state v w (header_in image) due empty begins) last finishing.part)

      text_part : TextPart image boxes output o last
      text_part = by_result asked refl
        where
          by_result : (r : Result D QueryError) → asked ≡ r → TextPart image boxes output o last
          by_result (Ok d) is = let took = at_done d is in front (part_of_all image boxes took.entries took.answers) (wrote_part took.entries took.begins)
          by_result (Err (query_error.Refused broken)) is = part_refused broken (at_refused broken is)
          by_result (Err query_error.SourceFailed) is = part_stopped (at_part query_error.SourceFailed is)
          by_result (Err query_error.VisitorStopped) is = part_stopped (at_part query_error.VisitorStopped is)
          by_result (Err query_error.Memory) is = part_stopped (at_part query_error.Memory is)

      -- ## A header that is too wide

      -- where it was found to be so
      abbrev WasWide : Type 0
      WasWide = IsTooWide output (header_in image) × ((index : Option Shape) × IsOpen image index) × Appends o last []

      wide_refused : (broken : Broken) → (state w).wide ≡ true → TookRefused image broken → ⊥
      wide_refused broken wide (in_front breaks same) = narrow_wide (ap (λ x. (state x).wide) same) wide
      wide_refused broken wide (behind entries refuses begins) = narrow_wide (all_narrow name state v w (header_in image) entries begins) wide

      wide_stopped : (state w).wide ≡ true → TookPart s s' image → WasWide
      wide_stopped wide (untouched same asks) = absurd (narrow_wide (ap (λ x. (state x).wide) same) wide)
      wide_stopped wide (no_start index opened fails asks) =
          ⊎_elim (λ same. absurd (narrow_wide same.0 wide)) (λ is. (is.1, (index, opened), none_whole fails.1.sink fails.1.page)) fails.1.reason
      wide_stopped wide (begun due answers begins) = absurd (narrow_wide (some_narrow name state v w (header_in image) due begins) wide)

      was_wide : (state w).wide ≡ true → WasWide
      was_wide wide = by_result asked refl
        where
          by_result : (r : Result D QueryError) → asked ≡ r → WasWide
          by_result (Ok d) is = let took = at_done d is in absurd (narrow_wide (all_narrow name state v w (header_in image) took.entries took.begins) wide)
          by_result (Err (query_error.Refused broken)) is = absurd (wide_refused broken wide (at_refused broken is))
          by_result (Err query_error.SourceFailed) is = wide_stopped wide (at_part query_error.SourceFailed is)
          by_result (Err query_error.VisitorStopped) is = wide_stopped wide (at_part query_error.VisitorStopped is)
          by_result (Err query_error.Memory) is = wide_stopped wide (at_part query_error.Memory is)

      -- where it is so: nothing is handed over, nothing was written, and the writer says it or has not stopped
      module _ (index : Option Shape) (opened : IsOpen image index) (too_wide : IsTooWide output (header_in image)) where
        pub record IsIdle : Type 0 where
          pub page : (state w).page ≡ []
          pub unwritten : Appends o last []
          pub reason : ((state w).wide ≡ true) ⊎ ((state w).stops ≡ (state v).stops)

        never_refused : (broken : Broken) → TookRefused image broken → ⊥
        never_refused broken (in_front breaks same) = breaks.unreached index opened
        never_refused broken (behind entries refuses begins) = begun_fits name state v w (header_in image) begins too_wide

        idle_part : TookPart s s' image → IsIdle
        idle_part (untouched same asks) = record { page = ap (λ x. (state x).page) same ∙ empty; unwritten = untouched_all same; reason = inr (ap (λ x. (state x).stops) same) }
        idle_part (no_start other also fails asks) = record {
          page = fails.1.page ∙ empty;
          unwritten = none_whole fails.1.sink fails.1.page;
          reason = ⊎_elim (λ same. inr same.1) (λ is. inl is.0) fails.1.reason;
        }
        idle_part (begun due answers begins) = absurd (begun_fits name state v w (header_in image) begins too_wide)

        never_done : (d : D) → asked ≡ Ok d → ⊥
        never_done d is = begun_fits name state v w (header_in image) (at_done d is).begins too_wide

        idle : IsIdle
        idle = by_result asked refl
          where
            by_result : (r : Result D QueryError) → asked ≡ r → IsIdle
            by_result (Ok d) is = absurd (never_done d is)
            by_result (Err (query_error.Refused broken)) is = absurd (never_refused broken (at_refused broken is))
            by_result (Err query_error.SourceFailed) is = idle_part (at_part query_error.SourceFailed is)
            by_result (Err query_error.VisitorStopped) is = idle_part (at_part query_error.VisitorStopped is)
            by_result (Err query_error.Memory) is = idle_part (at_part query_error.Memory is)

        abbrev Ends : Type 0
        Ends = (result ≡ Err TooLarge) ⊎ (result ≡ Err Memory) ⊎ (result ≡ Err SourceFailed)

        -- the sink does not fail
        sink_well : IsErrOf result SinkFailed → ⊥
        sink_well is = ⊎_elim
            (λ wide. failed_apart result is (finishing.too_wide wide))
            (λ same. let rose = visiting.stopped (finishing.idle idle.page is) in omega (arith, same, rose, starts))
            idle.reason

        ends : Ends
        ends = by_result result refl
          where
            by_result : (r : Result T TextError) → result ≡ r → Ends
            by_result (Ok x) is =
                let ok = (subst (λ r. OnOk r (IsOk asked × Appends (state w).sink last (state w).page)) is finishing.done).0 in
                let visited = (at_ok asked _ visiting.done ok).1 image told in
                absurd (begun_fits name state v w (header_in image) visited.begins too_wide)
            by_result (Err (Refused broken)) is =
                let stop = subst (λ r. IfRefused r (λ b. IsErrOf asked (query_error.Refused b) × Appends (state w).sink last (state w).page)) is finishing.refused in
                absurd (never_refused broken (at_refused broken stop.0))
            by_result (Err SourceFailed) is = inr (inr is)
            by_result (Err SinkFailed) is = absurd (sink_well is)
            by_result (Err TooLarge) is = inl is
            by_result (Err Memory) is = inr (inl is)

    asked_part : IfTold s (λ image. (index : Option Shape) (pieces : List (List ℕ)) → IsFile image index pieces → AsksNeededFront image index boxes gap s s')
    asked_part = either asked _ _ _ (λ all image told index pieces file. whole_front (asked_positions image index boxes gap) (all image told index pieces file)) (λ part. part) visiting.needed visiting.needed_part

    module _ (all_found : AllIsFound) (part_found : PartIsFound) (never : IsNeverRefused) (first_broken : IsFirst) where
      headline : (image : List ℕ) → s.image ≡ Some image → (index : Option Shape) (pieces : List (List ℕ)) → IsFile image index pieces → IsOk asked → TextOf image boxes output o last
          → Headline image index pieces boxes gap output s s' o last
      headline image told index pieces file ok of = record {
        written = subst (Appends o last) (ap (text output (header_in image)) (all_found image index pieces boxes of.entries file of.answers)) of.written;
        asked = (at_ok asked _ visiting.needed ok).1 image told index pieces file;
      }

      first : (image : List ℕ) (broken : Broken) → TextRefused image boxes output o last broken → IsUnindexed image → BreaksFirst image broken
      first image broken (refused_in_front breaks written) unindexed = breaks.first
      first image broken (refused_behind {entries = entries} refuses written) unindexed = first_broken image boxes broken entries unindexed refuses

      -- a file that breaks no rule is not refused
      unrefused : (image : List ℕ) (broken : Broken) → TextRefused image boxes output o last broken → IsValid image → ⊥
      unrefused image broken (refused_in_front breaks written) valid = first_invalid image breaks.first valid
      unrefused image broken (refused_behind {entries = entries} refuses written) valid =
          let file = valid_file image valid in
          never image file.0 file.1 boxes broken entries file.2 refuses

      pub queried : Queried boxes gap output s s' o last result
      queried = record {
        headline = on_ok_map result _ _ (λ ended image told index pieces file. headline image told index pieces file ended.0 (text_of image told ended.0 ended.1)) finishing.done;
        headline_part = λ image told index pieces file. record {
          written = part_of_file image boxes output o last index pieces part_found file (text_part image told);
          asked = asked_part image told index pieces file;
        };
        done = on_ok_map result _ _ (λ ended image told. text_of image told ended.0 ended.1) finishing.done;
        sound = on_ok_map result _ _ (λ ended image told unindexed.
            let of = text_of image told ended.0 ended.1 in (unindexed_valid image boxes of.entries of.answers unindexed, (at_ok asked _ visiting.all ended.0).1 image told unindexed)) finishing.done;
        refused = refused_map result _ _ (λ broken stop image told.
            let refusal = text_refused image told broken stop.1 (at_refused image told broken stop.0) in (refusal, first image broken refusal)) finishing.refused;
        unrefused = λ image told valid. refused_map result _ _ (λ broken stop.
            unrefused image broken (text_refused image told broken stop.1 (at_refused image told broken stop.0)) valid) finishing.refused;
        part = text_part;
        large = λ is image told. was_wide image told (finishing.large is);
        large_done = λ image told index opened wide. (ends image told index opened wide, (idle image told index opened wide).unwritten);
        large_file = λ is. visits_wide name state v w visiting.visits (λ same. narrow_wide same (finishing.large is));
        sink_failed = sink_rose;
      }

-- the same of equal outputs and sinks
pub queried_at : {T : Type 0} (boxes : List Bounds) (gap : ℕ) (a b : Output) (s s' : Source) (o p last end : Sink) (result : Result T TextError) → a ≡ b → o ≡ p → last ≡ end
    → Queried boxes gap a s s' o last result → Queried boxes gap b s s' p end result
queried_at boxes gap a b s s' o p last end result output sink closed is =
    subst (λ x. Queried boxes gap x s s' p end result) output (subst (λ x. Queried boxes gap a s s' x end result) sink (subst (λ x. Queried boxes gap a s s' o x result) closed is))
