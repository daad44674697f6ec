-- What a query with a condition leaves of a file, by what its visitor was handed and what was written behind it.
use Rattle.std.proofs.Common.{◌≡◌, ◌⊎◌, inl, inr, ⊎_elim, ℕ, ◌+◌, ◌≤◌, Bool, true, false, List, [], ◌++◌, Option, Some, None, Result, Ok, Err, IsOk, IsErrOf, refl, sym, ap, subst, ◌∙◌, arith}
use Rattle.std.specs.Prelude.{IfOk, OnOk, OnErr}
use Rattle.std.specs.List.{flat_map}
use Rattle.std.proofs.lemmas.Bool.{true≢false}
use Rattle.std.proofs.lemmas.List.Elements.{filter-append}
use Rattle.flat_layout.specs.declared.Rule.{Rule}
use Rattle.flat_layout.specs.declared.Broken.{Broken}
use Rattle.flat_layout.specs.Promises.{IsClean, Names}
use Rattle.order_keys.specs.declared.bounds.Bounds.{Bounds}
use Rattle.level_bounds.specs.Levels.{Shape}
use Rattle.fgb_outside.specs.Source.{Source, IfTold, Rose}
use Rattle.fgb_outside.specs.Sink.{Sink, Appends, AppendsPart}
use Rattle.fgb_outside.proofs.Shown.{appends_nothing, appends_part, part_longer, rose_since, rose_until}
use Rattle.fgb_file.specs.File.{header_buffer, header_in, IsOpen, IsUnindexed, IsFile, IsValid, BreaksFirst}
use Rattle.fgb_file.proofs.Passing.{first_invalid}
use Rattle.fgb_file.proofs.Valid.{valid_file}
use Rattle.fgb_reader.specs.Requests.{AsksAll}
use Rattle.fgb_reader.proofs.Whole.{whole_front}
use Rattle.found_features.specs.Entries.{Entry}
use Rattle.found_features.specs.Visits.{Takes, TakesPart, Begins, Visits}
use Rattle.found_features.specs.declared.stop.QueryError.{QueryError}
use Rattle.found_features.specs.declared.stop.QueryError.TheVariants as query_error
use Rattle.found_features.specs.Stops.{IfRefused as IfQueryRefused}
use Rattle.box_query.specs.Answers.{AnswersPart}
use Rattle.box_query.specs.Needed.{AsksHeader, AsksHeaderFront, AsksNeeded, AsksNeededFront, asked as asked_positions}
use Rattle.box_query.specs.Visited.{bytes_in, Visited, VisitedPart, untouched, no_start, begun, VisitedRefused, in_front, behind}
use Rattle.text_query.specs.declared.error.TextError.{TextError}
use Rattle.text_query.specs.declared.error.TextError.TheVariants.{Refused, SourceFailed, SinkFailed, TooLarge, Memory}
use Rattle.text_query.specs.declared.output.Output.{Output}
use Rattle.text_query.specs.declared.output.Output.TheVariants.{Fgb}
use Rattle.text_query.specs.Causes.{IfRefused}
use Rattle.text_query.specs.Texts.{piece, text, IsTooWide}
use Rattle.text_query.specs.Steps.{State as Shown}
use Rattle.text_query.proofs.Pages.{adds_whole, adds_part, adds_left, on_ok_map}
use Rattle.text_query.proofs.Writing.{text-append, Start, FailStart, Step, FailStep, adds_all, adds_some, begun_fits, all_narrow, some_narrow, visits_later, visits_stopped, visits_wide}
use Rattle.text_query.proofs.Answering.{AllIsFound, PartIsFound, IsNeverRefused, IsFirst, Finishing, nothing_whole, part_of_all, part_of_refused, unindexed_valid, at_ok, either, refused_map, failed_apart}
use Rattle.fgb_where.specs.declared.words.Condition.{Condition}
use Rattle.fgb_where.specs.Binding.{Bounded}
use Rattle.fgb_where.specs.Filtering.{Under, State, Starts, FailsStart, at_condition, at_memory, inside, Steps, FailsStep, passes, chosen}
use Rattle.fgb_where.proofs.Choosing.{BeginsInside, begun_taken, begun_part}
use Rattle.where_query.specs.Written.{chosen_in, chosen_text, chosen_answer, BindsIn, BreaksIn, TextOf, TextPart, nothing, front, TextRefused, in_front as refused_in_front, behind as refused_behind, ConditionRefused, Headline, HeadlinePart}
use Rattle.where_query.proofs.Binding.{bound_once, bound_clean, refused_once}
use Rattle.where_query.proofs.Inside.{visits_inside, same_refusals}

-- ## Texts of the chosen

-- the text of the chosen ones of a front, and the pieces of those of the rest
chosen_more : (output : Output) (image : List ℕ) (bounded : Bounded) (entries rest : List Entry)
    → chosen_text output image bounded entries ++ flat_map (piece output (header_in image)) (chosen_in image bounded rest) ≡ chosen_text output image bounded (entries ++ rest)
chosen_more output image bounded entries rest =
    let under : Under = record { header = header_in image; bounded = bounded } in
    sym (text-append output (header_in image) (chosen under entries) (chosen under rest)) ∙ ap (text output (header_in image)) (sym (filter-append (passes (Some under)) entries rest))

module _ (image : List ℕ) (boxes : List Bounds) (condition : Condition) (output : Output) (o o' : Sink) where
  longer : (bounded : Bounded) (entries rest : List Entry) → AppendsPart o o' (chosen_text output image bounded entries) → AppendsPart o o' (chosen_text output image bounded (entries ++ rest))
  longer bounded entries rest written = subst (AppendsPart o o') (chosen_more output image bounded entries rest)
      (part_longer o o' (chosen_text output image bounded entries) (flat_map (piece output (header_in image)) (chosen_in image bounded rest)) written)

  -- the text of the chosen ones of a front of what is found so far
  part_of_front : (bounded : Bounded) (entries rest : List Entry) → BindsIn image condition bounded → AnswersPart image boxes (entries ++ rest)
      → AppendsPart o o' (chosen_text output image bounded entries) → TextPart image boxes condition output o o'
  part_of_front bounded entries rest binds answers written = front {entries = entries ++ rest} {bounded = bounded} answers binds (longer bounded entries rest written)

  -- on a file that breaks no rule it is a front of the text of the chosen ones of its features
  part_of_file : (index : Option Shape) (pieces : List (List ℕ)) (bounded : Bounded) → PartIsFound → IsFile image index pieces → BindsIn image condition bounded
      → TextPart image boxes condition output o o' → AppendsPart o o' (chosen_answer output image bounded boxes pieces)
  part_of_file index pieces bounded law file binds (nothing written) = part_longer o o' [] (chosen_answer output image bounded boxes pieces) (appends_part o o' [] written)
  part_of_file index pieces bounded law file binds (front {entries = entries} {bounded = other} answers also written) =
      let rest = law image index pieces boxes entries file answers in
      let same : other ≡ bounded = bound_once (header_in image) condition other bounded also binds in
      subst (λ b. AppendsPart o o' (chosen_answer output image b boxes pieces)) same
      (subst (λ es. AppendsPart o o' (chosen_text output image other es)) rest.1 (longer other entries rest.0 written))

-- ## Results

not_ok : {T : Type 0} (r : Result T TextError) (e : TextError) (P : Type 0) → r ≡ Err e → OnOk r P
not_ok {T} r e P is = subst (λ (x : Result T TextError). OnOk x P) (sym is) tt

-- it is there or not
by_option : {A P : Type 0} (r : Option A) → ((r ≡ None) → P) → ((x : A) → r ≡ Some x → P) → P
by_option None f g = f refl
by_option (Some x) f g = g x refl

-- ## A query with a condition

-- what it promises
pub record Queried {T : Type 0} (boxes : List Bounds) (gap : ℕ) (condition : Condition) (output : Output) (s s' : Source) (o o' : Sink) (result : Result T TextError) : Type 0 where
  pub headline : OnOk result (IfTold s (λ image. (index : Option Shape) (pieces : List (List ℕ)) (bounded : Bounded) → IsFile image index pieces → BindsIn image condition bounded
      → Headline image index pieces boxes bounded gap output s s' o o'))
  pub headline_part : IfTold s (λ image. (index : Option Shape) (pieces : List (List ℕ)) (bounded : Bounded) → IsFile image index pieces → BindsIn image condition bounded
      → HeadlinePart image index pieces boxes bounded gap output s s' o o')
  pub done : OnOk result (IfTold s (λ image. TextOf image boxes condition output o o'))
  pub sound : OnOk result (IfTold s (λ image. IsUnindexed image → IsValid image × AsksAll image s s'))
  pub refused : IfRefused result (λ broken. IfTold s (λ image. ConditionRefused image condition s s' o o' broken
      ⊎ (TextRefused image boxes condition output o o' broken × (IsUnindexed image → BreaksFirst image broken))))
  pub unrefused : IfTold s (λ image. IsValid image → IsClean (BreaksIn image condition) → IfRefused result (λ _. ⊥))
  pub part : IfTold s (λ image. TextPart image boxes condition output o o')
  pub broken_condition : IfTold s (λ image. (index : Option Shape) (q : ℕ) (r : Rule) → IsOpen image index → BreaksIn image condition q r
      → ((result ≡ Err (Refused (record { place = 12 + q; rule = r }))) ⊎ (result ≡ Err Memory) ⊎ (result ≡ Err SourceFailed))
      × Appends o o' [] × AsksHeaderFront image s s')
  pub large : result ≡ Err TooLarge → IfTold s (λ image. IsTooWide output (header_in image) × ((index : Option Shape) × IsOpen image index)
      × ((bounded : Bounded) × BindsIn image condition bounded) × Appends o o' [])
  pub large_done : IfTold s (λ image. (index : Option Shape) → IsOpen image index → IsClean (BreaksIn image condition) → IsTooWide output (header_in image)
      → ((result ≡ Err TooLarge) ⊎ (result ≡ Err Memory) ⊎ (result ≡ Err SourceFailed)) × Appends o o' [])
  pub large_file : result ≡ Err TooLarge → output ≡ Fgb
  pub sink_failed : IsErrOf result SinkFailed → Rose o.faults o'.faults

-- what its end leaves, where the condition was refused so, or was not
pub record Ending {T D : Type 0} (refused : Option Broken) (asked : Result D QueryError) (wide : Bool) (o o' : Sink) (page : List ℕ) (result : Result T TextError) : Type 0 where
  pub condition : (broken : Broken) → refused ≡ Some broken → (result ≡ Err (Refused broken)) × (o' ≡ o)
  pub done : OnOk result (IsOk asked × Appends o o' page)
  pub refusal : refused ≡ None → IfRefused result (λ broken. IsErrOf asked (query_error.Refused broken) × Appends o o' page)
  pub part : refused ≡ None → AppendsPart o o' page
  pub sink_failed : IsErrOf result SinkFailed → IsErrOf asked query_error.VisitorStopped ⊎ Rose o.faults o'.faults
  pub idle : page ≡ [] → IsErrOf result SinkFailed → IsErrOf asked query_error.VisitorStopped
  pub large : result ≡ Err TooLarge → (wide ≡ true) × (refused ≡ None)
  pub too_wide : refused ≡ None → wide ≡ true → result ≡ Err TooLarge
  pub later : o.faults ≤ o'.faults

-- a query whose visitor writes texts behind a condition: by the writer's reference and its state
module _ {V N D : Type 0} (name : V → N) (state : V → Shown) (count : D → ℕ) (boxes : List Bounds) (gap : ℕ) (v w : State V) where
  abbrev Took : List ℕ → D → Type 0
  Took image d = Visited (Starts (Start name state)) (FailsStart (FailStart name state)) (Steps (Step name state)) (FailsStep (FailStep name state)) image boxes v w (count d)

  abbrev TookPart : Source → Source → List ℕ → Type 0
  TookPart s s' image = VisitedPart (Starts (Start name state)) (FailsStart (FailStart name state)) (Steps (Step name state)) (FailsStep (FailStep name state)) image boxes s s' v w

  abbrev TookRefused : List ℕ → Broken → Type 0
  TookRefused image broken = VisitedRefused (Starts (Start name state)) (FailsStart (FailStart name state)) (Steps (Step name state)) (FailsStep (FailStep name state)) image boxes v w broken

  -- what it leaves
  pub record Visiting (s s' : Source) (asked : Result D QueryError) : Type 0 where
    pub done : IfOk asked (λ d. IfTold s (λ image. Took image d))
    pub needed : OnOk asked (IfTold s (λ image. (index : Option Shape) (pieces : List (List ℕ)) → IsFile image index pieces → AsksNeeded image index boxes gap s s'))
    pub all : OnOk asked (IfTold s (λ image. IsUnindexed image → AsksAll image s s'))
    pub part : OnErr asked (IfTold s (λ image. TookPart s s' image))
    pub needed_part : OnErr asked (IfTold s (λ image. (index : Option Shape) (pieces : List (List ℕ)) → IsFile image index pieces → AsksNeededFront image index boxes gap s s'))
    pub refused : IfQueryRefused asked (λ broken. IfTold s (λ image. TookRefused image broken))
    pub visits : Visits (Starts (Start name state)) (FailsStart (FailStart name state)) (Steps (Step name state)) (FailsStep (FailStep name state)) v w
    pub stopped : IsErrOf asked query_error.VisitorStopped → Rose ((state v.inner).stops + v.refusals) ((state w.inner).stops + w.refusals)

  -- what the writer inside took: all of the chosen, or a part of them
  abbrev Chosen : List ℕ → List Entry → Type 0
  Chosen image entries = BeginsInside (Start name state) v (header_in image) w (λ under u. Takes (Step name state) u (chosen under entries) w.inner)

  abbrev ChosenPart : List ℕ → List Entry → Type 0
  ChosenPart image due = BeginsInside (Start name state) v (header_in image) w (λ under u. TakesPart (Step name state) (FailStep name state) u (chosen under due) w.inner)

  take_chosen : (image : List ℕ) (entries : List Entry) → Begins (Starts (Start name state)) v (header_in image) (λ u. Takes (Steps (Step name state)) u entries w) → Chosen image entries
  take_chosen image entries begins = begun_taken (Start name state) (Step name state) (FailStep name state) v w (header_in image) entries begins

  take_part : (image : List ℕ) (due : List Entry) → Begins (Starts (Start name state)) v (header_in image) (λ u. TakesPart (Steps (Step name state)) (FailsStep (FailStep name state)) u due w)
      → ChosenPart image due
  take_part image due begins = begun_part (Start name state) (Step name state) (FailStep name state) v w (header_in image) due begins

  module _ {T : Type 0} (s s' : Source) (asked : Result D QueryError) (last : Sink) (result : Result T TextError) (visiting : Visiting s s' asked)
      (ending : Ending w.refused asked (state w.inner).wide (state w.inner).sink last (state w.inner).page result)
      (empty : (state v.inner).page ≡ []) (fits : (state v.inner).wide ≡ false) (starts : (state v.inner).stops ≡ 0) (fresh : v.refused ≡ None) (uncounted : v.refusals ≡ 0) where
    abbrev output : Output
    output = (state v.inner).output

    abbrev o : Sink
    o = (state v.inner).sink

    abbrev Within : Type 0
    Within = Visits (Start name state) (FailStart name state) (Step name state) (FailStep name state) v.inner w.inner

    within : Within
    within = visits_inside (Start name state) (FailStart name state) (Step name state) (FailStep name state) v w visiting.visits

    inner_same : w ≡ v → w.inner ≡ v.inner
    inner_same same = ap (λ (x : State V). x.inner) same

    -- what is not too wide later was not so before
    narrow_wide : (state w.inner).wide ≡ (state v.inner).wide → (state w.inner).wide ≡ true → ⊥
    narrow_wide same wide = true≢false (sym wide ∙ same ∙ fits)

    module _ (image : List ℕ) (told : s.image ≡ Some image) where
      at_done : (d : D) → asked ≡ Ok d → Took image d
      at_done d is = subst (λ r. IfOk r (λ x. IfTold s (λ bytes. Took bytes x))) is visiting.done image told

      at_refused : (broken : Broken) → IsErrOf asked (query_error.Refused broken) → TookRefused image broken
      at_refused broken is = subst (λ r. IfQueryRefused r (λ b. IfTold s (λ bytes. TookRefused bytes b))) is visiting.refused image told

      at_part : (e : QueryError) → asked ≡ Err e → TookPart s s' image
      at_part e is = subst (λ r. OnErr r (IfTold s (λ bytes. TookPart s s' bytes))) is visiting.part image told

      -- by what came of the query
      by_asked : {P : Type 0} → ((d : D) → Took image d → P) → ((broken : Broken) → TookRefused image broken → P) → (TookPart s s' image → P) → P
      by_asked {P} on_done on_refused on_part = by_result asked refl
        where
          by_result : (r : Result D QueryError) → asked ≡ r → P
          by_result (Ok d) is = on_done d (at_done d is)
          by_result (Err (query_error.Refused broken)) is = on_refused broken (at_refused broken is)
          by_result (Err query_error.SourceFailed) is = on_part (at_part query_error.SourceFailed is)
          by_result (Err query_error.VisitorStopped) is = on_part (at_part query_error.VisitorStopped is)
          by_result (Err query_error.Memory) is = on_part (at_part query_error.Memory is)

      -- ### The condition was refused

      module _ (broken : Broken) (refused : w.refused ≡ Some broken) where
        -- so its refusals did not stay
        apart : {P : Type 0} → w.refused ≡ v.refused → P
        apart same = absurd (let e : Some broken ≡ None = sym refused ∙ same ∙ fresh in cc)

        unwritten : w.inner ≡ v.inner → Appends o last []
        unwritten same = subst (λ x. Appends o x []) (sym ((ending.condition broken refused).1 ∙ ap (λ i. (state i).sink) same)) (appends_nothing o)

        from_start : (index : Option Shape) → IsOpen image index → AsksHeader image s s' → FailsStart (FailStart name state) v (bytes_in image) w → ConditionRefused image v.condition s s' o last broken
        from_start index opened asks (at_condition none is) =
            let same : is.broken ≡ broken = cc (is.refused, refused) in
            record { index = index; opened = opened; named = subst (Names 12 (BreaksIn image v.condition)) same is.named; asked = asks; written = unwritten is.inner }
        from_start index opened asks (at_memory none is same) = apart is.stays.refused
        from_start index opened asks (inside none is fails) = apart is.stays.refused

        from_part : TookPart s s' image → ConditionRefused image v.condition s s' o last broken
        from_part (untouched same asks) = apart (ap (λ (x : State V). x.refused) same)
        from_part (no_start index opened fails asks) = from_start index opened asks fails
        from_part (begun due answers begins) = apart (take_part image due begins).stays.refused

        from_refused : (b : Broken) → TookRefused image b → ConditionRefused image v.condition s s' o last broken
        from_refused b (in_front breaks same) = apart (ap (λ (x : State V). x.refused) same)
        from_refused b (behind entries refuses begins) = apart (take_chosen image entries begins).stays.refused

        pub condition_refused : ConditionRefused image v.condition s s' o last broken
        condition_refused = by_asked (λ d took. apart (take_chosen image took.entries took.begins).stays.refused) from_refused from_part

    -- ### It was not

    module _ (none : w.refused ≡ None) where
      finishing : Finishing asked (state w.inner).wide (state w.inner).sink last (state w.inner).page result
      finishing = record {
        done = ending.done;
        refused = ending.refusal none;
        part = ending.part none;
        sink_failed = ending.sink_failed;
        idle = ending.idle;
        large = λ is. (ending.large is).0;
        too_wide = ending.too_wide none;
        later = ending.later;
      }

      later : o.faults ≤ (state w.inner).sink.faults
      later = visits_later name state v.inner w.inner within

      -- it stopped: the writer has
      stopped_inside : IsErrOf asked query_error.VisitorStopped → Rose (state v.inner).stops (state w.inner).stops
      stopped_inside is =
          let rose = visiting.stopped is in
          let same = same_refusals (Start name state) (FailStart name state) (Step name state) (FailStep name state) v w visiting.visits none in
          omega (arith, rose, same, uncounted)

      -- and no header was too wide: the sink failed
      rose_before : Rose (state v.inner).stops (state w.inner).stops → ((state w.inner).wide ≡ true → ⊥) → Rose o.faults last.faults
      rose_before rose narrow =
          let stopped : (state w.inner).stops ≡ (state v.inner).stops → ⊥ = λ same. omega (arith, starts, rose, same) in
          ⊎_elim (λ wide. absurd (narrow wide)) (λ risen. rose_until o.faults (state w.inner).sink.faults last.faults risen finishing.later)
          (visits_stopped name state v.inner w.inner within stopped)

      sink_rose : IsErrOf result SinkFailed → Rose o.faults last.faults
      sink_rose is = ⊎_elim
          (λ stopped. rose_before (stopped_inside stopped) (λ wide. failed_apart result is (finishing.too_wide wide)))
          (λ rose. rose_since o.faults (state w.inner).sink.faults last.faults later rose) (finishing.sink_failed is)

      -- the writer's page is empty, and nothing was written
      none_whole : (state w.inner).sink ≡ o → (state w.inner).page ≡ (state v.inner).page → Appends o last []
      none_whole sink page =
          nothing_whole o last (subst (λ p. AppendsPart o last p) (page ∙ empty) (subst (λ x. AppendsPart x last (state w.inner).page) sink finishing.part))

      untouched_all : w.inner ≡ v.inner → Appends o last []
      untouched_all same = none_whole (ap (λ x. (state x).sink) same) (ap (λ x. (state x).page) same)

      -- the condition was refused after all
      refused_after : {P : Type 0} {broken : Broken} → w.refused ≡ Some broken → P
      refused_after {broken = broken} is = absurd (let e : Some broken ≡ None = sym is ∙ none in cc)

      module _ (image : List ℕ) (told : s.image ≡ Some image) where
        -- the text of the chosen ones among what was handed over, where all of it was taken
        module _ (entries : List Entry) (took : Chosen image entries) where
          wrote_all : Appends (state w.inner).sink last (state w.inner).page → Appends o last (chosen_text output image took.bounded entries)
          wrote_all written = adds_whole o (state w.inner).sink (state w.inner).page (chosen_text output image took.bounded entries)
              (adds_all name state v.inner w.inner (header_in image) (chosen_in image took.bounded entries) empty took.begins) last written

          wrote_part : AppendsPart o last (chosen_text output image took.bounded entries)
          wrote_part = adds_part o (state w.inner).sink (state w.inner).page (chosen_text output image took.bounded entries)
              (adds_all name state v.inner w.inner (header_in image) (chosen_in image took.bounded entries) empty took.begins) last finishing.part

        wrote_some : (due : List Entry) (took : ChosenPart image due) → AppendsPart o last (chosen_text output image took.bounded due)
        wrote_some due took = adds_left o (state w.inner).sink (state w.inner).page (chosen_text output image took.bounded due)
            (adds_some name state v.inner w.inner (header_in image) (chosen_in image took.bounded due) empty took.begins) last finishing.part

        text_of : IsOk asked → Appends (state w.inner).sink last (state w.inner).page → TextOf image boxes v.condition output o last
        text_of ok written =
            let visited = (at_ok asked _ visiting.done ok).1 image told in
            let took = take_chosen image visited.entries visited.begins in
            record { entries = visited.entries; answers = visited.answers; bounded = took.bounded; binds = took.binds; written = wrote_all visited.entries took written }

        text_refused : (broken : Broken) → Appends (state w.inner).sink last (state w.inner).page → TookRefused image broken → TextRefused image boxes v.condition output o last broken
        text_refused broken written (in_front breaks same) = refused_in_front breaks (untouched_all (inner_same same))
        text_refused broken written (behind entries refuses begins) =
            let took = take_chosen image entries begins in refused_behind {entries = entries} {bounded = took.bounded} refuses took.binds (wrote_all entries took written)

        part_refused : (broken : Broken) → TookRefused image broken → TextPart image boxes v.condition output o last
        part_refused broken (in_front breaks same) = nothing (untouched_all (inner_same same))
        part_refused broken (behind entries refuses begins) =
            let all = part_of_refused image boxes broken entries refuses in
            let took = take_chosen image entries begins in
            part_of_front image boxes v.condition output o last took.bounded entries all.0 took.binds all.1 (wrote_part entries took)

        -- it failed to begin
        start_unwritten : FailsStart (FailStart name state) v (bytes_in image) w → Appends o last []
        start_unwritten (at_condition gone is) = untouched_all is.inner
        start_unwritten (at_memory gone is same) = untouched_all same
        start_unwritten (inside gone is fails) = none_whole fails.1.sink fails.1.page

        -- it stopped before its end
        part_stopped : TookPart s s' image → TextPart image boxes v.condition output o last
        part_stopped (untouched same asks) = nothing (untouched_all (inner_same same))
        part_stopped (no_start index opened fails asks) = nothing (start_unwritten fails)
        part_stopped (begun due answers begins) =
            let took = take_part image due begins in front {entries = due} {bounded = took.bounded} answers took.binds (wrote_some due took)

        part_done : (d : D) → Took image d → TextPart image boxes v.condition output o last
        part_done d all =
            let took = take_chosen image all.entries all.begins in
            front {entries = all.entries} {bounded = took.bounded} (part_of_all image boxes all.entries all.answers) took.binds (wrote_part all.entries took)

        text_part : TextPart image boxes v.condition output o last
        text_part = by_asked image told part_done part_refused part_stopped

        -- #### A header that is too wide

        -- where it was found to be so
        abbrev WasWide : Type 0
        WasWide = IsTooWide output (header_in image) × ((index : Option Shape) × IsOpen image index) × ((bounded : Bounded) × BindsIn image v.condition bounded) × Appends o last []

        wide_same : {P : Type 0} → (state w.inner).wide ≡ true → w.inner ≡ v.inner → P
        wide_same wide same = absurd (narrow_wide (ap (λ x. (state x).wide) same) wide)

        wide_all : {P : Type 0} (entries : List Entry) → (state w.inner).wide ≡ true → Chosen image entries → P
        wide_all entries wide took = absurd (narrow_wide (all_narrow name state v.inner w.inner (header_in image) (chosen_in image took.bounded entries) took.begins) wide)

        wide_some : {P : Type 0} (due : List Entry) → (state w.inner).wide ≡ true → ChosenPart image due → P
        wide_some due wide took = absurd (narrow_wide (some_narrow name state v.inner w.inner (header_in image) (chosen_in image took.bounded due) took.begins) wide)

        wide_refused : (broken : Broken) → (state w.inner).wide ≡ true → TookRefused image broken → WasWide
        wide_refused broken wide (in_front breaks same) = wide_same wide (inner_same same)
        wide_refused broken wide (behind entries refuses begins) = wide_all entries wide (take_chosen image entries begins)

        wide_start : (index : Option Shape) → IsOpen image index → (state w.inner).wide ≡ true → FailsStart (FailStart name state) v (bytes_in image) w → WasWide
        wide_start index opened wide (at_condition gone is) = refused_after is.refused
        wide_start index opened wide (at_memory gone is same) = wide_same wide same
        wide_start index opened wide (inside gone is fails) = ⊎_elim
            (λ same. absurd (narrow_wide same.0 wide))
            (λ found_wide. (found_wide.1, (index, opened), (is.bounded, is.binds), none_whole fails.1.sink fails.1.page)) fails.1.reason

        wide_stopped : (state w.inner).wide ≡ true → TookPart s s' image → WasWide
        wide_stopped wide (untouched same asks) = wide_same wide (inner_same same)
        wide_stopped wide (no_start index opened fails asks) = wide_start index opened wide fails
        wide_stopped wide (begun due answers begins) = wide_some due wide (take_part image due begins)

        was_wide : (state w.inner).wide ≡ true → WasWide
        was_wide wide = by_asked image told (λ d all. wide_all all.entries wide (take_chosen image all.entries all.begins)) (λ broken. wide_refused broken wide) (wide_stopped wide)

        -- #### Nothing is handed over

        -- the writer has an empty page, nothing was written, and it says that a header is too wide or has not stopped
        record IsIdle : Type 0 where
          page : (state w.inner).page ≡ []
          unwritten : Appends o last []
          reason : ((state w.inner).wide ≡ true) ⊎ ((state w.inner).stops ≡ (state v.inner).stops)

        idle_same : w.inner ≡ v.inner → IsIdle
        idle_same same = record { page = ap (λ x. (state x).page) same ∙ empty; unwritten = untouched_all same; reason = inr (ap (λ x. (state x).stops) same) }

        abbrev Stops : Type 0
        Stops = (result ≡ Err TooLarge) ⊎ (result ≡ Err Memory) ⊎ (result ≡ Err SourceFailed)

        -- of an open file from which nothing can be handed over: not one of a list of entries is
        module _ (index : Option Shape) (opened : IsOpen image index) (never : (entries : List Entry) → Chosen image entries → ⊥) (idle : IsIdle) where
          never_refused : (broken : Broken) → TookRefused image broken → ⊥
          never_refused broken (in_front breaks same) = breaks.unreached index opened
          never_refused broken (behind entries refuses begins) = never entries (take_chosen image entries begins)

          sink_well : IsErrOf result SinkFailed → ⊥
          sink_well is = ⊎_elim
              (λ wide. failed_apart result is (finishing.too_wide wide))
              (λ same. let rose = stopped_inside (finishing.idle idle.page is) in omega (arith, same, rose, starts))
              idle.reason

          stops_so : Stops
          stops_so = by_result result refl
            where
              by_result : (r : Result T TextError) → result ≡ r → Stops
              by_result (Ok x) is =
                  let ok = (subst (λ r. OnOk r (IsOk asked × Appends (state w.inner).sink last (state w.inner).page)) is finishing.done).0 in
                  let visited = (at_ok asked _ visiting.done ok).1 image told in
                  absurd (never visited.entries (take_chosen image visited.entries visited.begins))
              by_result (Err (Refused broken)) is =
                  let stop = subst (λ r. IfRefused r (λ b. IsErrOf asked (query_error.Refused b) × Appends (state w.inner).sink last (state w.inner).page)) is finishing.refused in
                  absurd (never_refused broken (at_refused image told broken stop.0))
              by_result (Err SourceFailed) is = inr (inr is)
              by_result (Err SinkFailed) is = absurd (sink_well is)
              by_result (Err TooLarge) is = inl is
              by_result (Err Memory) is = inr (inl is)

        -- where the header is too wide and the condition breaks no rule
        module _ (index : Option Shape) (opened : IsOpen image index) (too_wide : IsTooWide output (header_in image)) where
          never_fits : (entries : List Entry) → Chosen image entries → ⊥
          never_fits entries took = begun_fits name state v.inner w.inner (header_in image) took.begins too_wide

          idle_start : FailsStart (FailStart name state) v (bytes_in image) w → IsIdle
          idle_start (at_condition gone is) = idle_same is.inner
          idle_start (at_memory gone is same) = idle_same same
          idle_start (inside gone is fails) = record {
            page = fails.1.page ∙ empty;
            unwritten = none_whole fails.1.sink fails.1.page;
            reason = ⊎_elim (λ same. inr same.1) (λ found_wide. inl found_wide.0) fails.1.reason;
          }

          idle_part : TookPart s s' image → IsIdle
          idle_part (untouched same asks) = idle_same (inner_same same)
          idle_part (no_start other also fails asks) = idle_start fails
          idle_part (begun due answers begins) =
              let took = take_part image due begins in absurd (begun_fits name state v.inner w.inner (header_in image) took.begins too_wide)

          idle_wide : IsIdle
          idle_wide = by_asked image told
              (λ d all. absurd (never_fits all.entries (take_chosen image all.entries all.begins)))
              (λ broken took. absurd (never_refused_wide broken took)) idle_part
            where
              never_refused_wide : (broken : Broken) → TookRefused image broken → ⊥
              never_refused_wide broken (in_front breaks same) = breaks.unreached index opened
              never_refused_wide broken (behind entries refuses begins) = never_fits entries (take_chosen image entries begins)

          wide_ends : Stops × Appends o last []
          wide_ends = (stops_so index opened never_fits idle_wide, idle_wide.unwritten)

        -- where the condition breaks a rule, and was not refused: the work stopped before the visitor began
        module _ (index : Option Shape) (opened : IsOpen image index) (q : ℕ) (r : Rule) (breaks : BreaksIn image v.condition q r) where
          unbound : (bounded : Bounded) → BindsIn image v.condition bounded → ⊥
          unbound bounded binds = bound_clean (header_buffer image) v.condition bounded binds q r breaks

          never_bound : (entries : List Entry) → Chosen image entries → ⊥
          never_bound entries took = unbound took.bounded took.binds

          record IsEarly : Type 0 where
            same : w ≡ v
            asks : AsksHeaderFront image s s'

          early_start : FailsStart (FailStart name state) v (bytes_in image) w → IsEarly
          early_start (at_condition gone is) = refused_after is.refused
          early_start (at_memory gone is same) = absurd (unbound is.bounded is.binds)
          early_start (inside gone is fails) = absurd (unbound is.bounded is.binds)

          early_part : TookPart s s' image → IsEarly
          early_part (untouched same asks) = record { same = same; asks = asks }
          early_part (no_start other also fails asks) = early_start fails
          early_part (begun due answers begins) = let took = take_part image due begins in absurd (unbound took.bounded took.binds)

          early_refused : (broken : Broken) → TookRefused image broken → IsEarly
          early_refused broken (in_front in_file same) = absurd (in_file.unreached index opened)
          early_refused broken (behind entries refuses begins) = absurd (never_bound entries (take_chosen image entries begins))

          early : IsEarly
          early = by_asked image told (λ d all. absurd (never_bound all.entries (take_chosen image all.entries all.begins))) early_refused early_part

          -- it is not too large
          stops_early : (result ≡ Err Memory) ⊎ (result ≡ Err SourceFailed)
          stops_early = ⊎_elim
              (λ large. absurd (narrow_wide (ap (λ x. (state x).wide) (inner_same early.same)) (finishing.large large)))
              (λ others. others)
              (stops_so index opened never_bound (idle_same (inner_same early.same)))

          broken_ends : ((result ≡ Err Memory) ⊎ (result ≡ Err SourceFailed)) × Appends o last [] × AsksHeaderFront image s s'
          broken_ends = (stops_early, untouched_all (inner_same early.same), early.asks)

    -- ### What it promises

    asked_part : IfTold s (λ image. (index : Option Shape) (pieces : List (List ℕ)) → IsFile image index pieces → AsksNeededFront image index boxes gap s s')
    asked_part = either asked _ _ _ (λ all image told index pieces file. whole_front (asked_positions image index boxes gap) (all image told index pieces file)) (λ part. part) visiting.needed visiting.needed_part

    -- at Ok the condition was not refused
    done_map : (P : Type 0) → (w.refused ≡ None → IsOk asked → Appends (state w.inner).sink last (state w.inner).page → P) → OnOk result P
    done_map P f = by_option w.refused
        (λ none. on_ok_map result _ P (λ ended. f none ended.0 ended.1) ending.done)
        (λ broken is. not_ok result (Refused broken) P (ending.condition broken is).0)

    whole_part : (image : List ℕ) → s.image ≡ Some image → TextPart image boxes v.condition output o last
    whole_part image told = by_option w.refused (λ none. text_part none image told) (λ broken is. nothing (condition_refused image told broken is).written)

    -- a condition that breaks no rule is not refused
    clean_unrefused : (image : List ℕ) → s.image ≡ Some image → IsClean (BreaksIn image v.condition) → w.refused ≡ None
    clean_unrefused image told clean = by_option w.refused (λ none. none)
        (λ broken is. let named = (condition_refused image told broken is).named in absurd (clean named.0 broken.rule named.2))

    ends_broken : (image : List ℕ) → s.image ≡ Some image → (index : Option Shape) (q : ℕ) (r : Rule) → IsOpen image index → BreaksIn image v.condition q r
        → ((result ≡ Err (Refused (record { place = 12 + q; rule = r }))) ⊎ (result ≡ Err Memory) ⊎ (result ≡ Err SourceFailed)) × Appends o last [] × AsksHeaderFront image s s'
    ends_broken image told index q r opened breaks = by_option w.refused
        (λ none. let ends = broken_ends none image told index opened q r breaks in (inr ends.0, ends.1, ends.2))
        (λ broken is.
        let there = condition_refused image told broken is in
        let same = refused_once (header_buffer image) v.condition broken q r there.named breaks in
        (inl ((ending.condition broken is).0 ∙ ap (λ b. Err (Refused b)) same), there.written, whole_front _ there.asked))

    sink_failed : IsErrOf result SinkFailed → Rose o.faults last.faults
    sink_failed failed = by_option w.refused (λ none. sink_rose none failed)
        (λ broken is. absurd (let e : result ≡ Err (Refused broken) = (ending.condition broken is).0 in let f : result ≡ Err SinkFailed = failed in cc))

    module _ (all_found : AllIsFound) (part_found : PartIsFound) (never : IsNeverRefused) (first_broken : IsFirst) where
      headline : (image : List ℕ) → s.image ≡ Some image → (index : Option Shape) (pieces : List (List ℕ)) (bounded : Bounded) → IsFile image index pieces → BindsIn image v.condition bounded → IsOk asked
          → TextOf image boxes v.condition output o last → Headline image index pieces boxes bounded gap output s s' o last
      headline image told index pieces bounded file binds ok of = record {
        written = subst (λ b. Appends o last (chosen_answer output image b boxes pieces)) (bound_once (header_in image) v.condition of.bounded bounded of.binds binds)
            (subst (λ es. Appends o last (chosen_text output image of.bounded es)) (all_found image index pieces boxes of.entries file of.answers) of.written);
        asked = (at_ok asked _ visiting.needed ok).1 image told index pieces file;
      }

      first : (image : List ℕ) (broken : Broken) → TextRefused image boxes v.condition output o last broken → IsUnindexed image → BreaksFirst image broken
      first image broken (refused_in_front breaks written) unindexed = breaks.first
      first image broken (refused_behind {entries = entries} refuses binds written) unindexed = first_broken image boxes broken entries unindexed refuses

      -- a file that breaks no rule is not refused
      unrefused : (image : List ℕ) (broken : Broken) → TextRefused image boxes v.condition output o last broken → IsValid image → ⊥
      unrefused image broken (refused_in_front breaks written) valid = first_invalid image breaks.first valid
      unrefused image broken (refused_behind {entries = entries} refuses binds written) valid =
          let file = valid_file image valid in
          never image file.0 file.1 boxes broken entries file.2 refuses

      abbrev Refusal : Broken → Type 0
      Refusal broken = IfTold s (λ image. ConditionRefused image v.condition s s' o last broken
          ⊎ (TextRefused image boxes v.condition output o last broken × (IsUnindexed image → BreaksFirst image broken)))

      refusal : IfRefused result Refusal
      refusal = by_option w.refused
          (λ none. refused_map result _ Refusal (λ broken stop image told.
          let there = text_refused none image told broken stop.1 (at_refused image told broken stop.0) in inr (there, first image broken there)) (ending.refusal none))
          (λ broken is. subst (λ (x : Result T TextError). IfRefused x Refusal) (sym (ending.condition broken is).0) (λ image told. inl (condition_refused image told broken is)))

      pub queried : Queried boxes gap v.condition output s s' o last result
      queried = record {
        headline = done_map _ (λ none ok written image told index pieces bounded file binds. headline image told index pieces bounded file binds ok (text_of none image told ok written));
        headline_part = λ image told index pieces bounded file binds. record {
          written = part_of_file image boxes v.condition output o last index pieces bounded part_found file binds (whole_part image told);
          asked = asked_part image told index pieces file;
        };
        done = done_map _ (λ none ok written image told. text_of none image told ok written);
        sound = done_map _ (λ none ok written image told unindexed.
            let of = text_of none image told ok written in (unindexed_valid image boxes of.entries of.answers unindexed, (at_ok asked _ visiting.all ok).1 image told unindexed));
        refused = refusal;
        unrefused = λ image told valid clean.
            let none = clean_unrefused image told clean in
            refused_map result _ _ (λ broken stop. unrefused image broken (text_refused none image told broken stop.1 (at_refused image told broken stop.0)) valid) (ending.refusal none);
        part = whole_part;
        broken_condition = ends_broken;
        large = λ is image told. was_wide (ending.large is).1 image told (ending.large is).0;
        large_done = λ image told index opened clean wide. wide_ends (clean_unrefused image told clean) image told index opened wide;
        large_file = λ is. visits_wide name state v.inner w.inner within (λ same. narrow_wide same (ending.large is).0);
        sink_failed = sink_failed;
      }

-- the same of equal conditions, outputs and sinks
pub queried_at : {T : Type 0} (boxes : List Bounds) (gap : ℕ) (c d : Condition) (a b : Output) (s s' : Source) (o p last end : Sink) (result : Result T TextError) → c ≡ d → a ≡ b → o ≡ p → last ≡ end
    → Queried boxes gap c a s s' o last result → Queried boxes gap d b s s' p end result
queried_at boxes gap c d a b s s' o p last end result condition output sink closed is =
    subst (λ x. Queried boxes gap x b s s' p end result) condition (subst (λ x. Queried boxes gap c x s s' p end result) output
    (subst (λ x. Queried boxes gap c a s s' x end result) sink (subst (λ x. Queried boxes gap c a s s' o x result) closed is)))
