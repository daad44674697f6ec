-- What a query leaves of reporters, by what its visitor was handed.
use Rattle.std.proofs.Common.{◌≡◌, ◌≢◌, ℕ, List, [], ◌∷◌, ◌++◌, Option, Some, Result, Ok, Err, IsOk, IsErr, IsErrOf, refl, sym, ap, subst, ◌∙◌}
use Rattle.std.specs.Prelude.{IfOk, OnOk, OnErr}
use Rattle.std.proofs.lemmas.Bool.{true≢false}
use Rattle.std.proofs.lemmas.List.{append_assoc, append-nil}
use Rattle.flat_layout.specs.declared.Broken.{Broken}
use Rattle.order_keys.specs.declared.bounds.Bounds.{Bounds}
use Rattle.level_bounds.specs.Levels.{Shape}
use Rattle.fgb_outside.specs.Source.{Source, IfTold, Rose}
use Rattle.fgb_schema.specs.Headers.{Header}
use Rattle.fgb_file.specs.File.{header_in, IsFile, IsOpen, IsDeclared, IsUnindexed, IsValid, BreaksFirst}
use Rattle.fgb_file.proofs.Passing.{first_invalid}
use Rattle.fgb_file.proofs.Valid.{valid_file}
use Rattle.fgb_reader.specs.Requests.{AsksAll, AsksFront}
use Rattle.read_stop.specs.Asks.{AsksOnly}
use Rattle.read_stop.proofs.Stopping.{on_ok_both}
use Rattle.found_features.specs.Entries.{Entry, found}
use Rattle.found_features.specs.Visits.{Takes, TakesPart, some, some_and_failed, Begins, Visits, untouched as left_alone, no_start as failed_start, begun as handed}
use Rattle.found_features.specs.declared.stop.QueryError.{QueryError}
use Rattle.found_features.specs.declared.stop.QueryError.TheVariants as query_error
use Rattle.found_features.specs.Stops.{IfRefused as IfQueryRefused}
use Rattle.fgb_reports.specs.States.{State, fed, fed_all}
use Rattle.box_query.specs.Answers.{Answers, AnswersPart, Refuses}
use Rattle.box_query.specs.Needed.{AsksNeeded, AsksNeededFront, AsksSearch}
use Rattle.box_query.specs.Visited.{Visited, VisitedPart, untouched, no_start, begun, VisitedRefused, in_front, behind}
use Rattle.text_query.proofs.Answering.{unindexed_valid}
use Rattle.command_words.specs.Statuses.{IfRefused}
use Rattle.command_words.specs.declared.stop.Stop.{Stop}
use Rattle.command_words.specs.declared.stop.Stop.TheVariants.{Refused, SourceFailed, SinkFailed, Memory, TooLarge}
use Rattle.report_command.specs.Feeds.{FedOf, FedPart, nothing, front, FedRefused, in_front as refused_in_front, behind as refused_behind, all, FedFilePart, Feeds}

-- ## Visitors that feed reporters: which reference they hold, and what it shows

module _ {V N : Type 0} (name : V → N) (states : V → List State) where
  abbrev pub Start : V → Header → V → Type 0
  Start v header w = w ≡ v

  abbrev pub Never : {X : Type 0} → V → X → V → Type 0
  Never v x w = ⊥

  abbrev pub Step : V → Entry → V → Type 0
  Step v e w = (name w ≡ name v) × (states w ≡ fed (states v) e)

  takes_feed : (v w : V) (es : List Entry) → Takes Step v es w → (name w ≡ name v) × (states w ≡ fed_all (states v) es)
  takes_feed v w [] same = (sym (ap name same), sym (ap states same))
  takes_feed v w (e ∷ es) takes =
      let rest = takes_feed takes.0 w es takes.2 in
      (rest.0 ∙ takes.1.0, rest.1 ∙ ap (λ reports. fed_all reports es) takes.1.1)

  -- it took a front of those that were due
  record TookFront (v w : V) (due : List Entry) : Type 0 where
    pub taken : List Entry
    pub rest : List Entry
    pub split : taken ++ rest ≡ due
    pub same : name w ≡ name v
    pub feeds : states w ≡ fed_all (states v) taken

  part_feed : (v w : V) (due : List Entry) → TakesPart Step Never v due w → TookFront v w due
  part_feed v w due (some taken rest split takes) =
      let feeds = takes_feed v w taken takes in
      record { taken = taken; rest = rest; split = split; same = feeds.0; feeds = feeds.1 }
  part_feed v w due (some_and_failed taken rest e u split takes fails) = absurd fails

  module _ (v w : V) (header : Header) (es : List Entry) where
    all_fed : Begins Start v header (λ u. Takes Step u es w) → states w ≡ fed_all (states v) es
    all_fed begins = (takes_feed begins.begun w es begins.on).1 ∙ ap (λ u. fed_all (states u) es) begins.starts

    some_fed : Begins Start v header (λ u. TakesPart Step Never u es w) → TookFront v w es
    some_fed begins = subst (λ u. TookFront u w es) begins.starts (part_feed begins.begun w es begins.on)

  -- it holds the same reference
  pub visits_same : (v w : V) → Visits Start Never Step Never v w → name w ≡ name v
  visits_same v w (left_alone same) = ap name same
  visits_same v w (failed_start fails) = absurd fails
  visits_same v w (handed {header = header} begins) =
      (some_fed v w header begins.on.0 (record { begun = begins.begun; starts = begins.starts; on = begins.on.1 })).same

  -- ## What a query of these boxes has done with one

  module _ (image : List ℕ) (boxes : List Bounds) (v w : V) where
    fed_of : (count : ℕ) → Visited Start Never Step Never image boxes v w count → FedOf image boxes (states v) (states w)
    fed_of count visited = record { entries = visited.entries; answers = visited.answers; fed = all_fed v w (header_in image) visited.entries visited.begins }

    fed_part : {s s' : Source} → VisitedPart Start Never Step Never image boxes s s' v w → FedPart image boxes (states v) (states w)
    fed_part (untouched same asks) = nothing (ap states same)
    fed_part (no_start index opened fails asks) = absurd fails
    fed_part (begun due answers begins) =
        let took = some_fed v w (header_in image) due begins in
        front took.taken took.rest (subst (AnswersPart image boxes) (sym took.split) answers) took.feeds

    fed_refused : (broken : Broken) → VisitedRefused Start Never Step Never image boxes v w broken → FedRefused image boxes (states v) (states w) broken
    fed_refused broken (in_front breaks same) = refused_in_front breaks (ap states same)
    fed_refused broken (behind entries refuses begins) = refused_behind entries refuses (all_fed v w (header_in image) entries begins)

-- ## Results

module _ {D T : Type 0} where
  on_done : (asked : Result D QueryError) (r : Result T Stop) (P : D → Type 0) (Q : Type 0) → ((d : D) → P d → Q) → OnOk r (IsOk asked) → IfOk asked P → OnOk r Q
  on_done (Ok d) (Ok x) P Q f is p = f d p
  on_done (Err e) (Ok x) P Q f is p = absurd (true≢false (sym is))
  on_done asked (Err stop) P Q f is p = tt

  on_stop : (asked : Result D QueryError) (r : Result T Stop) (P Q : Type 0) → (P → Q) → OnErr r (IsErr asked) → OnErr asked P → OnErr r Q
  on_stop (Ok d) (Err stop) P Q f is p = absurd (true≢false (sym is))
  on_stop (Err e) (Err stop) P Q f is p = f p
  on_stop asked (Ok x) P Q f is p = tt

  at_refusal : (asked : Result D QueryError) (r : Result T Stop) (P Q : Broken → Type 0) → ((b : Broken) → P b → Q b)
      → IfRefused r (λ b. IsErrOf asked (query_error.Refused b)) → IfQueryRefused asked P → IfRefused r Q
  at_refusal asked (Ok x) P Q f is p = tt
  at_refusal asked (Err (Refused b)) P Q f is p = f b (subst (λ a. IfQueryRefused a P) is p)
  at_refusal asked (Err SourceFailed) P Q f is p = tt
  at_refusal asked (Err SinkFailed) P Q f is p = tt
  at_refusal asked (Err TooLarge) P Q f is p = tt
  at_refusal asked (Err Memory) P Q f is p = tt

on_err_both : {T : Type 0} (r : Result T Stop) (P Q R : Type 0) → (P → Q → R) → OnErr r P → OnErr r Q → OnErr r R
on_err_both (Ok x) P Q R f p q = tt
on_err_both (Err stop) P Q R f p q = f p q

-- the laws of searches and scans
pub record AreScans : Type 0 where
  pub whole : (image : List ℕ) (index : Option Shape) (pieces : List (List ℕ)) (boxes : List Bounds) (entries : List Entry)
      → IsFile image index pieces → Answers image boxes entries → entries ≡ found (header_in image) boxes pieces
  pub part : (image : List ℕ) (index : Option Shape) (pieces : List (List ℕ)) (boxes : List Bounds) (entries : List Entry)
      → IsFile image index pieces → AnswersPart image boxes entries → (rest : List Entry) × (entries ++ rest ≡ found (header_in image) boxes pieces)
  pub never : (image : List ℕ) (index : Option Shape) (pieces : List (List ℕ)) (boxes : List Bounds) (broken : Broken) (entries : List Entry)
      → IsFile image index pieces → Refuses image boxes broken entries → ⊥
  pub first : (image : List ℕ) (boxes : List Bounds) (broken : Broken) (entries : List Entry)
      → IsUnindexed image → Refuses image boxes broken entries → BreaksFirst image broken

module _ {D V N T : Type 0} (name : V → N) (states : V → List State) (count : D → ℕ) (boxes : List Bounds) (gap : ℕ) (v w : V) (s s' : Source) (asked : Result D QueryError) (result : Result T Stop) where
  -- what the query promises
  pub record Visiting : Type 0 where
    pub done : IfOk asked (λ d. IfTold s (λ image. Visited (Start name states) (Never name states) (Step name states) (Never name states) image boxes v w (count d)))
    pub needed : OnOk asked (IfTold s (λ image. (index : Option Shape) (pieces : List (List ℕ)) → IsFile image index pieces → AsksNeeded image index boxes gap s s'))
    pub all : OnOk asked (IfTold s (λ image. IsUnindexed image → AsksAll image s s'))
    pub part : OnErr asked (IfTold s (λ image. VisitedPart (Start name states) (Never name states) (Step name states) (Never name states) image boxes s s' v w))
    pub needed_part : OnErr asked (IfTold s (λ image. (index : Option Shape) (pieces : List (List ℕ)) → IsFile image index pieces → AsksNeededFront image index boxes gap s s'))
    pub failed : IsErrOf asked query_error.SourceFailed → Rose s.faults s'.faults
    pub declared : IfTold s (λ image. AsksOnly (IsDeclared image) s s')
    pub search : IfTold s (λ image. (t : Shape) → IsOpen image (Some t) → AsksSearch image t boxes gap s s')
    pub front : IfTold s (λ image. ((t : Shape) → IsOpen image (Some t) → ⊥) → AsksFront image s s')
    pub refused : IfQueryRefused asked (λ broken. IfTold s (λ image. VisitedRefused (Start name states) (Never name states) (Step name states) (Never name states) image boxes v w broken))

  -- and what becomes of its result
  pub record Ending : Type 0 where
    pub done : OnOk result (IsOk asked)
    pub stopped : OnErr result (IsErr asked)
    pub refused : IfRefused result (λ broken. IsErrOf asked (query_error.Refused broken))
    pub failed : IsErrOf result SourceFailed → IsErrOf asked query_error.SourceFailed
    pub no_sink : result ≢ Err SinkFailed
    pub no_limit : result ≢ Err TooLarge

  module _ (law : AreScans) (visiting : Visiting) (ending : Ending) where
    abbrev Before : List State
    Before = states v

    abbrev After : List State
    After = states w

    done : OnOk result (IfTold s (λ image. FedOf image boxes Before After))
    done = on_done asked result _ _ (λ d visited image told. fed_of name states image boxes v w (count d) (visited image told)) ending.done visiting.done

    part : OnErr result (IfTold s (λ image. FedPart image boxes Before After))
    part = on_stop asked result _ _ (λ visited image told. fed_part name states image boxes v w (visited image told)) ending.stopped visiting.part

    -- a front of what is found is a front of what a filter finds
    file_part : (image : List ℕ) (index : Option Shape) (pieces : List (List ℕ)) → IsFile image index pieces → FedPart image boxes Before After → AsksNeededFront image index boxes gap s s'
        → FedFilePart image index pieces boxes gap s s' Before After
    file_part image index pieces file (nothing same) asks = record { taken = []; rest = found (header_in image) boxes pieces; split = refl; fed = same; asked = asks }
    file_part image index pieces file (front taken rest answers feeds) asks =
        let more = law.part image index pieces boxes (taken ++ rest) file answers in
        record { taken = taken; rest = rest ++ more.0; split = sym (append_assoc taken rest more.0) ∙ more.1; fed = feeds; asked = asks }
    file_part image index pieces file (all of) asks = record {
      taken = of.entries;
      rest = [];
      split = append-nil of.entries ∙ law.whole image index pieces boxes of.entries file of.answers;
      fed = of.fed;
      asked = asks;
    }

    first : (image : List ℕ) (broken : Broken) → FedRefused image boxes Before After broken → IsUnindexed image → BreaksFirst image broken
    first image broken (refused_in_front breaks same) unindexed = breaks.first
    first image broken (refused_behind entries refuses feeds) unindexed = law.first image boxes broken entries unindexed refuses

    -- a file that breaks no rule is not refused
    unrefused : (image : List ℕ) (broken : Broken) → FedRefused image boxes Before After broken → IsValid image → ⊥
    unrefused image broken (refused_in_front breaks same) valid = first_invalid image breaks.first valid
    unrefused image broken (refused_behind entries refuses feeds) valid =
        let file = valid_file image valid in
        law.never image file.0 file.1 boxes broken entries file.2 refuses

    pub feeds : Feeds boxes gap s s' Before After result
    feeds = record {
      headline = on_ok_both result _ _ _ (λ of needed image told index pieces file. record {
        fed = (of image told).fed ∙ ap (fed_all Before) (law.whole image index pieces boxes (of image told).entries file (of image told).answers);
        asked = needed image told index pieces file;
      }) done (on_done asked result _ _ (λ d needed. needed) ending.done visiting.needed);
      headline_part = on_err_both result _ _ _ (λ of needed image told index pieces file. file_part image index pieces file (of image told) (needed image told index pieces file))
          part (on_stop asked result _ _ (λ needed. needed) ending.stopped visiting.needed_part);
      done = done;
      sound = on_ok_both result _ _ _ (λ of all image told unindexed. (unindexed_valid image boxes (of image told).entries (of image told).answers unindexed, all image told unindexed))
          done (on_done asked result _ _ (λ d all. all) ending.done visiting.all);
      refused = at_refusal asked result _ _ (λ broken visited image told.
          let refusal = fed_refused name states image boxes v w broken (visited image told) in (refusal, first image broken refusal)) ending.refused visiting.refused;
      unrefused = λ image told valid. at_refusal asked result _ _ (λ broken visited.
          unrefused image broken (fed_refused name states image boxes v w broken (visited image told)) valid) ending.refused visiting.refused;
      part = part;
      failed = λ is. visiting.failed (ending.failed is);
      no_sink = ending.no_sink;
      no_limit = ending.no_limit;
      declared = visiting.declared;
      search = visiting.search;
      front = visiting.front;
    }

-- the same of what it shows
pub feeds_at : {T : Type 0} (boxes : List Bounds) (gap : ℕ) (s s' : Source) (a b c d : List State) (result : Result T Stop) → a ≡ c → b ≡ d → Feeds boxes gap s s' a b result → Feeds boxes gap s s' c d result
feeds_at boxes gap s s' a b c d result before after f = subst (λ x. Feeds boxes gap s s' c x result) after (subst (λ x. Feeds boxes gap s s' x b result) before f)
