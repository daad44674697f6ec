-- How far a scan has come, turn by turn.
use Rattle.std.proofs.Common.{◌≡◌, ℕ, ◌+◌, ◌-◌, ◌≤◌, Bool, true, false, List, [], ◌∷◌, ◌++◌, length, None, refl, sym, subst, ◌∙◌, arith}
use Rattle.std.specs.Bool.{MatchBool}
use Rattle.std.specs.List.{range_with_len}
use Rattle.order_keys.specs.declared.bounds.Bounds.{Bounds}
use Rattle.flat_layout.specs.declared.Broken.{Broken}
use Rattle.flat_layout.specs.Promises.{Names}
use Rattle.fgb_schema.specs.Paths.{feature_root}
use Rattle.fgb_schema.specs.Weights.{BreaksBuffer}
use Rattle.fgb_schema.specs.Headers.{Header}
use Rattle.fgb_outside.specs.Source.{Source, IfTold}
use Rattle.fgb_outside.specs.Asked.{IsInside, Reads, ReadsFront}
use Rattle.fgb_file.specs.File.{header_end, told_count, Agrees, BreaksCount, BreaksFeature, in_prefix, Passes, Walks}
use Rattle.fgb_file.proofs.Passing.{passes_none}
use Rattle.fgb_reader.specs.Reading.{Shows, StandsIn, RefusesNext, Fetches, FetchesPart, IsAtEnd, IsAtNext, ahead_of, buffer_of, end_of, first_of, next_of, place_of}
use Rattle.fgb_reader.specs.Requests.{AsksAtMost, mebibytes}
use Rattle.fgb_reader.specs.Tallies.{Counts, seen_of}
use Rattle.fgb_reader.specs.declared.pieces.Pieces.{Pieces}
use Rattle.fgb_reader.specs.declared.tally.Tally.{Tally}
use Rattle.fgb_reader.proofs.Going.{fetches_nothing, fetches_on, fetches_all, part_all}
use Rattle.found_features.specs.Entries.{Entry}
use Rattle.feature_scan.specs.Scans.{IsScan}
use Rattle.feature_scan.specs.Walks.{PassesOne, FailsOne, Stands, Goes}
use Rattle.feature_scan.proofs.Standing.{IsDone, IsPart, IsRefused, breaks_there, early_there, stands_more, stands_failed, stands_part, stands_behind, stands_miscounted, stands_done}

most_more : (count count' : ℕ) (handed : Bool) → MatchBool handed (count' ≡ count + 1) (count' ≡ count) → count' ≤ count + 1
most_more count count' true more = omega (arith, more)
most_more count count' false more = omega (arith, more)

-- P of the file that is scanned
abbrev pub OfScan : Header → ℕ → ℕ → Source → (List ℕ → Type 0) → Type 0
OfScan header first end s P = IfTold s (λ image. IsScan image header first end → P image)

module _ {V : Type 0} (step failed_step : V → Entry → V → Type 0) (header : Header) (boxes : List Bounds) (first end : ℕ) where
  pub goes_start : (p : Pieces) (tally : Tally) (s : Source) (v : V) → Shows p s → next_of p ≡ first → seen_of tally ≡ 0
      → ((image : List ℕ) (begun : ℕ) → header.features_count ≡ told_count image → Counts image begun [] tally) → Goes step header boxes first end p p tally 0 s s v v
  goes_start p tally s v shows next none counts = record {
    fetches = fetches_nothing p s shows;
    few = omega (arith, none);
    fewer = omega arith;
    stands = λ image told is. record {
      pieces = [];
      passes = subst (Passes image None []) (sym (next ∙ is.begins)) (passes_none image None is.unindexed tt);
      counts = counts image (header_end image) (subst (λ (h : Header). header.features_count ≡ h.features_count) is.shown refl);
      many = refl;
      takes = refl;
    };
  }

  module _ (p q : Pieces) (tally : Tally) (count : ℕ) (s t : Source) (v u : V) (goes : Goes step header boxes first end p q tally count s t v u) (starts : first_of p ≡ first) (ends : end_of p ≡ end) where
    -- the section ends with the file
    whole : (image : List ℕ) → IsScan image header first end → end_of q ≡ length image
    whole image is = goes.fetches.end ∙ ends ∙ is.ends

    -- nothing more can be read
    pub goes_part : OfScan header first end s (λ image. IsPart step failed_step image boxes v u)
    goes_part image told is = stands_part step image boxes (next_of q) tally count v u (goes.stands image told is) failed_step

    -- the next size prefix is refused
    pub goes_prefix : (e : Broken) → IfTold t (λ image. end_of q ≡ length image → RefusesNext q e image) → OfScan header first end s (λ image. IsRefused step image boxes e v u)
    goes_prefix e refuses image told is =
        let next = refuses image (goes.fetches.reads.keeps.image ∙ told) (whole image is) in
        let breaks : BreaksFeature image (next_of q) e.place e.rule = subst (λ n. BreaksFeature image (next_of q) n e.rule) (sym next.place) (in_prefix next.breaks) in
        stands_behind step image boxes (next_of q) tally count v u (goes.stands image told is) e next.early breaks

    module _ (r : Pieces) (t' : Source) (fetches : Fetches q r t t') where
      -- the next feature is lent
      module _ (next : IsAtNext q r t) where
        pub few_here : seen_of tally ≤ place_of r
        few_here = omega (arith, goes.few, next.place)

        begun : first_of r ≡ first
        begun = fetches.first ∙ goes.fetches.first ∙ starts

        lent : OfScan header first end s (λ image. StandsIn image r)
        lent image told is = next.stands image (goes.fetches.reads.keeps.image ∙ told) (whole image is)

        stands_here : OfScan header first end s (λ image. Stands step image boxes (place_of r) tally count v u)
        stands_here image told is = subst (λ n. Stands step image boxes n tally count v u) (sym next.place) (goes.stands image told is)

        -- it was passed
        pub goes_turn : (w : V) (tally' : Tally) (count' : ℕ) (handed : Bool) → PassesOne step header boxes r (seen_of tally) handed u w → seen_of tally' ≡ seen_of tally + 1
            → ((image : List ℕ) (begun : ℕ) (pieces : List (List ℕ)) (piece : List ℕ) → Walks image begun pieces (place_of r) → Counts image begun pieces tally → Counts image begun (pieces ++ piece ∷ []) tally')
            → MatchBool handed (count' ≡ count + 1) (count' ≡ count) → Goes step header boxes first end p r tally' count' s t' v w
        goes_turn w tally' count' handed one more counts counted = record {
          fetches = fetches_on goes.fetches fetches;
          few = omega (arith, goes.few, next.place, next.some, more);
          fewer = omega (arith, goes.fewer, more, most_more count count' handed counted);
          stands = λ image told is. stands_more image header first end is r (lent image told is) begun boxes step tally count v u w (stands_here image told is) tally' count' handed one (counts image (header_end image)) counted;
        }

        -- the visitor failed at it, or was not handed it
        pub goes_failed : (w : V) → FailsOne failed_step header boxes r (seen_of tally) u w → OfScan header first end s (λ image. IsPart step failed_step image boxes v w)
        goes_failed w fails image told is = stands_failed image header first end is r (lent image told is) begun boxes step tally count v u w (stands_here image told is) failed_step fails

        -- it breaks a rule
        pub goes_broken : (w : V) (e : Broken) → w ≡ u → Names (place_of r + 4) (BreaksBuffer (buffer_of r) (feature_root header)) e → OfScan header first end s (λ image. IsRefused step image boxes e v w)
        goes_broken w e same named image told is =
            subst (λ x. IsRefused step image boxes e v x) (sym same)
            (stands_behind step image boxes (place_of r) tally count v u (stands_here image told is) e (early_there image header first end is r (lent image told is) begun) (breaks_there image header first end is r (lent image told is) begun e named))

      -- the features have ended
      module _ (ended : IsAtEnd q r) where
        at_end_of : (image : List ℕ) → IsScan image header first end → length image ≡ next_of q
        at_end_of image is = sym (ended.ended ∙ whole image is)

        -- their number is wrong
        pub goes_miscounted : (e : Broken) → ((image : List ℕ) (begun : ℕ) (pieces : List (List ℕ)) → end ≡ length image → Counts image begun pieces tally → BreaksCount image begun pieces e.place e.rule)
            → OfScan header first end s (λ image. IsRefused step image boxes e v u)
        goes_miscounted e judged image told is =
            let stands = goes.stands image told is in
            stands_miscounted step image boxes (next_of q) tally count v u stands (at_end_of image is) e (judged image (header_end image) stands.pieces is.ends stands.counts)

        -- or right
        pub goes_done : ((image : List ℕ) (begun : ℕ) (pieces : List (List ℕ)) → end ≡ length image → Counts image begun pieces tally → Agrees (told_count image) (length pieces))
            → OfScan header first end s (λ image. IsDone step image boxes count v u)
        goes_done judged image told is =
            let stands = goes.stands image told is in
            stands_done step image boxes (next_of q) tally count v u stands (at_end_of image is) (judged image (header_end image) stands.pieces is.ends stands.counts)

-- ## What was asked for

module _ (p r : Pieces) (s s' : Source) (first end : ℕ) (begins : first_of p ≡ first) (ends : end_of p ≡ end) (ahead : ahead_of p ≡ first) where
  -- all of the section
  pub read_all : ahead_of r ≡ end → Fetches p r s s' → Reads (IsInside first end) s s' (range_with_len first (end - first)) × AsksAtMost (mebibytes (end - first)) s s'
  read_all done fetches =
      let Read : ℕ → ℕ → Type 0 = λ from till. Reads (IsInside from till) s s' (range_with_len from (till - from)) × AsksAtMost (mebibytes (till - from)) s s' in
      subst (Read first) ends (subst (λ n. Read n (end_of p)) begins (fetches_all p r s s' (ahead ∙ sym begins) (done ∙ sym ends) fetches))

  -- a front of it
  pub read_part : FetchesPart p r s s' → ReadsFront (IsInside first end) s s' (range_with_len first (end - first))
  read_part fetches =
      let Read : ℕ → ℕ → Type 0 = λ from till. ReadsFront (IsInside from till) s s' (range_with_len from (till - from)) in
      subst (Read first) ends (subst (λ n. Read n (end_of p)) begins (part_all p r s s' (ahead ∙ sym begins) fetches))
