-- Going through the features of a source: how it begins, one turn, where it is refused, and what was asked for.
use Rattle.std.proofs.Common.{◌≡◌, ℕ, ◌+◌, ◌-◌, List, [], ◌∷◌, ◌++◌, length, Option, Some, None, Result, MatchResult, refl, sym, ap, subst, ◌∙◌, arith}
use Rattle.std.specs.List.{range_with_len}
use Rattle.flat_layout.specs.declared.Broken.{Broken}
use Rattle.flat_layout.specs.Promises.{IsClean, Names}
use Rattle.order_keys.specs.declared.bounds.Bounds.{Bounds}
use Rattle.level_bounds.specs.Levels.{Shape}
use Rattle.fgb_schema.specs.Paths.{feature_root}
use Rattle.fgb_schema.specs.Weights.{BreaksBuffer}
use Rattle.fgb_schema.specs.Headers.{Header}
use Rattle.fgb_schema.specs.Features.{feature_of, own_box}
use Rattle.fgb_outside.specs.Source.{Source, IfTold}
use Rattle.fgb_outside.specs.Asked.{IsInside, Reads, ReadsFront}
use Rattle.fgb_file.specs.File.{header_in, told_count, first_place, LeafAgrees, Walks, Agrees, BreaksCount, BreaksFirst}
use Rattle.fgb_reader.specs.Reading.{Shows, StandsIn, IsAtEnd, IsAtNext, RefusesNext, Fetches, FetchesPart, ahead_of, buffer_of, end_of, first_of, next_of, place_of}
use Rattle.fgb_reader.specs.Requests.{AsksAtMost, mebibytes}
use Rattle.fgb_reader.specs.Tallies.{Counts, seen_of}
use Rattle.fgb_reader.specs.declared.pieces.Pieces.{Pieces}
use Rattle.fgb_reader.specs.declared.tally.Tally.{Tally}
use Rattle.fgb_reader.proofs.Going.{fetches_nothing, fetches_on, fetches_all, part_all}
use Rattle.fgb_check.specs.Leaves.{RefusesLeaf}
use Rattle.fgb_check.specs.Verdicts.{IsFileWith}
use Rattle.fgb_check.specs.Walks.{IsOpened, Stands, IsSound, Goes, box_at}
use Rattle.fgb_check.proofs.Walking.{stands_none, stands_next, stands_refused, stands_leaf, stands_judged, breaks_prefix, breaks_buffer, sound_buffer, shown_box}

-- what is told of counts, as one feature more is counted
abbrev pub IsCounted : Tally → Tally → ℕ → Type 0
IsCounted tally tally' at = (image : List ℕ) (first : ℕ) (pieces : List (List ℕ)) (piece : List ℕ) → Walks image first pieces at → Counts image first pieces tally → Counts image first (pieces ++ piece ∷ []) tally'

-- and as their number is judged
abbrev pub IsJudged : Tally → ℕ → Result ℕ Broken → Type 0
IsJudged tally end r = (image : List ℕ) (first : ℕ) (pieces : List (List ℕ)) → end ≡ length image → Counts image first pieces tally
    → MatchResult r (λ count. Agrees (told_count image) (length pieces) × (count ≡ length pieces)) (λ broken. BreaksCount image first pieces broken.place broken.rule)

-- ## What stands

module _ (index : Option Shape) (p : Pieces) (tally : Tally) (before : Source) (header : Header) (first : ℕ) (opened : IfTold before (λ image. IsOpened image index header first)) where
  -- no feature is passed yet
  pub turn_none : (count : ℕ) → next_of p ≡ first → count ≡ header.features_count → ((image : List ℕ) (begun : ℕ) → count ≡ told_count image → Counts image begun [] tally)
      → IfTold before (λ image. Stands image index (next_of p) tally)
  turn_none count begins told counts image is =
      let open_image = opened image is in
      stands_none image open_image begins (counts image (first_place image index) (told ∙ ap (λ (h : Header). h.features_count) open_image.shown))

module _ (index : Option Shape) (p : Pieces) (tally : Tally) (before s : Source) (end : ℕ) (stands : IfTold before (λ image. Stands image index (next_of p) tally)) (same : s.image ≡ before.image)
    (ends : end_of p ≡ end) (whole : IfTold before (λ image. length image ≡ end)) where
  -- the section ends with the file
  ends_whole : IfTold before (λ image. end_of p ≡ length image)
  ends_whole image told = ends ∙ sym (whole image told)

  -- a size prefix is refused
  pub turn_refused : (e : Broken) → IfTold s (λ image. end_of p ≡ length image → RefusesNext p e image) → IfTold before (λ image. BreaksFirst image e)
  turn_refused e refused image told =
      let next = refused image (same ∙ told) (ends_whole image told) in
      stands_refused image (stands image told) next.early (breaks_prefix image next.place next.breaks)

  -- the end is judged
  pub turn_judged : (p' : Pieces) (r : Result ℕ Broken) → IsAtEnd p p' → IsJudged tally end r → IfTold before (λ image. MatchResult r (IsFileWith image index) (BreaksFirst image))
  turn_judged p' r at_end judged image told =
      stands_judged image r (stands image told) (omega (arith, at_end.ended, ends_whole image told)) (λ pieces counts. judged image (first_place image index) pieces (sym (whole image told)) counts)

  -- the feature behind is lent
  module _ (p' : Pieces) (next : IsAtNext p p' s) (header : Header) (shown : IfTold before (λ image. header ≡ header_in image)) where
    -- what stood behind the last one stands at its place
    at_place : IfTold before (λ image. Stands image index (place_of p') tally)
    at_place image told = subst (λ n. Stands image index n tally) (sym next.place) (stands image told)

    -- it is the one that stands there
    lent : IfTold before (λ image. StandsIn image p')
    lent image told = next.stands image (same ∙ told) (ends_whole image told)

    -- its buffer is refused
    pub turn_broken : (e : Broken) → Names (place_of p' + 4) (BreaksBuffer (buffer_of p') (feature_root header)) e → IfTold before (λ image. BreaksFirst image e)
    turn_broken e named image told =
        let stands_here = lent image told in
        stands_refused image (at_place image told) (omega (arith, next.place, next.early, ends_whole image told))
        (breaks_buffer image header (shown image told) (place_of p') stands_here.framed (buffer_of p') stands_here.buffer refl named)

    -- its buffer breaks no rule
    module _ (clean : IsClean (BreaksBuffer (buffer_of p') (feature_root header))) where
      sound : IfTold before (λ image. IsSound image (place_of p') (next_of p'))
      sound image told =
          let stands_here = lent image told in
          sound_buffer image header (shown image told) (place_of p') stands_here.framed (buffer_of p') stands_here.buffer (ap (λ n. place_of p' + n) stands_here.len) clean

      -- its leaf is refused
      pub turn_leaf : (e : Broken) → IfTold before (λ image. RefusesLeaf image index (seen_of tally) (place_of p' - first_place image index) (box_at image (place_of p')) e) → IfTold before (λ image. BreaksFirst image e)
      turn_leaf e refused image told = stands_leaf image (at_place image told) (sound image told) (refused image told)

      -- its leaf agrees with it, and it is counted
      pub turn_next : (tally' : Tally) → IfTold before (λ image. LeafAgrees image index (seen_of tally) (place_of p' - first_place image index) (box_at image (place_of p')))
          → IsCounted tally tally' (place_of p') → IfTold before (λ image. Stands image index (next_of p') tally')
      turn_next tally' leaf counts image told =
          stands_next image (at_place image told) (sound image told) (leaf image told) (counts image (first_place image index))

    -- its own box
    pub turn_box : (own : Bounds) → own ≡ own_box (feature_of header (buffer_of p')) → IfTold before (λ image. own ≡ box_at image (place_of p'))
    turn_box own is image told =
        let stands_here = lent image told in
        shown_box image header (shown image told) (place_of p') stands_here.framed (buffer_of p') stands_here.buffer is

-- ## Without an index

pub goes_none : (p : Pieces) (tally : Tally) (s : Source) (header : Header) (first count : ℕ) → next_of p ≡ first → Shows p s → seen_of tally ≡ 0 → count ≡ header.features_count
    → ((image : List ℕ) (begun : ℕ) → count ≡ told_count image → Counts image begun [] tally) → IfTold s (λ image. IsOpened image None header first) → Goes p p tally s s
goes_none p tally s header first count begins shows none told counts opened = record {
  fetches = fetches_nothing p s shows;
  few = omega (arith, none);
  stands = turn_none None p tally s header first opened count begins told counts;
}

module _ (begun p : Pieces) (tally : Tally) (before s : Source) (header : Header) (first end : ℕ) (goes : Goes begun p tally before s) (ends : end_of begun ≡ end)
    (opened : IfTold before (λ image. IsOpened image None header first)) (whole : IfTold before (λ image. length image ≡ end)) where
  ends_here : end_of p ≡ end
  ends_here = goes.fetches.end ∙ ends

  shown : IfTold before (λ image. header ≡ header_in image)
  shown image told = let open_image = opened image told in open_image.shown

  -- a size prefix is refused
  pub goes_refused : (e : Broken) → IfTold s (λ image. end_of p ≡ length image → RefusesNext p e image) → IfTold before (λ image. BreaksFirst image e)
  goes_refused = turn_refused None p tally before s end goes.stands goes.fetches.reads.keeps.image ends_here whole

  -- the end is judged
  pub goes_judged : (p' : Pieces) (r : Result ℕ Broken) → IsAtEnd p p' → IsJudged tally end r → IfTold before (λ image. MatchResult r (IsFileWith image None) (BreaksFirst image))
  goes_judged = turn_judged None p tally before s end goes.stands goes.fetches.reads.keeps.image ends_here whole

  -- the feature behind is lent
  module _ (p' : Pieces) (next : IsAtNext p p' s) where
    -- its buffer is refused
    pub goes_broken : (e : Broken) → Names (place_of p' + 4) (BreaksBuffer (buffer_of p') (feature_root header)) e → IfTold before (λ image. BreaksFirst image e)
    goes_broken = turn_broken None p tally before s end goes.stands goes.fetches.reads.keeps.image ends_here whole p' next header shown

    -- its buffer breaks no rule, and it is counted
    pub goes_next : (tally' : Tally) (s' : Source) → Fetches p p' s s' → IsClean (BreaksBuffer (buffer_of p') (feature_root header)) → seen_of tally' ≡ seen_of tally + 1
        → IsCounted tally tally' (place_of p') → Goes begun p' tally' before s'
    goes_next tally' s' fetches clean more counts = record {
      fetches = fetches_on goes.fetches fetches;
      few = omega (arith, goes.few, more, next.place, next.some);
      stands = turn_next None p tally before s end goes.stands goes.fetches.reads.keeps.image ends_here whole p' next header shown clean tally' (λ image told. tt) counts;
    }

-- ## What was asked for

module _ (p p' : Pieces) (s s' : Source) (first end : ℕ) (begins : first_of p ≡ first) (ends : end_of p ≡ end) (ahead : ahead_of p ≡ first) where
  -- all of the section
  pub read_all : ahead_of p' ≡ end → Fetches p p' s s' → Reads (IsInside first end) s s' (range_with_len first (end - first)) × AsksAtMost (mebibytes (end - first)) s s'
  read_all done fetches =
      let Read : ℕ → ℕ → Type 0 = λ from till. Reads (IsInside from till) s s' (range_with_len from (till - from)) × AsksAtMost (mebibytes (till - from)) s s' in
      subst (Read first) ends (subst (λ n. Read n (end_of p)) begins (fetches_all p p' s s' (ahead ∙ sym begins) (done ∙ sym ends) fetches))

  -- a front of it
  pub read_part : FetchesPart p p' s s' → ReadsFront (IsInside first end) s s' (range_with_len first (end - first))
  read_part fetches =
      let Read : ℕ → ℕ → Type 0 = λ from till. ReadsFront (IsInside from till) s s' (range_with_len from (till - from)) in
      subst (Read first) ends (subst (λ n. Read n (end_of p)) begins (part_all p p' s s' (ahead ∙ sym begins) fetches))
