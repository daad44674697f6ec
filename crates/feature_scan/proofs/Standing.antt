-- What stands of a scan after a feature, where it stops, and at its end.
use Rattle.std.proofs.Common.{◌≡◌, ℕ, ◌+◌, ◌-◌, ◌<◌, Bool, true, false, List, [], ◌∷◌, ◌++◌, length, None, sym, ap, subst, ◌∙◌, arith, length-append}
use Rattle.std.specs.Prelude.{slice_range}
use Rattle.std.specs.Bool.{MatchBool}
use Rattle.std.specs.List.{concat}
use Rattle.order_keys.specs.declared.bounds.Bounds.{Bounds}
use Rattle.box_list.specs.Lists.{meets_any}
use Rattle.flat_layout.specs.declared.Broken.{Broken}
use Rattle.flat_layout.specs.Promises.{IsClean, Names}
use Rattle.fgb_schema.specs.Paths.{feature_root}
use Rattle.fgb_schema.specs.Weights.{BreaksBuffer}
use Rattle.fgb_schema.specs.Headers.{Header}
use Rattle.fgb_schema.specs.Features.{feature_of, own_box}
use Rattle.fgb_file.specs.File.{header_in, size_at, buffer_at, header_end, box_of, Walks, BreaksFeature, in_buffer, BreaksCount, Agrees, told_count, Passes}
use Rattle.fgb_file.proofs.Walk.{piece_at, piece_buffer}
use Rattle.fgb_file.proofs.Passing.{passes_more, passes_file, passes_end, passes_offset}
use Rattle.fgb_reader.specs.Reading.{StandsIn, buffer_of, first_of, next_of, place_of}
use Rattle.fgb_reader.specs.Tallies.{Counts, seen_of}
use Rattle.fgb_reader.specs.declared.pieces.Pieces.{Pieces}
use Rattle.fgb_reader.specs.declared.tally.Tally.{Tally}
use Rattle.found_features.specs.Entries.{Entry, found}
use Rattle.found_features.specs.Visits.{Takes, TakesPart}
use Rattle.found_features.proofs.Entries.{next_entry, found_hit, found_miss}
use Rattle.found_features.proofs.Taking.{takes_more, part_all, part_failed}
use Rattle.feature_scan.specs.Scans.{IsScan, Scanned, whole, ScannedPart, part, ScanRefused, behind, at_end}
use Rattle.feature_scan.specs.Walks.{IsCleanLent, lent_entry, PassesOne, FailsOne, unhanded, failed, Stands}

-- what a scan promises: done, stopped, and refused
abbrev pub IsDone : {V : Type 0} → (V → Entry → V → Type 0) → List ℕ → List Bounds → ℕ → V → V → Type 0
IsDone step image boxes count v w = (entries : List Entry) × Scanned image boxes entries × Takes step v entries w × (count ≡ length entries)

abbrev pub IsPart : {V : Type 0} → (V → Entry → V → Type 0) → (V → Entry → V → Type 0) → List ℕ → List Bounds → V → V → Type 0
IsPart step failed_step image boxes v w = (entries : List Entry) × ScannedPart image boxes entries × TakesPart step failed_step v entries w

abbrev pub IsRefused : {V : Type 0} → (V → Entry → V → Type 0) → List ℕ → List Bounds → Broken → V → V → Type 0
IsRefused step image boxes broken v w = (entries : List Entry) × ScanRefused image boxes broken entries × Takes step v entries w

-- ## The feature that is lent, in the file

module _ (image : List ℕ) (header : Header) (first end : ℕ) (is : IsScan image header first end) (p : Pieces) (lent : StandsIn image p) (from : first_of p ≡ first) where
  -- its own boxes
  box_there : box_of (header_in image) (piece_at image (place_of p)) ≡ own_box (feature_of header (buffer_of p))
  box_there =
      ap (λ b. own_box (feature_of (header_in image) b)) (piece_buffer image (place_of p) lent.framed ∙ sym lent.buffer)
      ∙ ap (λ h. own_box (feature_of h (buffer_of p))) (sym is.shown)

  -- its entry, behind those that were passed
  entry_there : (pieces : List (List ℕ)) (number : ℕ) → Passes image None pieces (place_of p) → number ≡ length pieces → next_entry (header_in image) pieces (piece_at image (place_of p)) ≡ lent_entry header p number
  entry_there pieces number passes counted =
      let at = place_of p in
      let make : ℕ → ℕ → List ℕ → Bounds → Entry = λ n o b own. record { number = n; offset = o; buffer = b; own = own } in
      let offset : length (concat pieces) ≡ at - first_of p = omega (arith, passes_offset image passes, from, is.begins) in
      let bytes : slice_range (piece_at image at) 4 (length (piece_at image at)) ≡ buffer_of p = piece_buffer image at lent.framed ∙ sym lent.buffer in
      ap (λ n. make n (length (concat pieces)) (slice_range (piece_at image at) 4 (length (piece_at image at))) (box_of (header_in image) (piece_at image at))) (sym counted)
      ∙ ap (λ o. make number o (slice_range (piece_at image at) 4 (length (piece_at image at))) (box_of (header_in image) (piece_at image at))) offset
      ∙ ap (λ b. make number (at - first_of p) b (box_of (header_in image) (piece_at image at))) bytes
      ∙ ap (make number (at - first_of p) (buffer_of p)) box_there

  -- it breaks no rule
  passes_there : (pieces : List (List ℕ)) → Passes image None pieces (place_of p) → IsCleanLent header p → Passes image None (pieces ++ piece_at image (place_of p) ∷ []) (next_of p)
  passes_there pieces passes clean =
      let at = place_of p in
      let there : IsClean (BreaksBuffer (buffer_at image at) (feature_root (header_in image))) =
      subst (λ h. IsClean (BreaksBuffer (buffer_at image at) (feature_root h))) is.shown (subst (λ b. IsClean (BreaksBuffer b (feature_root header))) lent.buffer clean) in
      let next : at + (4 + size_at image at) ≡ next_of p = ap (λ n. at + n) (sym lent.len) in
      subst (Passes image None (pieces ++ piece_at image at ∷ [])) next (passes_more image passes lent.framed there tt)

  pub early_there : place_of p < length image
  early_there = omega (arith, lent.framed.fits)

  -- it breaks a rule
  pub breaks_there : (e : Broken) → Names (place_of p + 4) (BreaksBuffer (buffer_of p) (feature_root header)) e → BreaksFeature image (place_of p) e.place e.rule
  breaks_there e named =
      let at = place_of p in
      let broken : BreaksBuffer (buffer_at image at) (feature_root (header_in image)) named.0 e.rule =
      subst (λ h. BreaksBuffer (buffer_at image at) (feature_root h) named.0 e.rule) is.shown (subst (λ b. BreaksBuffer b (feature_root header) named.0 e.rule) lent.buffer named.2) in
      let at_e : at + 4 + named.0 ≡ e.place = omega (arith, named.1) in
      subst (λ n. BreaksFeature image at n e.rule) at_e (in_buffer lent.framed broken)

  module _ (boxes : List Bounds) where
    -- where its own box meets one of the boxes it is found, and else not
    found_there : (pieces : List (List ℕ)) (number : ℕ) → Passes image None pieces (place_of p) → number ≡ length pieces → meets_any boxes (own_box (feature_of header (buffer_of p))) ≡ true
        → found (header_in image) boxes (pieces ++ piece_at image (place_of p) ∷ []) ≡ found (header_in image) boxes pieces ++ lent_entry header p number ∷ []
    found_there pieces number passes counted hit =
        found_hit (header_in image) boxes pieces (piece_at image (place_of p)) (ap (meets_any boxes) box_there ∙ hit)
        ∙ ap (λ (e : Entry). found (header_in image) boxes pieces ++ e ∷ []) (entry_there pieces number passes counted)

    unfound_there : (pieces : List (List ℕ)) → meets_any boxes (own_box (feature_of header (buffer_of p))) ≡ false
        → found (header_in image) boxes (pieces ++ piece_at image (place_of p) ∷ []) ≡ found (header_in image) boxes pieces
    unfound_there pieces miss = found_miss (header_in image) boxes pieces (piece_at image (place_of p)) (ap (meets_any boxes) box_there ∙ miss)

    module _ {V : Type 0} (step : V → Entry → V → Type 0) (tally : Tally) (count : ℕ) (v u w : V) (stands : Stands step image boxes (place_of p) tally count v u) where
      -- it was passed
      pub stands_more : (tally' : Tally) (count' : ℕ) (handed : Bool) → PassesOne step header boxes p (seen_of tally) handed u w
          → ((pieces : List (List ℕ)) (piece : List ℕ) → Walks image (header_end image) pieces (place_of p) → Counts image (header_end image) pieces tally → Counts image (header_end image) (pieces ++ piece ∷ []) tally')
          → MatchBool handed (count' ≡ count + 1) (count' ≡ count) → Stands step image boxes (next_of p) tally' count' v w
      stands_more tally' count' true one counts more =
          let all = found (header_in image) boxes stands.pieces in
          let grows = found_there stands.pieces (seen_of tally) stands.passes stands.counts.seen (sym one.met) in
          record {
            pieces = stands.pieces ++ piece_at image (place_of p) ∷ [];
            passes = passes_there stands.pieces stands.passes one.clean;
            counts = counts stands.pieces (piece_at image (place_of p)) stands.passes.walks stands.counts;
            many = more ∙ ap (λ n. n + 1) stands.many ∙ sym (length-append all (lent_entry header p (seen_of tally) ∷ [])) ∙ ap length (sym grows);
            takes = subst (λ es. Takes step v es w) (sym grows) (takes_more step v u w all (lent_entry header p (seen_of tally)) stands.takes one.taken);
          }
      stands_more tally' count' false one counts more =
          let all = found (header_in image) boxes stands.pieces in
          let same = unfound_there stands.pieces (sym one.met) in
          record {
            pieces = stands.pieces ++ piece_at image (place_of p) ∷ [];
            passes = passes_there stands.pieces stands.passes one.clean;
            counts = counts stands.pieces (piece_at image (place_of p)) stands.passes.walks stands.counts;
            many = more ∙ stands.many ∙ ap length (sym same);
            takes = subst (λ es. Takes step v es w) (sym same) (subst (λ x. Takes step v all x) (sym one.taken) stands.takes);
          }

      -- it was not
      pub stands_failed : (failed_step : V → Entry → V → Type 0) → FailsOne failed_step header boxes p (seen_of tally) u w → IsPart step failed_step image boxes v w
      stands_failed failed_step (unhanded same) =
          let all = found (header_in image) boxes stands.pieces in
          (all, part stands.passes, part_all step failed_step v w all (subst (λ x. Takes step v all x) (sym same) stands.takes))
      stands_failed failed_step (failed clean hit fails) =
          let all = found (header_in image) boxes stands.pieces in
          let e = lent_entry header p (seen_of tally) in (
            all ++ e ∷ [],
            subst (ScannedPart image boxes) (found_there stands.pieces (seen_of tally) stands.passes stands.counts.seen hit) (part (passes_there stands.pieces stands.passes clean)),
            part_failed step failed_step v u w all e [] stands.takes fails,
          )

-- ## Where it stops

module _ {V : Type 0} (step : V → Entry → V → Type 0) (image : List ℕ) (boxes : List Bounds) (at : ℕ) (tally : Tally) (count : ℕ) (v w : V) (stands : Stands step image boxes at tally count v w) where
  pub stands_part : (failed_step : V → Entry → V → Type 0) → IsPart step failed_step image boxes v w
  stands_part failed_step = let all = found (header_in image) boxes stands.pieces in (all, part stands.passes, part_all step failed_step v w all stands.takes)

  -- at a feature that breaks a rule
  pub stands_behind : (e : Broken) → at < length image → BreaksFeature image at e.place e.rule → IsRefused step image boxes e v w
  stands_behind e early breaks = (found (header_in image) boxes stands.pieces, behind stands.passes early breaks, stands.takes)

  module _ (ends : length image ≡ at) where
    -- at the end, where their number is wrong
    pub stands_miscounted : (e : Broken) → BreaksCount image (header_end image) stands.pieces e.place e.rule → IsRefused step image boxes e v w
    stands_miscounted e breaks = (found (header_in image) boxes stands.pieces, at_end (passes_end image stands.passes (omega (arith, ends))) breaks, stands.takes)

    -- or right
    pub stands_done : Agrees (told_count image) (length stands.pieces) → IsDone step image boxes count v w
    stands_done agrees = (found (header_in image) boxes stands.pieces, whole (passes_file image stands.passes (omega (arith, ends)) agrees), stands.takes, stands.many)
