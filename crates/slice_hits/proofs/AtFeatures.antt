-- A walk through all features: before the first, past one, and at the end.
use Rattle.std.proofs.Common.{◌≡◌, ℕ, ◌+◌, ◌-◌, ◌≤◌, ◌<◌, true, false, List, [], ◌∷◌, ◌++◌, length, None, refl, sym, ap, subst, ◌∙◌, arith}
use Rattle.std.specs.Prelude.{slice_range}
use Rattle.std.specs.List.{concat}
use Rattle.flat_layout.specs.declared.Broken.{Broken}
use Rattle.order_keys.specs.declared.bounds.Bounds.{Bounds}
use Rattle.box_list.specs.Lists.{meets_any}
use Rattle.fgb_header.specs.Views.{header_shown}
use Rattle.fgb_schema.specs.Headers.{Header}
use Rattle.fgb_schema.specs.Features.{feature_of, own_box}
use Rattle.fgb_file.specs.File.{header_in, header_end, size_at, box_of, told_count, Agrees, BreaksCount, BreaksFeature, Passes, Walks}
use Rattle.fgb_file.proofs.Bytes.{length-slice}
use Rattle.fgb_file.proofs.Walk.{piece_at, piece_buffer}
use Rattle.fgb_file.proofs.Passing.{passes_none, passes_more, passes_file, passes_end, passes_offset}
use Rattle.fgb_reader.specs.Tallies.{Counts, seen_of}
use Rattle.found_features.specs.Entries.{Entry, found}
use Rattle.found_features.proofs.Entries.{next_entry, found_hit, found_miss}
use Rattle.feature_scan.specs.Scans.{whole, behind, at_end}
use Rattle.box_query.specs.Answers.{Answers, scanned}
use Rattle.slice_hits.specs.declared.scan.Scan.{Scan}
use Rattle.slice_hits.specs.Answering.{Refuses, in_scan}
use Rattle.slice_hits.specs.Reading.{AreOf, IsRead}
use Rattle.slice_hits.specs.Scanning.{Stands}

-- before the first
pub stands_none : (image : List ℕ) (scan : Scan) → AreOf image None scan.features → scan.at ≡ scan.features.first
    → ((begun : ℕ) → (header_shown scan.features.header).features_count ≡ told_count image → Counts image begun [] scan.tally) → Stands image scan.boxes [] scan
stands_none image scan over begins counts = record {
  over = over;
  sought = refl;
  pieces = [];
  passes = subst (Passes image None []) (sym (begins ∙ over.begins)) (passes_none image None over.opened tt);
  counts = counts (header_end image) (ap (λ (h : Header). h.features_count) over.shown);
  given = refl;
}

module _ (image : List ℕ) (boxes : List Bounds) (entries : List Entry) (scan : Scan) (stands : Stands image boxes entries scan) where
  -- the feature that stands next is read under the header of these bytes
  pub shown_next : header_shown scan.features.header ≡ header_in scan.features.bytes.now
  shown_next = stands.over.shown ∙ ap header_in (sym stands.over.bytes)

  -- it is refused
  pub refused_next : (broken : Broken) → scan.at < length scan.features.bytes.now → BreaksFeature scan.features.bytes.now scan.at broken.place broken.rule → Refuses image boxes broken entries
  refused_next broken early breaks =
      subst (Refuses image boxes broken) (sym stands.given)
      (in_scan (behind stands.passes (subst (λ b. scan.at < length b) stands.over.bytes early) (subst (λ b. BreaksFeature b scan.at broken.place broken.rule) stands.over.bytes breaks)))

  -- it was read
  module _ (buffer : List ℕ) (own : Bounds) (here : IsRead scan.features.bytes.now scan.at buffer own) where
    read : IsRead image scan.at buffer own
    read = subst (λ b. IsRead b scan.at buffer own) stands.over.bytes here

    size : length buffer ≡ size_at image scan.at
    size = ap length read.held ∙ length-slice image (scan.at + 4) (size_at image scan.at) read.framed.fits

    box_there : box_of (header_in image) (piece_at image scan.at) ≡ own
    box_there = ap (λ b. own_box (feature_of (header_in image) b)) (piece_buffer image scan.at read.framed) ∙ sym read.bounded

    module _ (new : Scan) (features : new.features ≡ scan.features) (boxes_stay : new.boxes ≡ scan.boxes) (next : new.at ≡ scan.at + 4 + length buffer)
        (counts : (begun : ℕ) (pieces : List (List ℕ)) (piece : List ℕ) → Walks image begun pieces scan.at → Counts image begun pieces scan.tally → Counts image begun (pieces ++ piece ∷ []) new.tally) where
      passed : (es : List Entry) → es ≡ found (header_in image) boxes (stands.pieces ++ piece_at image scan.at ∷ []) → Stands image boxes es new
      passed es given = record {
        over = subst (AreOf image None) (sym features) stands.over;
        sought = boxes_stay ∙ stands.sought;
        pieces = stands.pieces ++ piece_at image scan.at ∷ [];
        passes = subst (Passes image None (stands.pieces ++ piece_at image scan.at ∷ [])) (after _ _ _ size next) (passes_more image stands.passes read.framed read.clean tt);
        counts = counts (header_end image) stands.pieces (piece_at image scan.at) stands.passes.walks stands.counts;
        given = given;
      }
        where
          after : (a b c : ℕ) → a ≡ b → c ≡ scan.at + 4 + a → scan.at + (4 + b) ≡ c
          after a b c e f = omega arith

      -- its own box meets none of the boxes
      pub passed_miss : meets_any scan.boxes own ≡ false → Stands image boxes entries new
      passed_miss miss =
          passed entries (stands.given ∙ sym (found_miss (header_in image) boxes stands.pieces (piece_at image scan.at)
          (ap (meets_any boxes) box_there ∙ ap (λ (bs : List Bounds). meets_any bs own) (sym stands.sought) ∙ miss)))

      -- or meets it, and it is given
      pub passed_hit : meets_any scan.boxes own ≡ true → (number offset : ℕ) → number ≡ seen_of scan.tally → offset ≡ scan.at - scan.features.first
          → Stands image boxes (entries ++ record { number = number; offset = offset; buffer = buffer; own = own } ∷ []) new
      passed_hit meet number offset counted apart =
          let make : ℕ → ℕ → List ℕ → Bounds → Entry = λ n o b own. record { number = n; offset = o; buffer = b; own = own } in
          let p = piece_at image scan.at in
          let buffer_is : slice_range p 4 (length p) ≡ buffer = piece_buffer image scan.at read.framed ∙ sym read.held in
          let entry_is : next_entry (header_in image) stands.pieces p ≡ make number offset buffer own =
          ap (λ n. make n (length (concat stands.pieces)) (slice_range p 4 (length p)) (box_of (header_in image) p)) (sym (counted ∙ stands.counts.seen))
          ∙ ap (λ o. make number o (slice_range p 4 (length p)) (box_of (header_in image) p)) (far _ _ _ _ (passes_offset image stands.passes) stands.over.begins apart)
          ∙ ap (λ b. make number offset b (box_of (header_in image) p)) buffer_is
          ∙ ap (make number offset buffer) box_there in
          passed (entries ++ make number offset buffer own ∷ [])
          (ap (λ (es : List Entry). es ++ make number offset buffer own ∷ []) stands.given
          ∙ ap (λ (e : Entry). found (header_in image) boxes stands.pieces ++ e ∷ []) (sym entry_is)
          ∙ sym (found_hit (header_in image) boxes stands.pieces p (ap (meets_any boxes) box_there ∙ ap (λ (bs : List Bounds). meets_any bs own) (sym stands.sought) ∙ meet)))
        where
          far : (place many first off : ℕ) → place + many ≡ scan.at → first ≡ place → off ≡ scan.at - first → many ≡ off
          far place many first off e f g = omega arith

  -- at the end
  module _ (ends : length scan.features.bytes.now ≤ scan.at) where
    ends_there : length image ≤ scan.at
    ends_there = subst (λ b. length b ≤ scan.at) stands.over.bytes ends

    -- their number is wrong
    pub refused_count : (broken : Broken) → BreaksCount image (header_end image) stands.pieces broken.place broken.rule → Refuses image boxes broken entries
    refused_count broken breaks = subst (Refuses image boxes broken) (sym stands.given) (in_scan (at_end (passes_end image stands.passes ends_there) breaks))

    -- or right
    pub answers_all : Agrees (told_count image) (length stands.pieces) → Answers image boxes entries
    answers_all agrees = subst (Answers image boxes) (sym stands.given) (scanned (whole (passes_file image stands.passes ends_there agrees)))
