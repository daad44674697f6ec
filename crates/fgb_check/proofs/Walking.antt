-- How going through the features begins, goes on and ends: what stands then, and what a refusal breaks.
use Rattle.std.proofs.Common.{◌≡◌, ℕ, ◌+◌, ◌-◌, ◌*◌, ◌≤◌, ◌<◌, false, List, [], ◌∷◌, ◌++◌, length, Result, Ok, Err, MatchResult, Option, Some, refl, sym, ap, subst, ◌∙◌, arith}
use Rattle.std.specs.List.{concat}
use Rattle.flat_layout.specs.declared.Broken.{Broken}
use Rattle.flat_layout.specs.declared.Rule.{Rule}
use Rattle.flat_layout.specs.Promises.{IsClean, Names}
use Rattle.order_keys.specs.declared.bounds.Bounds.{Bounds}
use Rattle.order_keys.specs.Boxes.{same as same_box}
use Rattle.level_bounds.specs.Levels.{Shape, place}
use Rattle.node_items.specs.Nodes.{node_place}
use Rattle.fgb_schema.specs.Paths.{feature_root}
use Rattle.fgb_schema.specs.Weights.{BreaksBuffer}
use Rattle.fgb_schema.specs.Headers.{Header}
use Rattle.fgb_schema.specs.Features.{feature_of, own_box}
use Rattle.fgb_file.specs.File.{header_end, header_in, told_count, size_at, buffer_at, first_place, leaf_in, leaf_target, LeafAgrees, BreaksLeaf, other_offset, other_box, IsFramed, Walks, Agrees, BreaksPrefix, BreaksFeature, in_prefix, in_buffer, BreaksCount, BreaksFirst, Passes}
use Rattle.fgb_file.proofs.Walk.{piece_at}
use Rattle.fgb_file.proofs.Passing.{passes_none, passes_more, passes_end, passes_file, passes_offset, passes_counted, first_feature, first_leaf, first_end}
use Rattle.fgb_reader.specs.Tallies.{Counts, seen_of}
use Rattle.fgb_reader.specs.declared.tally.Tally.{Tally}
use Rattle.fgb_check.specs.Leaves.{Differs, in_offset, in_box, RefusesLeaf}
use Rattle.fgb_check.specs.Verdicts.{IsFileWith}
use Rattle.fgb_check.specs.Walks.{IsOpened, Stands, IsSound, box_at}

-- what is said of a leaf by equal numbers and boxes
pub beside : (P : ℕ → ℕ → Bounds → Type 0) {k k' offset offset' : ℕ} {own own' : Bounds} → k ≡ k' → offset ≡ offset' → own ≡ own' → P k offset own → P k' offset' own'
beside P {k' = k'} {offset = offset} {offset' = offset'} {own = own} number place box is =
    subst (P k' offset') box (subst (λ n. P k' n own) place (subst (λ n. P n offset own) number is))

module _ (image : List ℕ) where
  -- ## At a place

  module _ {index : Option Shape} where
    -- no feature is passed yet
    pub stands_none : {header : Header} {first at : ℕ} {tally : Tally} → IsOpened image index header first → at ≡ first → Counts image (first_place image index) [] tally → Stands image index at tally
    stands_none opened begins counts = record {
      pieces = [];
      passes = subst (λ n. Passes image index [] n) (sym (begins ∙ opened.begins)) (passes_none image index opened.opened opened.nodes);
      counts = counts;
    }

    -- the features passed so far lie between the first place and this one
    pub stands_offset : {at : ℕ} {tally : Tally} → (stands : Stands image index at tally) → first_place image index + length (concat stands.pieces) ≡ at
    stands_offset stands = passes_offset image stands.passes

    -- one more
    pub stands_next : {at next : ℕ} {tally tally' : Tally} → Stands image index at tally → IsSound image at next
        → LeafAgrees image index (seen_of tally) (at - first_place image index) (box_at image at)
        → ((pieces : List (List ℕ)) (piece : List ℕ) → Walks image (first_place image index) pieces at → Counts image (first_place image index) pieces tally
        → Counts image (first_place image index) (pieces ++ piece ∷ []) tally') → Stands image index next tally'
    stands_next {at = at} {tally = tally} stands sound leaf counted =
        let more = stands.pieces ++ piece_at image at ∷ [] in
        let offset : at - first_place image index ≡ length (concat stands.pieces) = omega (arith, stands_offset stands) in
        let agrees : LeafAgrees image index (length stands.pieces) (length (concat stands.pieces)) (box_at image at) =
        subst (λ k. LeafAgrees image index k (length (concat stands.pieces)) (box_at image at)) stands.counts.seen
        (subst (λ n. LeafAgrees image index (seen_of tally) n (box_at image at)) offset leaf) in
        record {
          pieces = more;
          passes = subst (λ n. Passes image index more n) (sym sound.behind) (passes_more image stands.passes sound.framed sound.clean agrees);
          counts = counted stands.pieces (piece_at image at) stands.passes.walks stands.counts;
        }

    -- so many were counted that they fit
    pub stands_few : {at : ℕ} {tally : Tally} → Stands image index at tally → 4 * seen_of tally ≤ at
    stands_few stands = omega (arith, passes_counted image stands.passes, stands.counts.seen)

    -- the place is not in front of the first one
    pub stands_behind : {at : ℕ} {tally : Tally} → Stands image index at tally → first_place image index ≤ at
    stands_behind stands = stands.passes.walks.above

    -- ## What is refused

    -- the feature at the place
    pub stands_refused : {at : ℕ} {tally : Tally} {e : Broken} → Stands image index at tally → at < length image → BreaksFeature image at e.place e.rule → BreaksFirst image e
    stands_refused stands early broken = first_feature image stands.passes early broken

    -- at the end their number is judged
    pub stands_judged : {at : ℕ} {tally : Tally} (r : Result ℕ Broken) → Stands image index at tally → length image ≤ at
        → ((pieces : List (List ℕ)) → Counts image (first_place image index) pieces tally
        → MatchResult r (λ count. Agrees (told_count image) (length pieces) × (count ≡ length pieces)) (λ broken. BreaksCount image (first_place image index) pieces broken.place broken.rule))
        → MatchResult r (IsFileWith image index) (BreaksFirst image)
    stands_judged (Ok count) stands end judged =
        let agrees = judged stands.pieces stands.counts in
        record { pieces = stands.pieces; file = passes_file image stands.passes end agrees.0; counted = agrees.1 }
    stands_judged (Err e) stands end judged = first_end image (passes_end image stands.passes end) (judged stands.pieces stands.counts)

  -- the leaf of a feature that breaks no rule by itself says another place, or has another box
  module _ (t : Shape) (k at : ℕ) (framed : IsFramed image at) (clean : IsClean (BreaksBuffer (buffer_at image at) (feature_root (header_in image)))) (behind : first_place image (Some t) ≤ at) where
    breaks_leaf : {r : Rule} → Differs (leaf_in image t k) (at - first_place image (Some t)) (box_at image at) r → BreaksLeaf image t k at (node_place (header_end image) (place t 0 k)) r
    breaks_leaf (in_offset other) = other_offset (λ here. other (omega (arith, here, behind)))
    breaks_leaf (in_box same other) =
        let here : at ≡ leaf_target image t k = omega (arith, same, behind) in
        other_box (subst (IsFramed image) here framed)
        (subst (λ n. IsClean (BreaksBuffer (buffer_at image n) (feature_root (header_in image)))) here clean)
        (subst (λ n. same_box (leaf_in image t k).bounds (box_at image n) ≡ false) here other)

  leaf_refused : (t : Shape) {at next : ℕ} {tally : Tally} (e : Broken) → Stands image (Some t) at tally → IsSound image at next → seen_of tally < t.leaves
      → e.place ≡ node_place (header_end image) (place t 0 (seen_of tally)) → Differs (leaf_in image t (seen_of tally)) (at - first_place image (Some t)) (box_at image at) e.rule → BreaksFirst image e
  leaf_refused t {at = at} {tally = tally} e stands sound some stands_at differs =
      let broken : BreaksLeaf image t (seen_of tally) at e.place e.rule =
      subst (λ q. BreaksLeaf image t (seen_of tally) at q e.rule) (sym stands_at) (breaks_leaf t (seen_of tally) at sound.framed sound.clean (stands_behind stands) differs) in
      first_leaf image stands.passes (omega (arith, sound.framed.fits)) (omega (arith, some, stands.counts.seen)) (subst (λ k. BreaksLeaf image t k at e.place e.rule) stands.counts.seen broken)

  pub stands_leaf : {index : Option Shape} {at next : ℕ} {tally : Tally} {e : Broken} → Stands image index at tally → IsSound image at next
      → RefusesLeaf image index (seen_of tally) (at - first_place image index) (box_at image at) e → BreaksFirst image e
  stands_leaf {at = at} {tally = tally} {e = e} stands sound refuses =
      leaf_refused refuses.tree e (subst (λ i. Stands image i at tally) refuses.indexed stands) sound refuses.some refuses.at
      (subst (λ i. Differs (leaf_in image refuses.tree (seen_of tally)) (at - first_place image i) (box_at image at) e.rule) refuses.indexed refuses.differs)

  -- ## One feature

  -- by its size prefix
  pub breaks_prefix : {at : ℕ} {e : Broken} → e.place ≡ at → BreaksPrefix image at e.rule → BreaksFeature image at e.place e.rule
  breaks_prefix {at = at} {e = e} same broken = subst (λ q. BreaksFeature image at q e.rule) (sym same) (in_prefix broken)

  -- by its buffer, as it was read under the header
  module _ (header : Header) (shown : header ≡ header_in image) (at : ℕ) (framed : IsFramed image at) (buffer : List ℕ) (held : buffer ≡ buffer_at image at) where
    pub breaks_buffer : {base : ℕ} {e : Broken} → base ≡ at + 4 → Names base (BreaksBuffer buffer (feature_root header)) e → BreaksFeature image at e.place e.rule
    breaks_buffer {e = e} place named =
        let broken : BreaksBuffer (buffer_at image at) (feature_root (header_in image)) named.0 e.rule =
        subst (λ h. BreaksBuffer (buffer_at image at) (feature_root h) named.0 e.rule) shown (subst (λ b. BreaksBuffer b (feature_root header) named.0 e.rule) held named.2) in
        let at_e : at + 4 + named.0 ≡ e.place = omega (arith, named.1, place) in
        subst (λ q. BreaksFeature image at q e.rule) at_e (in_buffer framed broken)

    pub sound_buffer : {next : ℕ} → next ≡ at + (4 + size_at image at) → IsClean (BreaksBuffer buffer (feature_root header)) → IsSound image at next
    sound_buffer behind clean = record {
      framed = framed;
      clean = subst (λ h. IsClean (BreaksBuffer (buffer_at image at) (feature_root h))) shown (subst (λ b. IsClean (BreaksBuffer b (feature_root header))) held clean);
      behind = behind;
    }

    pub shown_box : {own : Bounds} → own ≡ own_box (feature_of header buffer) → own ≡ box_at image at
    shown_box same = same ∙ ap (λ h. own_box (feature_of h buffer)) shown ∙ ap (λ b. own_box (feature_of (header_in image) b)) held
