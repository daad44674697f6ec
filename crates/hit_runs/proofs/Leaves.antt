-- What is read, lent and refused where a leaf says.
use Rattle.std.proofs.Common.{◌≡◌, ◌⊎◌, ℕ, ◌+◌, ◌*◌, ◌≤◌, ◌<◌, List, length, slice_range, false, inl, inr, sym, ap, subst, ◌∙◌, arith}
use Rattle.flat_layout.specs.declared.Broken.{Broken}
use Rattle.flat_layout.specs.declared.Rule.{Rule}
use Rattle.flat_layout.specs.declared.Rule.TheVariants.{LeafPastEnd, LeafOrder}
use Rattle.flat_layout.specs.Promises.{IsClean}
use Rattle.order_keys.specs.declared.bounds.Bounds.{Bounds}
use Rattle.order_keys.specs.Boxes.{same as same_box}
use Rattle.level_bounds.specs.Levels.{Shape}
use Rattle.node_items.specs.declared.item.NodeItem.{NodeItem}
use Rattle.fgb_outside.specs.Source.{Source, IfTold}
use Rattle.section_window.specs.Window.{Held, Shows}
use Rattle.section_window.proofs.Showing.{shows_part}
use Rattle.fgb_schema.specs.Headers.{Header}
use Rattle.fgb_schema.specs.Paths.{feature_root}
use Rattle.fgb_schema.specs.Weights.{BreaksBuffer}
use Rattle.fgb_schema.specs.Features.{feature_of, own_box}
use Rattle.fgb_header.specs.Views.{header_shown}
use Rattle.fgb_file.specs.File.{header_in, leaf_in, leaf_target, size_at, buffer_at, IsFramed, BreaksPrefix, BreaksFeature, in_prefix, in_buffer as breaks_buffer, other_box}
use Rattle.found_features.specs.Entries.{Entry}
use Rattle.hit_reader.specs.declared.section.Section.{Section}
use Rattle.hit_reader.specs.Met.{BreaksHit, IsMet, entry_at, leaf_past_end, leaf_order, in_feature, unlike, leaf_place}
use Rattle.hit_reader.specs.Going.{IsSection, IsBehind, at_first, at_end}
use Rattle.box_search.specs.declared.nodes.Hit.{Hit}
use Rattle.hit_runs.specs.Leaves.{IsLeaf, IsAlike, RefusesRead, in_buffer, in_box, IsDue, behind, reached}

-- the buffer of the feature at a place, which lies in the window behind its size prefix
pub buffer_is : (w : Held) (s s' : Source) (bytes : List ℕ) (target len : ℕ) → w.at ≡ target → bytes ≡ w.bytes → 4 ≤ len → len ≤ length w.bytes → s'.image ≡ s.image → Shows w s'
    → IfTold s (λ image. len ≡ 4 + size_at image target → slice_range bytes 4 len ≡ buffer_at image target)
buffer_is w s s' bytes target len here held some enough same shows image told size =
    let ends : w.at + len ≡ target + 4 + size_at image target = omega (arith, here, size) in
    ap (λ xs. slice_range xs 4 len) held
    ∙ shows_part w s' 4 len some enough shows image (same ∙ told)
    ∙ ap (slice_range image (w.at + 4)) ends
    ∙ ap (λ n. slice_range image (n + 4) (target + 4 + size_at image target)) here

abbrev entry : ℕ → ℕ → List ℕ → Bounds → Entry
entry n o b own = record { number = n; offset = o; buffer = b; own = own }

entry_same : (n n' o o' : ℕ) (b b' : List ℕ) (own own' : Bounds) → n ≡ n' → o ≡ o' → b ≡ b' → own ≡ own'
    → entry n o b own ≡ entry n' o' b' own'
entry_same n n' o o' b b' own own' p q r s =
    ap (λ k. entry k o b own) p ∙ ap (λ k. entry n' k b own) q ∙ ap (λ l. entry n' o' l own) r ∙ ap (λ x. entry n' o' b' x) s

module _ (image : List ℕ) (t : Shape) (section : Section) (hit : Hit) (k : ℕ) (within : IsSection image t section) (is : IsLeaf image t hit k) where
  pub target_is : section.first + hit.item.offset ≡ leaf_target image t k
  target_is = omega (arith, within.first, ap (λ (n : NodeItem). n.offset) is.item)

  pub place_is : section.leaves + 40 * hit.number ≡ leaf_place image t k
  place_is = omega (arith, within.leaves, is.number)

  -- the feature was reached, and not read
  pub due_there : (at : ℕ) → at ≡ section.first + hit.item.offset → IsDue image t k at
  due_there at there = reached (there ∙ target_is)

  module _ (broken : Broken) where
    at_leaf : {r : Rule} → broken ≡ record { place = section.leaves + 40 * hit.number; rule = r } → BreaksHit image t k (leaf_place image t k) r → BreaksHit image t k broken.place broken.rule
    at_leaf {r = r} same breaks = subst (λ (e : Broken). BreaksHit image t k e.place e.rule) (sym same) (subst (λ q. BreaksHit image t k q r) (sym place_is) breaks)

    order : (at : ℕ) → IsDue image t k at → section.first + hit.item.offset < at → BreaksHit image t k (leaf_place image t k) LeafOrder
    order at (behind (at_first begins)) before = absurd (omega (arith, begins, before, within.first))
    order at (behind (at_end j earlier fits ends)) before = leaf_order j earlier fits (omega (arith, ends, before, target_is))
    order at (reached there) before = absurd (omega (arith, there, before, target_is))

    pub breaks_place : (at : ℕ) → IsDue image t k at
        → ((section.end < section.first + hit.item.offset + 4) × (broken ≡ record { place = section.leaves + 40 * hit.number; rule = LeafPastEnd })) ⊎ ((section.first + hit.item.offset < at) × (broken ≡ record { place = section.leaves + 40 * hit.number; rule = LeafOrder }))
        → BreaksHit image t k broken.place broken.rule
    breaks_place at due (inl past) = at_leaf past.1 (leaf_past_end (omega (arith, past.0, within.end, target_is)))
    breaks_place at due (inr early) = at_leaf early.1 (order at due early.0)

    pub breaks_prefix : (at : ℕ) → at ≡ section.first + hit.item.offset → (broken.place ≡ at) × BreaksPrefix image at broken.rule → BreaksHit image t k broken.place broken.rule
    breaks_prefix at there breaks =
        in_feature (subst (λ n. BreaksFeature image n broken.place broken.rule) (there ∙ target_is) (subst (λ q. BreaksFeature image at q broken.rule) (sym breaks.0) (in_prefix breaks.1)))

  -- what was read is what stands where the leaf says
  module _ (buffer : List ℕ) (held : buffer ≡ buffer_at image (section.first + hit.item.offset)) (framed : IsFramed image (section.first + hit.item.offset)) where
    buffer_there : buffer ≡ buffer_at image (leaf_target image t k)
    buffer_there = held ∙ ap (buffer_at image) target_is

    framed_there : IsFramed image (leaf_target image t k)
    framed_there = subst (IsFramed image) target_is framed

    -- under the header of the file
    there : (P : Header → List ℕ → Type 0) → P (header_shown section.header.now) buffer → P (header_in image) (buffer_at image (leaf_target image t k))
    there P p = subst (λ b. P (header_in image) b) buffer_there (subst (λ h. P h buffer) within.shown p)

    box_there : own_box (feature_of (header_shown section.header.now) buffer) ≡ own_box (feature_of (header_in image) (buffer_at image (leaf_target image t k)))
    box_there = ap (λ h. own_box (feature_of h buffer)) within.shown ∙ ap (λ b. own_box (feature_of (header_in image) b)) buffer_there

    leaf_box : hit.item.bounds ≡ (leaf_in image t k).bounds
    leaf_box = ap (λ (n : NodeItem). n.bounds) is.item

    pub lends_there : (own : Bounds) → IsAlike (header_shown section.header.now) hit buffer own
        → (record { number = hit.number; offset = hit.item.offset; buffer = buffer; own = own } ≡ entry_at image t k) × IsMet image t k
    lends_there own alike =
        let box = alike.box ∙ box_there in (
          entry_same hit.number k hit.item.offset (leaf_in image t k).offset buffer (buffer_at image (leaf_target image t k)) own _ is.number (ap (λ (n : NodeItem). n.offset) is.item) buffer_there box,
          record {
            framed = framed_there;
            clean = there (λ h b. IsClean (BreaksBuffer b (feature_root h))) alike.clean;
            same = ap (λ b. same_box (leaf_in image t k).bounds b) (sym box) ∙ ap (λ b. same_box b own) (sym leaf_box) ∙ alike.same;
          },
        )

    pub behind_there : (at : ℕ) → at ≡ section.first + hit.item.offset + 4 + size_at image (section.first + hit.item.offset) → IsBehind image t (k + 1) at
    behind_there at ends = at_end k (omega arith) (omega (arith, framed_there.fits)) (omega (arith, ends, target_is, ap (size_at image) target_is))

    pub breaks_read : (broken : Broken) (base : ℕ) → base ≡ section.first + hit.item.offset + 4 → RefusesRead (header_shown section.header.now) hit buffer base section.leaves broken → BreaksHit image t k broken.place broken.rule
    breaks_read broken base begins (in_buffer named) =
        let breaks = there (λ h b. BreaksBuffer b (feature_root h) named.0 broken.rule) named.2 in
        let place : broken.place ≡ leaf_target image t k + 4 + named.0 = omega (arith, named.1, begins, target_is) in
        subst (λ q. BreaksHit image t k q broken.rule) (sym place) (in_feature (breaks_buffer framed_there breaks))
    breaks_read broken base begins (in_box clean other same) =
        let clean_there = there (λ h b. IsClean (BreaksBuffer b (feature_root h))) clean in
        let other_there : same_box (leaf_in image t k).bounds (own_box (feature_of (header_in image) (buffer_at image (leaf_target image t k)))) ≡ false =
        ap (λ b. same_box (leaf_in image t k).bounds b) (sym box_there) ∙ ap (λ b. same_box b (own_box (feature_of (header_shown section.header.now) buffer))) (sym leaf_box) ∙ other in
        at_leaf broken same (unlike (leaf_target image t k) (other_box framed_there clean_there other_there))
