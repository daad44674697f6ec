-- What is read, handed over and refused where a leaf says.
use Rattle.std.proofs.Common.{◌≡◌, ℕ, ◌+◌, ◌*◌, ◌≤◌, ◌<◌, List, [], ◌∷◌, length, slice_range, false, refl, sym, ap, subst, ◌∙◌, arith}
use Rattle.flat_layout.specs.declared.Broken.{Broken}
use Rattle.flat_layout.specs.declared.Rule.{Rule}
use Rattle.flat_layout.specs.declared.Rule.TheVariants.{LeafPastEnd, LeafOrder}
use Rattle.flat_layout.specs.Promises.{IsClean}
use Rattle.order_keys.specs.Boxes.{same as same_box}
use Rattle.level_bounds.specs.Levels.{Shape}
use Rattle.fgb_outside.specs.Source.{Source, IfTold}
use Rattle.section_window.specs.Window.{Held, Shows}
use Rattle.section_window.proofs.Showing.{shows_part}
use Rattle.fgb_schema.specs.Headers.{Header}
use Rattle.fgb_schema.specs.Paths.{feature_root}
use Rattle.fgb_schema.specs.Weights.{BreaksBuffer}
use Rattle.fgb_header.specs.Views.{header_shown}
use Rattle.fgb_file.specs.File.{header_in, node_in, leaf_target, size_at, buffer_at, IsFramed, BreaksPrefix, BreaksFeature, in_prefix, in_buffer as breaks_buffer, other_box}
use Rattle.tree_search.specs.declared.search.Hit.{Hit}
use Rattle.tree_search.specs.Searches.{hit_of}
use Rattle.found_features.specs.Entries.{Entry}
use Rattle.hit_reader.specs.declared.section.Section.{Section}
use Rattle.hit_reader.specs.Met.{BreaksHit, leaf_past_end, leaf_order, in_feature, unlike, leaf_place}
use Rattle.hit_reader.specs.Handing.{IsAlike, RefusesRead, in_buffer, in_box, entry_read}
use Rattle.hit_reader.specs.Going.{IsSection, IsBehind, at_first, at_end, Hands}

-- the buffer of the feature at a place, which lies in the window behind its size prefix
pub buffer_is : (w : Held) (s s' : Source) (bytes : List ℕ) (target len : ℕ) → w.at ≡ target → bytes ≡ w.bytes → 4 ≤ len → len ≤ length w.bytes → s'.image ≡ s.image → Shows w s'
    → IfTold s (λ image. len ≡ 4 + size_at image target → slice_range bytes 4 len ≡ buffer_at image target)
buffer_is w s s' bytes target len here held some enough same shows image told size =
    let ends : w.at + len ≡ target + 4 + size_at image target = omega arith in
    ap (λ xs. slice_range xs 4 len) held
    ∙ shows_part w s' 4 len some enough shows image (same ∙ told)
    ∙ ap (slice_range image (w.at + 4)) ends
    ∙ ap (λ n. slice_range image (n + 4) (target + 4 + size_at image target)) here

module _ (image : List ℕ) (t : Shape) (section : Section) (hit : Hit) (k : ℕ) (within : IsSection image t section) (is : hit ≡ hit_of t (node_in image) 0 k) where
  pub number_is : hit.number ≡ k
  number_is = ap (λ (h : Hit). h.number) is

  pub target_is : section.first + hit.item.offset ≡ leaf_target image t k
  target_is = omega (arith, within.first, ap (λ (h : Hit). h.item.offset) is)

  pub place_is : section.leaves + 40 * hit.number ≡ leaf_place image t k
  place_is = omega (arith, within.leaves, number_is)

  module _ (broken : Broken) where
    at_leaf : {r : Rule} → broken ≡ record { place = section.leaves + 40 * hit.number; rule = r } → BreaksHit image t k (leaf_place image t k) r → BreaksHit image t k broken.place broken.rule
    at_leaf {r = r} same breaks = subst (λ (e : Broken). BreaksHit image t k e.place e.rule) (sym same) (subst (λ q. BreaksHit image t k q r) (sym place_is) breaks)

    pub breaks_past : section.end < section.first + hit.item.offset + 4 → broken ≡ record { place = section.leaves + 40 * hit.number; rule = LeafPastEnd } → BreaksHit image t k broken.place broken.rule
    breaks_past past same = at_leaf same (leaf_past_end (omega (arith, past, within.end, target_is)))

    order : (at : ℕ) → IsBehind image t k at → section.first + hit.item.offset < at → BreaksHit image t k (leaf_place image t k) LeafOrder
    order at (at_first begins) before = absurd (omega (arith, begins, before, within.first))
    order at (at_end j earlier fits ends) before = leaf_order j earlier fits (omega (arith, ends, before, target_is))

    pub breaks_order : (at : ℕ) → IsBehind image t k at → section.first + hit.item.offset < at → broken ≡ record { place = section.leaves + 40 * hit.number; rule = LeafOrder } → BreaksHit image t k broken.place broken.rule
    breaks_order at behind before same = at_leaf same (order at behind before)

    feature : (target : ℕ) → leaf_target image t k ≡ target → BreaksFeature image target broken.place broken.rule → BreaksHit image t k broken.place broken.rule
    feature target there breaks = in_feature (subst (λ n. BreaksFeature image n broken.place broken.rule) (sym there) breaks)

    pub breaks_prefix : (at : ℕ) → at ≡ section.first + hit.item.offset → (broken.place ≡ at) × BreaksPrefix image at broken.rule → BreaksHit image t k broken.place broken.rule
    breaks_prefix at there breaks = feature at (sym (there ∙ target_is)) (subst (λ q. BreaksFeature image at q broken.rule) (sym breaks.0) (in_prefix breaks.1))

  -- what is said of what was read, said of what stands where the leaf says
  module _ (buffer : List ℕ) (held : buffer ≡ buffer_at image (section.first + hit.item.offset)) where
    pub read_there : (P : Header → Hit → List ℕ → Type 0) → P (header_shown section.header.now) hit buffer → P (header_in image) (hit_of t (node_in image) 0 k) (buffer_at image (leaf_target image t k))
    read_there P p =
        subst (λ b. P (header_in image) (hit_of t (node_in image) 0 k) b) (held ∙ ap (buffer_at image) target_is)
        (subst (λ h. P (header_in image) h buffer) is (subst (λ h. P h hit buffer) within.shown p))

    pub hands_one : {V : Type 0} (step : V → Entry → V → Type 0) (v v' : V) (at : ℕ) → IsFramed image (section.first + hit.item.offset) → at ≡ section.first + hit.item.offset + 4 + size_at image (section.first + hit.item.offset)
        → IsAlike (header_shown section.header.now) hit buffer → step v (entry_read (header_shown section.header.now) hit buffer) v' → Hands step image t (k ∷ []) (k + 1) v v' at
    hands_one step v v' at framed ends alike stepped =
        let there = read_there IsAlike alike in
        let framed_there = subst (IsFramed image) target_is framed in
        record {
          takes = (v', read_there (λ h leaf b. step v (entry_read h leaf b) v') stepped, refl);
          met = (record { framed = framed_there; clean = there.clean; same = there.same }, tt);
          behind = at_end k (omega arith) (omega (arith, framed_there.fits)) (omega (arith, ends, target_is, ap (size_at image) target_is));
        }

    module _ (broken : Broken) (framed : IsFramed image (section.first + hit.item.offset)) where
      framed_there : IsFramed image (leaf_target image t k)
      framed_there = subst (IsFramed image) target_is framed

      pub breaks_read : (base : ℕ) → base ≡ section.first + hit.item.offset + 4 → RefusesRead (header_shown section.header.now) hit buffer base section.leaves broken → BreaksHit image t k broken.place broken.rule
      breaks_read base begins (in_buffer named) =
          let there = read_there (λ h leaf b. BreaksBuffer b (feature_root h) named.0 broken.rule) named.2 in
          let place : broken.place ≡ leaf_target image t k + 4 + named.0 = omega (arith, named.1, begins, target_is) in
          subst (λ q. BreaksHit image t k q broken.rule) (sym place) (in_feature (breaks_buffer framed_there there))
      breaks_read base begins (in_box clean other same) =
          let clean_there = read_there (λ h leaf b. IsClean (BreaksBuffer b (feature_root h))) clean in
          let other_there = read_there (λ h leaf b. same_box leaf.item.bounds (entry_read h leaf b).own ≡ false) other in
          at_leaf broken same (unlike (leaf_target image t k) (other_box framed_there clean_there other_there))
