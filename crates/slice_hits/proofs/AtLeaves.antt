-- A leaf that is found, and the feature that stands where it says.
use Rattle.std.proofs.Common.{◌≡◌, ℕ, ◌+◌, ◌<◌, List, length, Bool, false, true, sym, ap, subst, ◌∙◌, arith}
use Rattle.flat_layout.specs.declared.Broken.{Broken}
use Rattle.flat_layout.specs.declared.Rule.{Rule}
use Rattle.flat_layout.specs.declared.Rule.TheVariants.{LeafPastEnd, LeafOrder, LeafBox}
use Rattle.order_keys.specs.declared.bounds.Bounds.{Bounds}
use Rattle.order_keys.specs.Boxes.{same as same_box}
use Rattle.level_bounds.specs.Levels.{place}
use Rattle.node_items.specs.Nodes.{node_place}
use Rattle.fgb_file.proofs.Bytes.{length-slice}
use Rattle.fgb_header.specs.Views.{header_shown}
use Rattle.fgb_file.specs.File.{header_end, header_in, node_in, leaf_in, leaf_target, size_at, buffer_at, BreaksFeature, other_box}
use Rattle.tree_search.specs.declared.search.Hit.{Hit}
use Rattle.tree_search.specs.Searches.{hit_of}
use Rattle.found_features.specs.Entries.{Entry}
use Rattle.found_features.specs.Lent.{entry_of}
use Rattle.found_features.specs.declared.visitor.Found.{Found}
use Rattle.hit_reader.specs.Going.{IsBehind, at_first, at_end}
use Rattle.hit_reader.specs.Met.{BreaksHit, leaf_past_end, leaf_order, in_feature, unlike, leaf_place, IsMet, entry_at}
use Rattle.slice_hits.specs.declared.search.Search.{Search}
use Rattle.slice_hits.specs.Reading.{IsRead}
use Rattle.slice_hits.specs.Searching.{IsOver, tree_of}

-- the feature is read under the header of these bytes
pub shown_here : (image : List ℕ) (boxes : List Bounds) (search : Search) → IsOver image boxes search → header_shown search.features.header ≡ header_in search.features.bytes.now
shown_here image boxes search over = over.over.shown ∙ ap header_in (sym over.over.bytes)

module _ (image : List ℕ) (boxes : List Bounds) (search : Search) (over : IsOver image boxes search) (leaf : Hit) (k : ℕ) (is : leaf ≡ hit_of (tree_of search) (node_in image) 0 k) where
  number_is : leaf.number ≡ k
  number_is = ap (λ (h : Hit). h.number) is

  offset_is : leaf.item.offset ≡ (leaf_in image (tree_of search) k).offset
  offset_is = ap (λ (h : Hit). h.item.offset) is

  target_is : search.features.first + leaf.item.offset ≡ leaf_target image (tree_of search) k
  target_is = added _ _ _ _ over.over.begins offset_is
    where
      added : (a b c d : ℕ) → a ≡ b → c ≡ d → a + c ≡ b + d
      added a b c d e f = omega arith

  place_is : node_place search.place (place (tree_of search) 0 leaf.number) ≡ leaf_place image (tree_of search) k
  place_is = ap (λ n. node_place n (place (tree_of search) 0 leaf.number)) over.begins ∙ ap (λ n. node_place (header_end image) (place (tree_of search) 0 n)) number_is

  module _ (broken : Broken) where
    at_leaf : {r : Rule} → broken ≡ record { place = node_place search.place (place (tree_of search) 0 leaf.number); rule = r } → BreaksHit image (tree_of search) k (leaf_place image (tree_of search) k) r
        → BreaksHit image (tree_of search) k broken.place broken.rule
    at_leaf {r = r} same breaks =
        subst (λ (e : Broken). BreaksHit image (tree_of search) k e.place e.rule) (sym same) (subst (λ q. BreaksHit image (tree_of search) k q r) (sym place_is) breaks)

    pub breaks_past : length search.features.bytes.now < search.features.first + leaf.item.offset + 4 → broken ≡ record { place = node_place search.place (place (tree_of search) 0 leaf.number); rule = LeafPastEnd }
        → BreaksHit image (tree_of search) k broken.place broken.rule
    breaks_past past same = at_leaf same (leaf_past_end (far _ _ _ _ past (ap length over.over.bytes) target_is))
      where
        far : (n m a b : ℕ) → n < a + 4 → n ≡ m → a ≡ b → m < b + 4
        far n m a b past e f = omega arith

    pub breaks_order : IsBehind image (tree_of search) k search.reached → search.features.first + leaf.item.offset < search.reached
        → broken ≡ record { place = node_place search.place (place (tree_of search) 0 leaf.number); rule = LeafOrder } → BreaksHit image (tree_of search) k broken.place broken.rule
    breaks_order (at_first begins) before same = absurd (early _ _ _ _ begins before over.over.begins)
      where
        early : (at first o f : ℕ) → at ≡ first → f + o < at → f ≡ first → ⊥
        early at first o f begins before e = omega arith
    breaks_order (at_end j earlier fits ends) before same = at_leaf same (leaf_order j earlier fits (late _ _ _ _ ends before target_is))
      where
        late : (at e a b : ℕ) → at ≡ e → a < at → a ≡ b → b < e
        late at e a b ends before f = omega arith

  module _ (target : ℕ) (there : target ≡ search.features.first + leaf.item.offset) where
    -- what is said of the feature there
    of_target : (P : List ℕ → ℕ → Type 0) → P search.features.bytes.now target → P image (leaf_target image (tree_of search) k)
    of_target P holds = subst (P image) (there ∙ target_is) (subst (λ b. P b target) over.over.bytes holds)

    pub breaks_feature : (broken : Broken) → BreaksFeature search.features.bytes.now target broken.place broken.rule → BreaksHit image (tree_of search) k broken.place broken.rule
    breaks_feature broken breaks = in_feature (of_target (λ b at. BreaksFeature b at broken.place broken.rule) breaks)

    module _ (buffer : List ℕ) (own : Bounds) (read : IsRead search.features.bytes.now target buffer own) where
      read_there : IsRead image (leaf_target image (tree_of search) k) buffer own
      read_there = of_target (λ b at. IsRead b at buffer own) read

      box_is : leaf.item.bounds ≡ (leaf_in image (tree_of search) k).bounds
      box_is = ap (λ (h : Hit). h.item.bounds) is

      alike : (b : Bool) → same_box leaf.item.bounds own ≡ b → same_box (leaf_in image (tree_of search) k).bounds (entry_at image (tree_of search) k).own ≡ b
      alike b same = ap (λ o. same_box (leaf_in image (tree_of search) k).bounds o) (sym read_there.bounded) ∙ ap (λ o. same_box o own) (sym box_is) ∙ same

      pub breaks_box : (broken : Broken) → same_box leaf.item.bounds own ≡ false → broken ≡ record { place = node_place search.place (place (tree_of search) 0 leaf.number); rule = LeafBox }
          → BreaksHit image (tree_of search) k broken.place broken.rule
      breaks_box broken other same =
          at_leaf broken same (unlike (leaf_target image (tree_of search) k) (other_box read_there.framed read_there.clean (alike false other)))

      pub is_met : same_box leaf.item.bounds own ≡ true → IsMet image (tree_of search) k
      is_met same = record { framed = read_there.framed; clean = read_there.clean; same = alike true same }

      pub entry_is : ◌≡◌ {A = Entry} (record { number = leaf.number; offset = leaf.item.offset; buffer = buffer; own = own }) (entry_at image (tree_of search) k)
      entry_is =
          let make : ℕ → ℕ → List ℕ → Bounds → Entry = λ n o b own. record { number = n; offset = o; buffer = b; own = own } in
          ap (λ n. make n leaf.item.offset buffer own) number_is
          ∙ ap (λ o. make k o buffer own) offset_is
          ∙ ap (λ b. make k (leaf_in image (tree_of search) k).offset b own) read_there.held
          ∙ ap (make k (leaf_in image (tree_of search) k).offset (buffer_at image (leaf_target image (tree_of search) k))) read_there.bounded

  -- where it ends
  pub ends_is : (found : Found) → IsMet image (tree_of search) k → entry_of found ≡ entry_at image (tree_of search) k
      → search.features.first + leaf.item.offset + 4 + length found.bytes.now ≡ leaf_target image (tree_of search) k + 4 + size_at image (leaf_target image (tree_of search) k)
  ends_is found met same =
      let target = leaf_target image (tree_of search) k in
      let size : length found.bytes.now ≡ size_at image target = ap (λ (e : Entry). length e.buffer) same ∙ length-slice image (target + 4) (size_at image target) met.framed.fits in
      added _ _ _ _ target_is size
    where
      added : (a b c d : ℕ) → a ≡ b → c ≡ d → a + 4 + c ≡ b + 4 + d
      added a b c d e f = omega arith
