-- The leaves of the features that were passed.
use Rattle.std.proofs.Common.{◌≡◌, ◌⊎◌, inl, inr, ⊎_elim, ℕ, ◌+◌, ◌<◌, true, false, List, [], ◌∷◌, ◌++◌, length, Option, Some, refl, sym, ap, subst, ◌∙◌, arith, length-append}
use Rattle.std.specs.List.{concat}
use Rattle.std.proofs.lemmas.Bool.{true≢false}
use Rattle.order_keys.specs.declared.bounds.Bounds.{Bounds}
use Rattle.order_keys.specs.Boxes.{same as same_box}
use Rattle.flat_layout.specs.declared.Rule.{Rule}
use Rattle.level_bounds.specs.Levels.{Shape}
use Rattle.fgb_schema.specs.Features.{feature_of, own_box}
use Rattle.fgb_file.specs.File.{header_in, buffer_at, first_place, leaf_in, leaf_target, box_of, LeafAgrees, LeavesAgree, BreaksLeaf, other_offset, other_box}

heads : {X : Type 0} {x y : X} {xs ys : List X} → x ∷ xs ≡ y ∷ ys → (x ≡ y) × (xs ≡ ys)
heads e = (cc e, cc e)

-- the last one, or one in front of it
last_or_before : {X : Type 0} (xs front rest : List X) (x y : X) → xs ++ x ∷ [] ≡ front ++ y ∷ rest
    → ((front ≡ xs) × (y ≡ x)) ⊎ ((others : List X) × (xs ≡ front ++ y ∷ others))
last_or_before [] [] rest x y is = inl (refl, sym (heads is).0)
last_or_before [] (f ∷ fs) rest x y is = absurd (omega (arith, ap length is, length-append fs (y ∷ rest)))
last_or_before (w ∷ ws) [] rest x y is = inr (ws, ap (λ z. z ∷ ws) (heads is).0)
last_or_before (w ∷ ws) (f ∷ fs) rest x y is = ⊎_elim
    (λ last. inl (ap (λ z. z ∷ fs) (sym (heads is).0) ∙ ap (λ zs. w ∷ zs) last.0, last.1))
    (λ before. inr (before.0, ap (λ z. z ∷ ws) (heads is).0 ∙ ap (λ zs. f ∷ zs) before.1))
    (last_or_before ws fs rest x y (heads is).1)

module _ (image : List ℕ) where
  pub leaves_none : (index : Option Shape) → LeavesAgree image index []
  leaves_none index front piece rest is = absurd (omega (arith, ap length is, length-append front (piece ∷ rest)))

  pub leaves_more : (index : Option Shape) (ws : List (List ℕ)) (p : List ℕ) → LeavesAgree image index ws → LeafAgrees image index (length ws) (length (concat ws)) (box_of (header_in image) p)
      → LeavesAgree image index (ws ++ p ∷ [])
  leaves_more index ws p agree last front piece rest is = ⊎_elim
      (λ both. subst (λ q. LeafAgrees image index (length front) (length (concat front)) (box_of (header_in image) q)) (sym both.1)
      (subst (λ fs. LeafAgrees image index (length fs) (length (concat fs)) (box_of (header_in image) p)) (sym both.0) last))
      (λ before. agree front piece before.0 before.1)
      (last_or_before ws front rest p piece is)

  -- a leaf that agrees with the feature whose offset is that of this place breaks nothing
  pub leaf_sound : (t : Shape) (k at offset : ℕ) (own : Bounds) → first_place image (Some t) + offset ≡ at → own_box (feature_of (header_in image) (buffer_at image at)) ≡ own → k < t.leaves
      → LeafAgrees image (Some t) k offset own → (q : ℕ) (r : Rule) → BreaksLeaf image t k at q r → ⊥
  leaf_sound t k at offset own place box some agrees = sound
    where
      target : leaf_target image t k ≡ at
      target = ap (λ n. first_place image (Some t) + n) (agrees some).0 ∙ place

      its_box : own_box (feature_of (header_in image) (buffer_at image (leaf_target image t k))) ≡ own
      its_box = ap (λ n. own_box (feature_of (header_in image) (buffer_at image n))) target ∙ box

      sound : (q : ℕ) (r : Rule) → BreaksLeaf image t k at q r → ⊥
      sound q r (other_offset other) = other target
      sound q r (other_box framed clean other) =
          let e : true ≡ false = sym (agrees some).1 ∙ ap (same_box (leaf_in image t k).bounds) (sym its_box) ∙ other in true≢false e
