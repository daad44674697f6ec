-- How a walk over the features begins and goes on, and that of two walks over one file the shorter is a front of the
-- longer, so that what a sound walk has passed breaks nothing.
use Rattle.std.proofs.Common.{◌≡◌, inl, inr, ℕ, ◌+◌, ◌-◌, ◌*◌, ◌≤◌, ◌<◌, List, [], ◌∷◌, ◌++◌, length, take, drop, slice_range, refl, sym, ap, subst, ◌∙◌, arith, length-append, length-take, length-drop}
use Rattle.std.specs.List.{AllByRecursion, concat}
use Rattle.std.proofs.lemmas.List.{append-nil, append_assoc, append_cancel_left, take-append-drop, take_at}
use Rattle.std.proofs.Math.Seq.{take-add}
use Rattle.std.proofs.lemmas.Bool.{cases_lt}
use Rattle.std.proofs.lemmas.List.Folds.{concat-append}
use Rattle.flat_layout.specs.declared.Rule.{Rule}
use Rattle.flat_layout.specs.Layout.{number_at}
use Rattle.fgb_schema.specs.Paths.{feature_root}
use Rattle.fgb_schema.specs.Weights.{BreaksBuffer}
use Rattle.fgb_schema.specs.Headers.{Header}
use Rattle.fgb_file.specs.File.{header_in, size_at, buffer_at, IsPiece, IsFeature, Walks, IsFramed, BreaksPrefix, past_end, too_large, BreaksFeature, in_prefix, in_buffer}
use Rattle.fgb_file.proofs.Bytes.{slice_is, length-slice, number_at-slice, slice-slice, number_at-drop, number_at-append}
use Rattle.fgb_file.proofs.Pieces.{pieces_front}

pub all-append : {X : Type 0} (P : X → Type 0) (xs ys : List X) → AllByRecursion P xs → AllByRecursion P ys → AllByRecursion P (xs ++ ys)
all-append P [] ys all_x all_y = all_y
all-append P (x ∷ xs) ys all_x all_y = (all_x.0, all-append P xs ys all_x.1 all_y)

pub all-rest : {X : Type 0} (P : X → Type 0) (xs ys : List X) → AllByRecursion P (xs ++ ys) → AllByRecursion P ys
all-rest P [] ys all = all
all-rest P (x ∷ xs) ys all = all-rest P xs ys all.1

pub framed_all : (header : Header) (ps : List (List ℕ)) → AllByRecursion (IsFeature header) ps → AllByRecursion IsPiece ps
framed_all header [] all = tt
framed_all header (p ∷ ps) all = (all.0.framed, framed_all header ps all.1)

-- pieces without a byte are none
pub no_more : (rest : List (List ℕ)) → AllByRecursion IsPiece rest → length (concat rest) ≡ 0 → rest ≡ []
no_more [] each empty = refl
no_more (p ∷ ps) each empty = absurd (omega (arith, empty, length-append p (concat ps), each.0.sized))

-- each piece has the four bytes of its size prefix
pub pieces_long : (ps : List (List ℕ)) → AllByRecursion IsPiece ps → 4 * length ps ≤ length (concat ps)
pieces_long [] each = omega arith
pieces_long (p ∷ ps) each = omega (arith, pieces_long ps each.1, length-append p (concat ps), each.0.sized)

module _ (image : List ℕ) where
  pub walk_start : (first : ℕ) → first ≤ length image → Walks image first [] first
  walk_start first inside = record { front = sym (append-nil (take first image)); above = omega arith; within = inside; each = tt }

  -- the piece at a place
  abbrev pub piece_at : ℕ → List ℕ
  piece_at at = slice_range image at (at + (4 + size_at image at))

  piece_inside : (at : ℕ) → IsFramed image at → at + (4 + size_at image at) ≤ length image
  piece_inside at framed = omega (arith, framed.fits)

  pub piece_length : (at : ℕ) → IsFramed image at → length (piece_at at) ≡ 4 + size_at image at
  piece_length at framed = length-slice image at (4 + size_at image at) (piece_inside at framed)

  pub piece_framed : (at : ℕ) → IsFramed image at → IsPiece (piece_at at)
  piece_framed at framed =
      let size = number_at-slice 4 (4 + size_at image at) at image (omega arith) (piece_inside at framed) in
      record { sized = piece_length at framed ∙ ap (λ n. 4 + n) (sym size); small = subst (λ n. n ≤ 268435456) (sym size) framed.small }

  -- its buffer
  pub piece_buffer : (at : ℕ) → IsFramed image at → slice_range (piece_at at) 4 (length (piece_at at)) ≡ buffer_at image at
  piece_buffer at framed =
      ap (slice_range (piece_at at) 4) (piece_length at framed)
      ∙ slice-slice image at (4 + size_at image at) 4 (size_at image at) (omega arith)

  pub piece_feature : (header : Header) (at : ℕ) → IsFramed image at → ((q : ℕ) (r : Rule) → BreaksBuffer (buffer_at image at) (feature_root header) q r → ⊥) → IsFeature header (piece_at at)
  piece_feature header at framed clean = record {
    framed = piece_framed at framed;
    clean = λ q r broken. clean q r (subst (λ b. BreaksBuffer b (feature_root header) q r) (piece_buffer at framed) broken);
  }

  -- from the first feature on
  module _ (first : ℕ) where
    pub walk_step : (ws : List (List ℕ)) (at : ℕ) → Walks image first ws at → IsFramed image at → Walks image first (ws ++ piece_at at ∷ []) (at + (4 + size_at image at))
    walk_step ws at walk framed = record {
      front =
          take-add at (4 + size_at image at) image
          ∙ ap (λ xs. xs ++ take (4 + size_at image at) (drop at image)) walk.front
          ∙ append_assoc (take first image) (concat ws) (take (4 + size_at image at) (drop at image))
          ∙ ap (λ xs. take first image ++ xs) (
          ap (λ xs. concat ws ++ xs) (sym (slice_is image at (4 + size_at image at)) ∙ sym (append-nil (piece_at at)))
          ∙ sym (concat-append ws (piece_at at ∷ [])));
      above = omega (arith, walk.above);
      within = piece_inside at framed;
      each = all-append IsPiece ws (piece_at at ∷ []) walk.each (piece_framed at framed, tt);
    }

    -- the features passed so far lie between the header's end and the place
    pub walk_offset : (ws : List (List ℕ)) (at : ℕ) → Walks image first ws at → first + length (concat ws) ≡ at
    walk_offset ws at walk =
        let all = ap length walk.front in
        omega (arith, all, length-append (take first image) (concat ws), length-take first image, length-take at image, walk.above, walk.within)

    -- a walk that came no further has passed a front of the pieces
    pub walk_front : (ps ws : List (List ℕ)) (end at : ℕ) → Walks image first ps end → Walks image first ws at → at ≤ end
        → (rest : List (List ℕ)) × (ps ≡ ws ++ rest) × (concat rest ≡ take (end - at) (drop at image))
    walk_front ps ws end at long short le = pieces_front ps ws (take (end - at) (drop at image)) long.each short.each (
        append_cancel_left (take first image) (concat ps) (concat ws ++ take (end - at) (drop at image)) (
        sym long.front
        ∙ ap (λ n. take n image) (let e : end ≡ at + (end - at) = omega arith in e)
        ∙ take-add at (end - at) image
        ∙ ap (λ xs. xs ++ take (end - at) (drop at image)) short.front
        ∙ append_assoc (take first image) (concat ws) (take (end - at) (drop at image))))

    -- a walk with fewer pieces stands in front of one with more
    pub walk_earlier : (ps ws : List (List ℕ)) (end at : ℕ) → Walks image first ps end → Walks image first ws at → length ws < length ps → at < end
    walk_earlier ps ws end at long short fewer = elim (cases_lt at end) [
      | inl earlier ↦ earlier
      | inr le ↦ let front = walk_front ws ps at end short long le in absurd (omega (arith, ap length front.1, length-append ps front.0, fewer))
    ]

  -- a piece at a place is what its size prefix frames there
  module _ (at : ℕ) (p after : List ℕ) (is : p ++ after ≡ drop at image) (framed : IsPiece p) where
    size_there : size_at image at ≡ number_at 4 p 0
    size_there = sym (number_at-drop 4 at image) ∙ ap (λ s. number_at 4 s 0) (sym is) ∙ number_at-append 4 p after (omega (arith, framed.sized))

    fits_there : at + length p ≤ length image
    fits_there = omega (arith, ap length is, length-append p after, length-drop at image, framed.sized)

    same_there : p ≡ slice_range image at (at + length p)
    same_there = sym (take_at p after (length p) refl) ∙ ap (take (length p)) is ∙ sym (slice_is image at (length p))

    pub buffer_there : buffer_at image at ≡ slice_range p 4 (length p)
    buffer_there =
        sym (slice-slice image at (length p) 4 (size_at image at) (omega (arith, size_there, framed.sized)))
        ∙ ap (λ s. slice_range s 4 (4 + size_at image at)) (sym same_there)
        ∙ ap (λ n. slice_range p 4 n) (let e : 4 + size_at image at ≡ length p = omega (arith, size_there, framed.sized) in e)

  -- the feature at a place breaks nothing where what stands there is a sound one
  feature_sound : (at : ℕ) (p after : List ℕ) → p ++ after ≡ drop at image → IsFeature (header_in image) p → (q : ℕ) (r : Rule) → BreaksFeature image at q r → ⊥
  feature_sound at p after is feature = sound
    where
      prefix : (r : Rule) → BreaksPrefix image at r → ⊥
      prefix r (past_end long) = omega (arith, long, fits_there at p after is feature.framed, size_there at p after is feature.framed, feature.framed.sized)
      prefix r (too_large room large) = omega (arith, large, size_there at p after is feature.framed, feature.framed.small)

      sound : (q : ℕ) (r : Rule) → BreaksFeature image at q r → ⊥
      sound q r (in_prefix {r = rule} broken) = prefix rule broken
      sound q r (in_buffer {q = k} {r = rule} framed broken) = feature.clean k rule (subst (λ b. BreaksBuffer b (feature_root (header_in image)) k rule) (buffer_there at p after is feature.framed) broken)

  -- the piece that a walk passed behind an earlier place of a walk, and what follows it in the file
  pub record Passed (ps ws : List (List ℕ)) (at : ℕ) : Type 0 where
    pub piece : List ℕ
    pub rest : List (List ℕ)
    pub after : List ℕ
    pub split : ps ≡ ws ++ piece ∷ rest
    pub stands : piece ++ after ≡ drop at image

  pub walk_passed : (first : ℕ) (ps ws : List (List ℕ)) (end at : ℕ) → Walks image first ps end → Walks image first ws at → at < end → Passed ps ws at
  walk_passed first ps ws end at long short earlier =
      let front = walk_front first ps ws end at long short (omega (arith, earlier)) in first_of_rest front.0 front.1 front.2
    where
      first_of_rest : (rest : List (List ℕ)) → ps ≡ ws ++ rest → concat rest ≡ take (end - at) (drop at image) → Passed ps ws at
      first_of_rest [] split is = absurd (omega (arith, ap length is, length-take (end - at) (drop at image), length-drop at image, earlier, long.within))
      first_of_rest (p ∷ qs) split is = record {
        piece = p;
        rest = qs;
        after = concat qs ++ drop (end - at) (drop at image);
        split = split;
        stands =
            sym (append_assoc p (concat qs) (drop (end - at) (drop at image)))
            ∙ ap (λ xs. xs ++ drop (end - at) (drop at image)) is
            ∙ take-append-drop (end - at) (drop at image);
      }

  -- it is one of those that were passed
  pub passed_one : (P : List ℕ → Type 0) {ps ws : List (List ℕ)} {at : ℕ} → AllByRecursion P ps → (passed : Passed ps ws at) → P passed.piece
  passed_one P {ws = ws} each passed = let all = all-rest P ws (passed.piece ∷ passed.rest) (subst (λ xs. AllByRecursion P xs) passed.split each) in all.0

  -- where a walk passed sound features, an earlier place of a walk breaks nothing
  pub passed_sound : (first : ℕ) (ps ws : List (List ℕ)) (end at : ℕ) → Walks image first ps end → AllByRecursion (IsFeature (header_in image)) ps → Walks image first ws at → at < end
      → (q : ℕ) (r : Rule) → BreaksFeature image at q r → ⊥
  passed_sound first ps ws end at long each short earlier =
      let passed = walk_passed first ps ws end at long short earlier in
      feature_sound at passed.piece passed.after passed.stands (passed_one (IsFeature (header_in image)) each passed)
