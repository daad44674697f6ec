-- A feature read in memory.
use Rattle.std.proofs.Common.{◌≡◌, ℕ, ◌+◌, ◌-◌, ◌≤◌, List, length, take, drop, slice_range, sym, ap, subst, ◌∙◌, arith, length-take, length-drop}
use Rattle.std.proofs.lemmas.List.{take-take}
use Rattle.flat_layout.specs.declared.Broken.{Broken}
use Rattle.flat_layout.specs.Promises.{IsClean, Names}
use Rattle.order_keys.specs.declared.bounds.Bounds.{Bounds}
use Rattle.fgb_schema.specs.Paths.{feature_root}
use Rattle.fgb_schema.specs.Weights.{BreaksBuffer}
use Rattle.fgb_schema.specs.Headers.{Header}
use Rattle.fgb_schema.specs.Features.{feature_of, own_box}
use Rattle.fgb_file.specs.File.{header_in, size_at, buffer_at, IsFramed, BreaksPrefix, BreaksFeature, in_prefix, in_buffer}
use Rattle.fgb_file.proofs.Bytes.{slice_is, slice-slice}
use Rattle.slice_hits.specs.Reading.{IsRead}

module _ (image : List ℕ) (at : ℕ) where
  -- the file from a place on
  abbrev pub rest_from : List ℕ
  rest_from = take (length image - at) (drop at image)

  rest_length : length rest_from ≡ length image - at
  rest_length = omega (arith, length-take (length image - at) (drop at image), length-drop at image)

  -- its size prefix
  pub rest_front : 4 ≤ length rest_from → take 4 rest_from ≡ slice_range image at (at + 4)
  rest_front some = take-take 4 (length image - at) (drop at image) (omega (arith, some, rest_length)) ∙ sym (slice_is image at 4)

  -- its buffer
  pub rest_buffer : (size : ℕ) → 4 + size ≤ length rest_from → size ≡ size_at image at → slice_range rest_from 4 (4 + size) ≡ buffer_at image at
  rest_buffer size fits same =
      ap (λ s. slice_range s 4 (4 + size)) (sym (slice_is image at (length image - at)))
      ∙ slice-slice image at (length image - at) 4 size (omega (arith, fits, rest_length))
      ∙ ap (λ n. slice_range image (at + 4) (at + 4 + n)) same

  -- what its prefix breaks
  pub breaks_prefix : {e : Broken} → e.place ≡ at → BreaksPrefix image at e.rule → BreaksFeature image at e.place e.rule
  breaks_prefix {e = e} same broken = subst (λ q. BreaksFeature image at q e.rule) (sym same) (in_prefix broken)

  -- what was read of its buffer under the header
  module _ (header : Header) (shown : header ≡ header_in image) (framed : IsFramed image at) (buffer : List ℕ) (held : buffer ≡ buffer_at image at) where
    pub breaks_buffer : {base : ℕ} {e : Broken} → base ≡ at + 4 → Names base (BreaksBuffer buffer (feature_root header)) e → BreaksFeature image at e.place e.rule
    breaks_buffer {e = e} place named =
        let broken : BreaksBuffer (buffer_at image at) (feature_root (header_in image)) named.0 e.rule =
        subst (λ h. BreaksBuffer (buffer_at image at) (feature_root h) named.0 e.rule) shown (subst (λ b. BreaksBuffer b (feature_root header) named.0 e.rule) held named.2) in
        let at_e : at + 4 + named.0 ≡ e.place = omega (arith, named.1, place) in
        subst (λ q. BreaksFeature image at q e.rule) at_e (in_buffer framed broken)

    pub is_read : {own : Bounds} → IsClean (BreaksBuffer buffer (feature_root header)) → own ≡ own_box (feature_of header buffer) → IsRead image at buffer own
    is_read clean same = record {
      framed = framed;
      clean = subst (λ h. IsClean (BreaksBuffer (buffer_at image at) (feature_root h))) shown (subst (λ b. IsClean (BreaksBuffer b (feature_root header))) held clean);
      held = held;
      bounded = same ∙ ap (λ h. own_box (feature_of h buffer)) shown ∙ ap (λ b. own_box (feature_of (header_in image) b)) held;
    }
