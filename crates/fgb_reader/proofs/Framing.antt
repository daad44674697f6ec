-- The size prefix of a feature, from the bytes of a file.
use Rattle.std.proofs.Common.{◌≡◌, ℕ, ◌+◌, ◌-◌, ◌<◌, ◌≤◌, List, length, take, slice_range, Result, MatchResult, sym, ap, subst, ◌∙◌, arith}
use Rattle.std.proofs.lemmas.List.{take-append-drop}
use Rattle.flat_layout.specs.Layout.{number_at}
use Rattle.flat_layout.specs.declared.Broken.{Broken}
use Rattle.flat_layout.specs.declared.Rule.TheVariants.{FeaturePastEnd, FeatureSize}
use Rattle.fgb_outside.specs.Source.{Source, IfTold}
use Rattle.section_window.specs.Window.{Held, Shows}
use Rattle.section_window.proofs.Showing.{shows_front}
use Rattle.fgb_file.specs.File.{size_at, IsFramed, BreaksPrefix, past_end, too_large}
use Rattle.fgb_file.proofs.Bytes.{length-slice, number_at-append, number_at-slice}

-- the number in the first four bytes of a front that are those of the file
pub size_read : (image front : List ℕ) (at n : ℕ) → at + 4 ≤ length image → take 4 front ≡ slice_range image at (at + 4) → n ≡ number_at 4 front 0 → n ≡ size_at image at
size_read image front at n fits same read =
    let len : length (take 4 front) ≡ 4 = ap length same ∙ length-slice image at 4 fits in
    read
    ∙ ap (λ b. number_at 4 b 0) (sym (take-append-drop 4 front))
    ∙ number_at-append 4 (take 4 front) _ (omega arith)
    ∙ ap (λ b. number_at 4 b 0) same
    ∙ number_at-slice 4 4 at image (omega arith) fits

module _ (image : List ℕ) (at left : ℕ) (whole : at + left ≡ length image) where
  pub breaks_short : left < 4 → BreaksPrefix image at FeaturePastEnd
  breaks_short short = past_end (omega arith)

  pub breaks_past : (n : ℕ) → n ≡ size_at image at → left < 4 + n → BreaksPrefix image at FeaturePastEnd
  breaks_past n size past = past_end (omega arith)

  pub breaks_size : (n : ℕ) → n ≡ size_at image at → 4 + n ≤ left → 268435456 < n → BreaksPrefix image at FeatureSize
  breaks_size n size fits large = too_large (omega arith) (omega arith)

  pub is_framed : (n : ℕ) → n ≡ size_at image at → 4 + n ≤ left → n ≤ 268435456 → IsFramed image at × (n ≡ size_at image at)
  is_framed n size fits small = (record { fits = omega arith; small = omega arith }, size)

-- what is judged of the size prefix at a place
abbrev pub Judged : List ℕ → ℕ → Result ℕ Broken → Type 0
Judged image at r = MatchResult r (λ size. IsFramed image at × (size ≡ size_at image at)) (λ broken. (broken.place ≡ at) × BreaksPrefix image at broken.rule)

-- the prefix at the front of a window, which stayed where it was and holds four bytes where so many are left
pub judged_window : (r : Result ℕ Broken) (w w' : Held) (s s' : Source) (at end : ℕ) (bytes : List ℕ)
    → w'.at ≡ w.at → w'.end ≡ w.end → at ≡ w'.at → end ≡ w'.end → bytes ≡ w'.bytes → s'.image ≡ s.image → Shows w' s' → (4 ≤ w.end - w.at → 4 ≤ length w'.bytes)
    → ((image : List ℕ) → at + (end - at) ≡ length image → (4 ≤ end - at → take 4 bytes ≡ slice_range image at (at + 4)) → Judged image at r)
    → IfTold s (λ image. w.end ≡ length image → Judged image w.at r)
judged_window r w w' s s' at end bytes stays ends is_at is_end held told_same shows enough judged image told whole =
    let is : at ≡ w.at = is_at ∙ stays in
    let front : 4 ≤ end - at → take 4 bytes ≡ slice_range image at (at + 4) = λ many.
    ap (take 4) held ∙ shows_front w' s' 4 (enough (omega arith)) shows image (told_same ∙ told) ∙ ap (λ n. slice_range image n (n + 4)) (sym is_at) in
    subst (λ n. Judged image n r) is (judged image (omega (arith, shows.within)) front)
