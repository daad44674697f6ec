-- The rest of a file in memory, and the buffer behind the size prefix that it begins with.
use Rattle.std.proofs.Common.{◌≡◌, ℕ, ◌+◌, ◌-◌, ◌≤◌, List, length, take, drop, slice_range, sym, ap, ◌∙◌, arith, length-take, length-drop}
use Rattle.std.proofs.lemmas.List.{take-take}
use Rattle.fgb_file.specs.File.{size_at, buffer_at}
use Rattle.fgb_file.proofs.Bytes.{slice_is, slice-slice}

module _ (image : List ℕ) (at : ℕ) where
  -- from a place on
  abbrev pub rest_from : List ℕ
  rest_from = take (length image - at) (drop at image)

  pub rest_length : length rest_from ≡ length image - at
  rest_length = omega (arith, length-take (length image - at) (drop at image), length-drop at image)

  -- its size prefix
  pub rest_front : 4 ≤ length rest_from → take 4 rest_from ≡ slice_range image at (at + 4)
  rest_front some = take-take 4 (length image - at) (drop at image) (omega (arith, some, rest_length)) ∙ sym (slice_is image at 4)

  -- its buffer
  pub rest_buffer : (size : ℕ) → 4 + size ≤ length rest_from → size ≡ size_at image at → slice_range rest_from 4 (4 + size) ≡ buffer_at image at
  rest_buffer size fits same =
      ap (λ s. slice_range s 4 (4 + size)) (sym (slice_is image at (length image - at)))
      ∙ slice-slice image at (length image - at) 4 size (omega (arith, fits, rest_length))
      ∙ ap (λ n. slice_range image (at + 4) (at + 4 + n)) same
