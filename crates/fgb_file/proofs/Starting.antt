-- What is refused in front of all features, said of the file and of its first twelve bytes.
use Rattle.std.proofs.Common.{◌≡◌, ◌⊎◌, ℕ, ◌+◌, ◌^◌, ◌≤◌, ◌<◌, true, List, length, get_or, take, drop, slice_range, slice_index, sym, ap, subst, ◌∙◌, arith, length-take, length-drop}
use Rattle.std.proofs.lemmas.List.{take-append-drop, take-take, drop-take, get_or-take}
use Rattle.flat_layout.specs.declared.Rule.{Rule}
use Rattle.flat_layout.specs.declared.Rule.TheVariants.{FileSize, Short, Magic, HeaderSize, IndexPastEnd}
use Rattle.flat_layout.specs.declared.Broken.{Broken}
use Rattle.flat_layout.specs.Layout.{number_at}
use Rattle.flat_layout.specs.Promises.{Names}
use Rattle.fgb_schema.specs.Paths.{header_root}
use Rattle.fgb_schema.specs.Weights.{BreaksBuffer}
use Rattle.level_bounds.specs.Levels.{Shape}
use Rattle.fgb_schema.specs.Headers.{has_index}
use Rattle.fgb_file.specs.File.{magic, header_size, header_end, header_buffer, header_in, IsSized, IsStart, IsHeader, IsTree, Differs, BreaksUnit, the_start, file_size, short, magic_byte, header_size_past, in_header, index_past_end, BreaksInFront}
use Rattle.fgb_file.proofs.Bytes.{slice_is, number_at-append, number_at-drop}
use Rattle.fgb_file.proofs.Passing.{start_clean, first_start, first_header, first_index, no_tree}

number_at-take : (n p k : ℕ) (b : List ℕ) → n ≤ k → p + k ≤ length b → number_at n (take (p + k) b) p ≡ number_at n b p
number_at-take n p k b small fits =
    sym (number_at-drop n p (take (p + k) b))
    ∙ ap (λ s. number_at n s 0) (drop-take p k b)
    ∙ sym (number_at-append n (take k (drop p b)) (drop k (drop p b)) (omega (arith, length-take k (drop p b), length-drop p b)))
    ∙ ap (λ s. number_at n s 0) (take-append-drop k (drop p b))
    ∙ number_at-drop n p b

module _ (image : List ℕ) where
  -- a broken start, or header, leaves no feature to be reached
  front_start : {q : ℕ} {r : Rule} → BreaksUnit image the_start q r → BreaksInFront image (record { place = q; rule = r })
  front_start {q = q} {r = r} broken = record { first = first_start image broken; unreached = λ index is. start_clean image is.header.start q r broken }

  pub front_size : 2 ^ 48 < length image → BreaksInFront image (record { place = 0; rule = FileSize })
  front_size long = front_start (file_size long)

  pub front_short : length image < 12 → BreaksInFront image (record { place = length image; rule = Short })
  front_short few = front_start (short few)

  pub front_magic : {q : ℕ} → IsSized image → Differs image q → BreaksInFront image (record { place = q; rule = Magic })
  front_magic sized differs = front_start (magic_byte sized differs)

  pub front_header_size : IsSized image → take 7 image ≡ magic → (10485760 < header_size image) ⊎ (length image < header_end image) → BreaksInFront image (record { place = 8; rule = HeaderSize })
  front_header_size sized is wrong = front_start (header_size_past sized is wrong)

  pub front_header : {q : ℕ} {r : Rule} → IsStart image → BreaksBuffer (header_buffer image) header_root q r → BreaksInFront image (record { place = 12 + q; rule = r })
  front_header {q = q} {r = r} start broken = record {
    first = first_header image start (in_header start broken);
    unreached = λ index is. is.header.clean q r broken;
  }

  -- the file has an index, and no tree fits into it
  pub front_past_end : IsHeader image → has_index (header_in image) ≡ true → ((t : Shape) → IsTree image t → ⊥) → BreaksInFront image (record { place = header_end image; rule = IndexPastEnd })
  front_past_end header has none = record { first = first_index image header (index_past_end header has none); unreached = λ index is. no_tree image index is has none }

  -- a refusal of the header's buffer
  pub front_refused : (buffer : List ℕ) (e : Broken) → IsStart image → buffer ≡ header_buffer image → Names 12 (BreaksBuffer buffer header_root) e → BreaksInFront image e
  front_refused buffer e start held named =
      let broken : BreaksBuffer (header_buffer image) header_root named.0 e.rule = subst (λ b. BreaksBuffer b header_root named.0 e.rule) held named.2 in
      subst (λ n. BreaksInFront image (record { place = n; rule = e.rule })) (sym named.1) (front_header start broken)

-- the twelve bytes of the start, as they were read
module _ (image start : List ℕ) (twelve : length start ≡ 12) (long : 12 ≤ length image) (read : start ≡ slice_range image 0 (0 + length start)) where
  is_front : start ≡ take 12 image
  is_front = read ∙ slice_is image 0 (length start) ∙ ap (λ n. take n image) twelve

  pub start_number : number_at 4 start 8 ≡ header_size image
  start_number = ap (λ s. number_at 4 s 8) is_front ∙ number_at-take 4 8 4 image (omega arith) long

  pub start_magic : take 7 start ≡ magic → take 7 image ≡ magic
  start_magic is = sym (take-take 7 12 image (omega arith)) ∙ ap (take 7) (sym is_front) ∙ is

  start_index : (q : ℕ) → q < 7 → slice_index image q ≡ slice_index start q
  start_index q early = sym (get_or-take 12 image q 0 (omega (arith, early))) ∙ ap (λ s. get_or s q 0) (sym is_front)

  pub start_differs : (q : ℕ) → Differs start q → Differs image q
  start_differs q d = record {
    early = d.early;
    same = sym (take-take q 12 image (omega (arith, d.early))) ∙ ap (take q) (sym is_front) ∙ d.same;
    other = λ e. d.other (sym (start_index q d.early) ∙ e);
  }

  pub refuse_magic : length image ≤ 2 ^ 48 → (q : ℕ) → Differs start q → BreaksInFront image (record { place = q; rule = Magic })
  refuse_magic small q d = front_magic image (record { short = small; long = long }) (start_differs q d)

  pub refuse_size : length image ≤ 2 ^ 48 → take 7 start ≡ magic → (size : ℕ) → size ≡ number_at 4 start 8 → (10485760 < size) ⊎ (length image < 12 + size) → BreaksInFront image (record { place = 8; rule = HeaderSize })
  refuse_size small is size same wrong = front_header_size image (record { short = small; long = long }) (start_magic is) (subst (λ n. (10485760 < n) ⊎ (length image < 12 + n)) (same ∙ start_number) wrong)

  pub start_sound : length image ≤ 2 ^ 48 → take 7 start ≡ magic → (size : ℕ) → size ≡ number_at 4 start 8 → size ≤ 10485760 → 12 + size ≤ length image → IsStart image × (size ≡ header_size image)
  start_sound sized is size same small inside = (
    record {
      sized = record { short = sized; long = long };
      magic = start_magic is;
      small = subst (λ n. n ≤ 10485760) (same ∙ start_number) small;
      inside = subst (λ n. 12 + n ≤ length image) (same ∙ start_number) inside;
    },
    same ∙ start_number,
  )
