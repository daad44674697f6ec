-- Where the features of a file that breaks no rule stand, and those of neighbours.
use Rattle.std.proofs.Common.{◌≡◌, ⊎_elim, ℕ, zero, suc, ◌+◌, ◌-◌, ◌<◌, ◌≤◌, List, [], ◌∷◌, ◌++◌, length, take, drop, get_or, map, Some, refl, sym, ap, subst, ◌∙◌, append_assoc, arith, length-append, length-take}
use Rattle.std.specs.Prelude.{slice_get}
use Rattle.std.specs.List.{AllByRecursion, concat, range_with_len}
use Rattle.std.specs.Option.{option_map}
use Rattle.std.proofs.lemmas.List.{drop_at, drop_more, length-map, take-append-drop, take_more}
use Rattle.std.proofs.lemmas.List.Folds.{concat-append}
use Rattle.std.proofs.lemmas.List.FromFn.{get_or-range_with_len}
use Rattle.std.proofs.lemmas.Option.{slice_get-get_or, slice_get-map, slice_get_within}
use Rattle.flat_layout.specs.Layout.{number_at}
use Rattle.fgb_outside.specs.Asked.{Ascends}
use Rattle.level_bounds.specs.Levels.{Shape}
use Rattle.section_window.proofs.Parts.{range_join}
use Rattle.fgb_file.specs.File.{header_in, first_place, node_in, leaf_in, leaf_target, size_at, IsFeature, IsFile, IsIndex, IsTree, present}
use Rattle.fgb_file.proofs.Bytes.{number_at-append, number_at-drop}
use Rattle.fgb_file.proofs.Opening.{open_inside}
use Rattle.fgb_file.proofs.Passing.{agrees_tells}
use Rattle.fgb_file.proofs.Walk.{all-rest}
use Rattle.tree_search.specs.declared.search.Hit.{Hit}
use Rattle.tree_search.specs.Searches.{hit_of}
use Rattle.hit_reader.specs.declared.section.Section.{Section}
use Rattle.hit_reader.specs.Asking.{feature_positions}
use Rattle.hit_reader.specs.Going.{IsContiguous, IsNext}

-- ## In a file

-- where feature k stands, behind those in front of it
abbrev pub feature_place : List ℕ → Shape → List (List ℕ) → ℕ → ℕ
feature_place image t pieces k = first_place image (Some t) + length (concat (take k pieces))

module _ (image : List ℕ) (t : Shape) (pieces : List (List ℕ)) (file : IsFile image (Some t) pieces) where
  tree : IsIndex image (Some t) → IsTree image t
  tree (present has fits) = fits

  many : t.leaves ≡ length pieces
  many = let fits = tree file.opened.between in
      ⊎_elim (λ none. absurd (omega (arith, none, fits.levels.leaves, fits.levels.shaped.some))) (λ same. fits.levels.leaves ∙ same) (agrees_tells file.counted)

  module _ (k : ℕ) (some : k < t.leaves) where
    early : k < length pieces
    early = omega (arith, some, many)

    piece : List ℕ
    piece = get_or pieces k []

    behind : List (List ℕ)
    behind = drop (k + 1) pieces

    split : pieces ≡ take k pieces ++ get_or pieces k [] ∷ drop (k + 1) pieces
    split = sym (take-append-drop k pieces) ∙ ap (λ l. take k pieces ++ l) (drop_more pieces k [] early)

    sound : IsFeature (header_in image) (get_or pieces k [])
    sound = let rest = all-rest (IsFeature (header_in image)) (take k pieces) (get_or pieces k [] ∷ drop (k + 1) pieces) (subst (AllByRecursion (IsFeature (header_in image))) split file.each) in rest.0

    in_front : length (take k pieces) ≡ k
    in_front = omega (arith, length-take k pieces, early)

    -- its leaf says that place
    pub target_there : leaf_target image t k ≡ feature_place image t pieces k
    target_there =
        let agrees = file.leaves (take k pieces) (get_or pieces k []) (drop (k + 1) pieces) split (omega (arith, in_front, some)) in
        let offset : (leaf_in image t k).offset ≡ length (concat (take k pieces)) = ap (λ n. (leaf_in image t n).offset) (sym in_front) ∙ agrees.0 in
        omega (arith, offset)

    place_behind : feature_place image t pieces (k + 1) ≡ feature_place image t pieces k + length (get_or pieces k [])
    place_behind =
        let more : concat (take (k + 1) pieces) ≡ concat (take k pieces) ++ (get_or pieces k [] ++ []) = ap concat (take_more pieces k [] early) ∙ concat-append (take k pieces) (get_or pieces k [] ∷ []) in
        omega (arith, ap length more, length-append (concat (take k pieces)) (get_or pieces k [] ++ []), length-append (get_or pieces k []) [])

    front : List ℕ
    front = take (first_place image (Some t)) image ++ concat (take k pieces)

    bytes : image ≡ (take (first_place image (Some t)) image ++ concat (take k pieces)) ++ (get_or pieces k [] ++ concat (drop (k + 1) pieces))
    bytes =
        file.whole
        ∙ ap (λ l. take (first_place image (Some t)) image ++ l) (ap concat split ∙ concat-append (take k pieces) (get_or pieces k [] ∷ drop (k + 1) pieces))
        ∙ sym (append_assoc (take (first_place image (Some t)) image) (concat (take k pieces)) (get_or pieces k [] ++ concat (drop (k + 1) pieces)))

    dropped : drop (feature_place image t pieces k) image ≡ get_or pieces k [] ++ concat (drop (k + 1) pieces)
    dropped =
        let len : length (take (first_place image (Some t)) image ++ concat (take k pieces)) ≡ feature_place image t pieces k =
        omega (arith, length-append (take (first_place image (Some t)) image) (concat (take k pieces)), length-take (first_place image (Some t)) image, open_inside image (Some t) file.opened) in
        ap (drop (feature_place image t pieces k)) bytes
        ∙ drop_at (take (first_place image (Some t)) image ++ concat (take k pieces)) (get_or pieces k [] ++ concat (drop (k + 1) pieces)) (feature_place image t pieces k) len

    -- the next one stands behind it
    pub next_there : feature_place image t pieces (k + 1) ≡ feature_place image t pieces k + 4 + size_at image (feature_place image t pieces k)
    next_there =
        let sized = sound.framed.sized in
        let size : size_at image (feature_place image t pieces k) ≡ number_at 4 (get_or pieces k []) 0 =
        sym (number_at-drop 4 (feature_place image t pieces k) image) ∙ ap (λ b. number_at 4 b 0) dropped
        ∙ number_at-append 4 (get_or pieces k []) (concat (drop (k + 1) pieces)) (omega (arith, sized)) in
        omega (arith, place_behind, sized, size)

  -- later ones stand farther on
  rise : (k n : ℕ) → k + n ≤ t.leaves → feature_place image t pieces k ≤ feature_place image t pieces (k + n)
  rise k zero within = let e : k ≡ k + 0 = omega arith in omega (arith, ap (feature_place image t pieces) e)
  rise k (suc n) within =
      let e : k + n + 1 ≡ k + suc n = omega arith in
      omega (arith, rise k n (omega arith), next_there (k + n) (omega arith), ap (feature_place image t pieces) e)

  -- the positions of neighbours, from the first of them on
  positions : (k n : ℕ) → k + n ≤ t.leaves → feature_positions image t (range_with_len k n) ≡ range_with_len (feature_place image t pieces k) (feature_place image t pieces (k + n) - feature_place image t pieces k)
  unfolding feature_positions
  positions k zero within =
      let e : 0 ≡ feature_place image t pieces (k + 0) - feature_place image t pieces k = omega (arith, ap (feature_place image t pieces) (let f : k ≡ k + 0 = omega arith in f)) in
      ap (range_with_len (feature_place image t pieces k)) e
  positions k (suc n) within =
      let here = target_there k (omega arith) in
      let next = next_there k (omega arith) in
      let e : k + 1 + n ≡ k + suc n = omega arith in
      ap (λ p. range_with_len p (4 + size_at image p) ++ feature_positions image t (range_with_len (k + 1) n)) here
      ∙ ap (λ l. range_with_len (feature_place image t pieces k) (4 + size_at image (feature_place image t pieces k)) ++ l) (positions (k + 1) n (omega arith))
      ∙ range_join (feature_place image t pieces k) (4 + size_at image (feature_place image t pieces k)) (feature_place image t pieces (k + 1)) (feature_place image t pieces (k + 1 + n) - feature_place image t pieces (k + 1)) (feature_place image t pieces (k + suc n) - feature_place image t pieces k)
      (omega (arith, next)) (omega (arith, next, rise (k + 1) n (omega arith), ap (feature_place image t pieces) e))

-- ## Neighbours

-- numbers each of which is the next one
consecutive : (ks : List ℕ) → ((i : ℕ) → suc i < length ks → get_or ks (suc i) 0 ≡ get_or ks i 0 + 1) → ks ≡ range_with_len (get_or ks 0 0) (length ks)
consecutive [] next = refl
consecutive (k ∷ []) next = refl
consecutive (k ∷ (j ∷ rest)) next =
    ap (λ l. k ∷ l) (consecutive (j ∷ rest) (λ i within. next (suc i) (omega arith)) ∙ ap (λ n. range_with_len n (length (j ∷ rest))) (next 0 (omega arith)))

ascends_below : (low high : ℕ) (ks : List ℕ) → Ascends low high ks → (i : ℕ) → i < length ks → get_or ks i 0 < high
ascends_below low high [] rises i within = absurd (omega arith)
ascends_below low high (k ∷ ks) rises zero within = omega (arith, bound (k + 1) high ks rises.1)
  where
    bound : (low high : ℕ) (ks : List ℕ) → Ascends low high ks → low ≤ high
    bound low high [] rises = rises
    bound low high (k ∷ ks) rises = omega (arith, rises.0, bound (k + 1) high ks rises.1)
ascends_below low high (k ∷ ks) rises (suc i) within = ascends_below (k + 1) high ks rises.1 i (omega arith)

module _ (image : List ℕ) (t : Shape) (section : Section) (first : section.first ≡ first_place image (Some t)) (end : section.end ≡ length image) (run : List Hit) (leaves : List ℕ) (are : run ≡ map (hit_of t (node_in image) 0) leaves) where
  run_length : length run ≡ length leaves
  run_length = ap length are ∙ length-map leaves (hit_of t (node_in image) 0)

  hit_there : (i : ℕ) → i < length leaves → slice_get run i ≡ Some (hit_of t (node_in image) 0 (get_or leaves i 0))
  hit_there i within =
      ap (λ hs. slice_get hs i) are ∙ slice_get-map (hit_of t (node_in image) 0) leaves i
      ∙ ap (option_map (hit_of t (node_in image) 0)) (slice_get-get_or leaves i 0 within)

  module _ (nexts : (i : ℕ) (a b : Hit) → i + 1 < length run → slice_get run i ≡ Some a → slice_get run (i + 1) ≡ Some b → IsNext a b) where
    numbers : leaves ≡ range_with_len (get_or leaves 0 0) (length leaves)
    numbers = consecutive leaves (λ i within.
        let e : suc i ≡ i + 1 = omega arith in
        let next = nexts i _ _ (omega (arith, run_length, within)) (hit_there i (omega (arith, within))) (hit_there (i + 1) (omega (arith, within))) in
        ap (λ n. get_or leaves n 0) e ∙ sym next.0)

    number_there : (i : ℕ) → i < length leaves → get_or leaves i 0 ≡ get_or leaves 0 0 + i
    number_there i within = ap (λ l. get_or l i 0) numbers ∙ get_or-range_with_len (get_or leaves 0 0) (length leaves) i 0 within

    module _ (pieces : List (List ℕ)) (file : IsFile image (Some t) pieces) (low : ℕ) (rises : Ascends low t.leaves leaves) where
      there_below : (i : ℕ) → i < length leaves → get_or leaves 0 0 + i < t.leaves
      there_below i within = omega (arith, number_there i within, ascends_below low t.leaves leaves rises i within)

      -- where the features of the run stand
      abbrev pub run_place : ℕ → ℕ
      run_place i = feature_place image t pieces (get_or leaves 0 0 + i)

      pub contiguous : IsContiguous image section run run_place
      contiguous = record {
        ends = end;
        there = λ i (hit : Hit) is.
            let within : i < length leaves = omega (arith, slice_get_within run i hit is, run_length) in
            let same : Some hit ≡ Some (hit_of t (node_in image) 0 (get_or leaves i 0)) = sym is ∙ hit_there i within in
            let one : hit ≡ hit_of t (node_in image) 0 (get_or leaves i 0) = cc in
            let target : section.first + hit.item.offset ≡ leaf_target image t (get_or leaves i 0) = omega (arith, first, ap (λ (h : Hit). h.item.offset) one) in
            target
            ∙ ap (leaf_target image t) (number_there i within)
            ∙ target_there image t pieces file (get_or leaves 0 0 + i) (there_below i within);
        next = λ i within.
            let e : get_or leaves 0 0 + (i + 1) ≡ get_or leaves 0 0 + i + 1 = omega arith in
            ap (feature_place image t pieces) e ∙ next_there image t pieces file (get_or leaves 0 0 + i) (there_below i (omega (arith, within, run_length)));
      }

      pub run_positions : 0 < length run → feature_positions image t leaves ≡ range_with_len (run_place 0) (run_place (length run) - run_place 0)
      run_positions some =
          let none : get_or leaves 0 0 ≡ get_or leaves 0 0 + 0 = omega arith in
          let within : get_or leaves 0 0 + length leaves ≤ t.leaves = omega (arith, run_length, there_below (length leaves - 1) (omega (arith, run_length))) in
          ap (feature_positions image t) numbers
          ∙ positions image t pieces file (get_or leaves 0 0) (length leaves) within
          ∙ ap (λ k. range_with_len (feature_place image t pieces k) (feature_place image t pieces (get_or leaves 0 0 + length leaves) - feature_place image t pieces k)) none
          ∙ ap (λ n. range_with_len (run_place 0) (run_place n - run_place 0)) (sym run_length)
