-- In a file that breaks no rule the features where leaves say stand one behind another.
use Rattle.std.proofs.Common.{◌≡◌, ⊎_elim, ℕ, zero, suc, ◌+◌, ◌-◌, ◌<◌, ◌≤◌, List, [], ◌∷◌, ◌++◌, length, take, drop, get_or, Some, refl, sym, ap, subst, ◌∙◌, append_assoc, arith, length-append, length-take}
use Rattle.std.specs.List.{AllByRecursion, concat, range_with_len}
use Rattle.std.proofs.lemmas.List.{drop_at, drop_more, take-append-drop, take_more}
use Rattle.std.proofs.lemmas.List.Folds.{concat-append}
use Rattle.flat_layout.specs.Layout.{number_at}
use Rattle.fgb_outside.specs.Asked.{Ascends}
use Rattle.level_bounds.specs.Levels.{Shape}
use Rattle.node_items.specs.declared.item.NodeItem.{NodeItem}
use Rattle.fgb_file.specs.File.{header_in, first_place, leaf_in, leaf_target, size_at, IsFeature, IsFile, IsIndex, IsTree, present}
use Rattle.fgb_file.proofs.Bytes.{number_at-append, number_at-drop}
use Rattle.fgb_file.proofs.Opening.{open_inside}
use Rattle.fgb_file.proofs.Passing.{agrees_tells}
use Rattle.fgb_file.proofs.Walk.{all-rest}
use Rattle.hit_reader.specs.Asking.{feature_positions}
use Rattle.box_search.specs.declared.nodes.Hit.{Hit}
use Rattle.hit_runs.specs.Laid.{place_said, end_there, hit_positions, SaysEnd, AreLaid}
use Rattle.hit_runs.specs.Leaves.{IsLeaf, TellsNext, AreLeaves}

-- where feature k stands, behind those in front of it
abbrev pub feature_place : List ℕ → Shape → List (List ℕ) → ℕ → ℕ
feature_place image t pieces k = first_place image (Some t) + length (concat (take k pieces))

module _ (image : List ℕ) (t : Shape) (pieces : List (List ℕ)) (file : IsFile image (Some t) pieces) where
  tree : IsIndex image (Some t) → IsTree image t
  tree (present has fits) = fits

  many : t.leaves ≡ length pieces
  many = let fits = tree file.opened.between in
      ⊎_elim (λ none. absurd (omega (arith, none, fits.levels.leaves, fits.levels.shaped.some))) (λ same. fits.levels.leaves ∙ same) (agrees_tells file.counted)

  module _ (k : ℕ) (some : k < t.leaves) where
    early : k < length pieces
    early = omega (arith, some, many)

    piece : List ℕ
    piece = get_or pieces k []

    behind : List (List ℕ)
    behind = drop (k + 1) pieces

    split : pieces ≡ take k pieces ++ get_or pieces k [] ∷ drop (k + 1) pieces
    split = sym (take-append-drop k pieces) ∙ ap (λ l. take k pieces ++ l) (drop_more pieces k [] early)

    sound : IsFeature (header_in image) (get_or pieces k [])
    sound = let rest = all-rest (IsFeature (header_in image)) (take k pieces) (get_or pieces k [] ∷ drop (k + 1) pieces) (subst (AllByRecursion (IsFeature (header_in image))) split file.each) in rest.0

    in_front : length (take k pieces) ≡ k
    in_front = omega (arith, length-take k pieces, early)

    -- its leaf says that place
    pub target_there : leaf_target image t k ≡ feature_place image t pieces k
    target_there =
        let agrees = file.leaves (take k pieces) (get_or pieces k []) (drop (k + 1) pieces) split (omega (arith, in_front, some)) in
        let offset : (leaf_in image t k).offset ≡ length (concat (take k pieces)) = ap (λ n. (leaf_in image t n).offset) (sym in_front) ∙ agrees.0 in
        omega (arith, offset)

    place_behind : feature_place image t pieces (k + 1) ≡ feature_place image t pieces k + length (get_or pieces k [])
    place_behind =
        let more : concat (take (k + 1) pieces) ≡ concat (take k pieces) ++ (get_or pieces k [] ++ []) = ap concat (take_more pieces k [] early) ∙ concat-append (take k pieces) (get_or pieces k [] ∷ []) in
        omega (arith, ap length more, length-append (concat (take k pieces)) (get_or pieces k [] ++ []), length-append (get_or pieces k []) [])

    front : List ℕ
    front = take (first_place image (Some t)) image ++ concat (take k pieces)

    bytes : image ≡ (take (first_place image (Some t)) image ++ concat (take k pieces)) ++ (get_or pieces k [] ++ concat (drop (k + 1) pieces))
    bytes =
        file.whole
        ∙ ap (λ l. take (first_place image (Some t)) image ++ l) (ap concat split ∙ concat-append (take k pieces) (get_or pieces k [] ∷ drop (k + 1) pieces))
        ∙ sym (append_assoc (take (first_place image (Some t)) image) (concat (take k pieces)) (get_or pieces k [] ++ concat (drop (k + 1) pieces)))

    dropped : drop (feature_place image t pieces k) image ≡ get_or pieces k [] ++ concat (drop (k + 1) pieces)
    dropped =
        let len : length (take (first_place image (Some t)) image ++ concat (take k pieces)) ≡ feature_place image t pieces k =
        omega (arith, length-append (take (first_place image (Some t)) image) (concat (take k pieces)), length-take (first_place image (Some t)) image, open_inside image (Some t) file.opened) in
        ap (drop (feature_place image t pieces k)) bytes
        ∙ drop_at (take (first_place image (Some t)) image ++ concat (take k pieces)) (get_or pieces k [] ++ concat (drop (k + 1) pieces)) (feature_place image t pieces k) len

    -- the next one stands behind it
    pub next_there : feature_place image t pieces (k + 1) ≡ feature_place image t pieces k + 4 + size_at image (feature_place image t pieces k)
    next_there =
        let sized = sound.framed.sized in
        let size : size_at image (feature_place image t pieces k) ≡ number_at 4 (get_or pieces k []) 0 =
        sym (number_at-drop 4 (feature_place image t pieces k) image) ∙ ap (λ b. number_at 4 b 0) dropped
        ∙ number_at-append 4 (get_or pieces k []) (concat (drop (k + 1) pieces)) (omega (arith, sized)) in
        omega (arith, place_behind, sized, size)

  -- later ones stand farther on
  rise : (k n : ℕ) → k + n ≤ t.leaves → feature_place image t pieces k ≤ feature_place image t pieces (k + n)
  rise k zero within = let e : k ≡ k + 0 = omega arith in omega (arith, ap (feature_place image t pieces) e)
  rise k (suc n) within =
      let e : k + n + 1 ≡ k + suc n = omega arith in
      omega (arith, rise k n (omega arith), next_there (k + n) (omega arith), ap (feature_place image t pieces) e)

  module _ (first : ℕ) (begins : first ≡ first_place image (Some t)) where
    said_there : (h : Hit) (k : ℕ) → IsLeaf image t h k → place_said first h ≡ leaf_target image t k
    said_there h k is = omega (arith, begins, ap (λ (n : NodeItem). n.offset) is.item)

    stands_there : (h : Hit) (k : ℕ) → k < t.leaves → IsLeaf image t h k → place_said first h ≡ feature_place image t pieces k
    stands_there h k some is = said_there h k is ∙ target_there k some

    ends_there : (h : Hit) (k : ℕ) → k < t.leaves → IsLeaf image t h k → end_there image first h ≡ feature_place image t pieces (k + 1)
    ends_there h k some is = ap (λ n. n + 4 + size_at image n) (stands_there h k some is) ∙ sym (next_there k some)

    says_end : (h : Hit) (k : ℕ) → k < t.leaves → IsLeaf image t h k → TellsNext image t h → SaysEnd image first h
    says_end h k some is tells = λ next told.
        let behind = tells next told in
        let later : k + 1 < t.leaves = omega (arith, is.number, behind.0) in
        let there : leaf_target image t (k + 1) ≡ feature_place image t pieces (k + 1) = target_there (k + 1) later in
        let offset : next ≡ (leaf_in image t (k + 1)).offset = behind.1 ∙ ap (λ n. (leaf_in image t (n + 1)).offset) is.number in
        omega (arith, begins, offset, there, ends_there h k some is)

    below : (k : ℕ) (leaves : List ℕ) → Ascends (k + 1) t.leaves leaves → k < t.leaves
    below k [] rises = omega (arith, rises)
    below k (j ∷ leaves) rises = omega (arith, rises.0, below j leaves rises.1)

    pub leaves_laid : (hits : List Hit) (leaves : List ℕ) (low : ℕ) → Ascends low t.leaves leaves → AreLeaves image t hits leaves → AreLaid image first hits
    leaves_laid [] leaves low rises are = tt
    leaves_laid (h ∷ hits) [] low rises are = absurd are
    leaves_laid (h ∷ []) (k ∷ leaves) low rises are = says_end h k (below k leaves rises.1) are.0 are.1
    leaves_laid (h ∷ (g ∷ hits)) (k ∷ []) low rises are = absurd are.2
    leaves_laid (h ∷ (g ∷ hits)) (k ∷ (j ∷ leaves)) low rises are =
        let later : j < t.leaves = below j leaves rises.1.1 in
        let some : k < t.leaves = omega (arith, later, rises.1.0) in
        let e : k + 1 + (j - (k + 1)) ≡ j = omega (arith, rises.1.0) in (
          says_end h k some are.0 are.1,
          omega (arith, ends_there h k some are.0, stands_there g j later are.2.0, rise (k + 1) (j - (k + 1)) (omega (arith, rises.1.0, later)), ap (feature_place image t pieces) e),
          leaves_laid (g ∷ hits) (j ∷ leaves) (k + 1) rises.1 are.2,
        )

    pub leaves_positions : (hits : List Hit) (leaves : List ℕ) → AreLeaves image t hits leaves → hit_positions image first hits ≡ feature_positions image t leaves
    unfolding feature_positions
    leaves_positions [] [] are = refl
    leaves_positions [] (k ∷ leaves) are = absurd are
    leaves_positions (h ∷ hits) [] are = absurd are
    leaves_positions (h ∷ hits) (k ∷ leaves) are =
        ap (λ n. range_with_len n (4 + size_at image n) ++ hit_positions image first hits) (said_there h k are.0)
        ∙ ap (λ l. range_with_len (leaf_target image t k) (4 + size_at image (leaf_target image t k)) ++ l) (leaves_positions hits leaves are.2)
