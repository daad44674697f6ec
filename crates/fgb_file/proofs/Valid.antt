-- A file in which no unit is the first broken one is the start, the header, the index and features.
use Rattle.std.proofs.Common.{◌≡◌, ◌≢◌, ◌⊎◌, inl, inr, ⊎_elim, ℕ, zero, suc, ◌+◌, ◌-◌, ◌^◌, ◌≤◌, ◌<◌, List, [], ◌∷◌, ◌++◌, length, get_or, take, Option, Some, None, refl, sym, ap, subst, ◌∙◌, true, false, ◌*◌, arith}
use Rattle.std.proofs.lemmas.Bool.{cases_Bool, cases_lt, cases_eq}
use Rattle.std.specs.List.{concat}
use Rattle.flat_layout.specs.declared.Rule.{Rule}
use Rattle.flat_layout.specs.declared.Broken.{Broken}
use Rattle.flat_layout.specs.Promises.{IsClean}
use Rattle.order_keys.specs.Boxes.{same as same_box}
use Rattle.level_bounds.specs.Levels.{Shape, IsShape, node_count}
use Rattle.level_bounds.specs.Cut.{up_to}
use Rattle.level_bounds.proofs.Widths.{root_at, is_shape}
use Rattle.fgb_schema.specs.Headers.{has_index}
use Rattle.fgb_schema.specs.Paths.{feature_root}
use Rattle.fgb_schema.specs.Weights.{BreaksBuffer}
use Rattle.fgb_schema.specs.Features.{feature_of, own_box}
use Rattle.fgb_file.specs.File.{magic, header_size, header_end, header_in, told_count, size_at, buffer_at, IsSized, IsStart, IsHeader, IsTree, IsOpen, absent, present, first_place, AreNodes, leaf_in, leaf_target, LeafAgrees, Agrees, IsFile, IsFramed, past_end, too_large, BreaksFeature, in_prefix, in_buffer, BreaksLeaf, other_offset, other_box, too_few, too_many, BreaksUnit, the_start, the_index, file_size, short, magic_byte, header_size_past, in_header, index_past_end, in_tree, BreaksFirst, IsValid, Passes}
use Rattle.fgb_file.proofs.Walk.{piece_at}
use Rattle.fgb_file.proofs.Opening.{shape_same}
use Rattle.fgb_file.proofs.Passing.{passes_none, passes_more, passes_end, passes_offset, agrees_untold, agrees_same, passes_file, first_start, first_header, first_index, first_leaf, first_feature, first_end, first_invalid, file_sound}

-- the first place where two lists differ
first_other : (xs ys : List ℕ) → length ys ≤ length xs
    → (take (length ys) xs ≡ ys) ⊎ ((q : ℕ) × (q < length ys) × (take q xs ≡ take q ys) × (get_or xs q 0 ≢ get_or ys q 0))
first_other xs [] le = inl refl
first_other [] (y ∷ ys) le = absurd (omega arith)
first_other (x ∷ xs) (y ∷ ys) le = elim (cases_eq x y) [
  | inl equal ↦ ⊎_elim
      (λ all. inl (ap (λ z. z ∷ take (length ys) xs) equal ∙ ap (λ zs. y ∷ zs) all))
      (λ w. inr (suc w.0, let h : suc w.0 < suc (length ys) = omega (arith, w.1) in h, ap (λ z. z ∷ take w.0 xs) equal ∙ ap (λ zs. y ∷ zs) w.2, w.3))
      (first_other xs ys (omega arith))
  | inr other ↦ inr (0, let h : 0 < suc (length ys) = omega arith in h, refl, other)
]

-- a number agrees with the header, or is too small, or too large where the header says one
agrees_cases : (told n : ℕ) → (n < told) ⊎ ((0 < told) × (told < n)) ⊎ Agrees told n
agrees_cases zero n = inr (inr (agrees_untold refl))
agrees_cases (suc k) n = elim (cases_lt n (suc k)) [
  | inl few ↦ inl few
  | inr le ↦ elim (cases_lt (suc k) n) [
    | inl many ↦ inr (inl (omega arith, many))
    | inr ge ↦ inr (inr (agrees_same (omega arith)))
  ]
]

-- such a tree fits into the file, or none does
tree_or_none : (image : List ℕ) → ((t : Shape) × IsTree image t) ⊎ ((t : Shape) → IsTree image t → ⊥)
tree_or_none image = elim (cases_lt (told_count image) 1) [
  | inl none ↦ inr (λ t tree. omega (arith, none, tree.levels.shaped.some, tree.levels.leaves))
  | inr some ↦ elim (cases_lt (header_in image).node_size 2) [
    | inl narrow ↦ inr (λ t tree. omega (arith, narrow, tree.levels.shaped.wide, tree.levels.sized))
    | inr wide ↦
        let root = root_at (told_count image) (header_in image).node_size some wide 1 in
        let shape : Shape = up_to (told_count image) (header_in image).node_size root.top in
        let shaped : IsShape shape = is_shape (told_count image) (header_in image).node_size 1 some wide (omega arith) (λ l from under. absurd (omega (arith, from, under))) root in
        let same : (t : Shape) → IsTree image t → node_count t ≡ node_count shape = λ t tree. ap node_count (shape_same t shape tree.levels.shaped shaped tree.levels.leaves tree.levels.sized) in
        elim (cases_lt (2 ^ 48) (40 * node_count shape)) [
          | inl large ↦ inr (λ t tree. omega (arith, large, tree.levels.fits, same t tree))
          | inr fits ↦ elim (cases_lt (length image) (header_end image + 40 * node_count shape)) [
            | inl past ↦ inr (λ t tree. omega (arith, past, tree.inside, same t tree))
            | inr inside ↦ inl (shape, record { levels = record { shaped = shaped; leaves = refl; sized = refl; fits = fits }; inside = inside })
          ]
        ]
  ]
]

module _ (image : List ℕ) (unbroken : (e : Broken) → BreaksFirst image e → ⊥) where
  start_sound : (q : ℕ) (r : Rule) → BreaksUnit image the_start q r → ⊥
  start_sound q r broken = unbroken (record { place = q; rule = r }) (first_start image broken)

  sized : IsSized image
  sized = record {
    short = ⊎_elim (λ long. absurd (start_sound 0 _ (file_size long))) (λ le. le) (cases_lt (2 ^ 48) (length image));
    long = ⊎_elim (λ few. absurd (start_sound (length image) _ (short few))) (λ le. le) (cases_lt (length image) 12);
  }

  is_magic : take 7 image ≡ magic
  is_magic = ⊎_elim (λ all. all)
      (λ w. absurd (start_sound w.0 _ (magic_byte sized (record { early = w.1; same = w.2; other = w.3 }))))
      (first_other image magic (let h : 7 ≤ length image = omega (arith, sized.long) in h))

  start : IsStart image
  start = record {
    sized = sized;
    magic = is_magic;
    small = ⊎_elim (λ large. absurd (start_sound 8 _ (header_size_past sized is_magic (inl large)))) (λ le. le) (cases_lt 10485760 (header_size image));
    inside = ⊎_elim (λ past. absurd (start_sound 8 _ (header_size_past sized is_magic (inr past)))) (λ le. le) (cases_lt (length image) (header_end image));
  }

  header : IsHeader image
  header = record { start = start; clean = λ q r broken. unbroken (record { place = 12 + q; rule = r }) (first_header image start (in_header start broken)) }

  index_sound : (q : ℕ) (r : Rule) → BreaksUnit image the_index q r → ⊥
  index_sound q r broken = unbroken (record { place = q; rule = r }) (first_index image header broken)

  -- what stands between the header and the features
  opening : (index : Option Shape) × IsOpen image index
  opening = elim (cases_Bool (has_index (header_in image))) [
    | inl has ↦ ⊎_elim
        (λ tree. (Some tree.0, record { header = header; between = present has tree.1 }))
        (λ none. absurd (index_sound (header_end image) _ (index_past_end header has none)))
        (tree_or_none image)
    | inr none ↦ (None, record { header = header; between = absent none })
  ]

  nodes_sound : (index : Option Shape) → IsOpen image index → AreNodes image index
  nodes_sound None opened = tt
  nodes_sound (Some t) opened = λ q r broken. index_sound q r (in_tree opened broken)

  module _ (index : Option Shape) where
    -- the feature where going on stands is framed and sound
    next_sound : (ws : List (List ℕ)) (at : ℕ) → Passes image index ws at → at < length image → (q : ℕ) (r : Rule) → BreaksFeature image at q r → ⊥
    next_sound ws at passes early q r broken = unbroken (record { place = q; rule = r }) (first_feature image passes early broken)

    next_framed : (ws : List (List ℕ)) (at : ℕ) → Passes image index ws at → at < length image → IsFramed image at
    next_framed ws at passes early =
        let fits : at + 4 + size_at image at ≤ length image =
        ⊎_elim (λ long. absurd (next_sound ws at passes early at _ (in_prefix (past_end long)))) (λ le. le) (cases_lt (length image) (at + 4 + size_at image at)) in
        record {
          fits = fits;
          small = ⊎_elim (λ large. absurd (next_sound ws at passes early at _ (in_prefix (too_large (omega arith) large)))) (λ le. le) (cases_lt 268435456 (size_at image at));
        }

    -- at the end their number agrees
    whole : (ws : List (List ℕ)) → Passes image index ws (length image) → (fs : List (List ℕ)) × IsFile image index fs
    whole ws passes = elim (agrees_cases (told_count image) (length ws)) [
      | inl few ↦ absurd (unbroken _ (first_end image passes (too_few few)))
      | inr (inl many) ↦ absurd (unbroken _ (first_end image passes (too_many many.0 many.1)))
      | inr (inr agrees) ↦ (ws, passes_file image passes (omega arith) agrees)
    ]

  -- its leaf agrees with it
  module _ (t : Shape) (ws : List (List ℕ)) (at : ℕ) (passes : Passes image (Some t) ws at) (early : at < length image) (some : length ws < t.leaves) where
    leaf_sound : (q : ℕ) (r : Rule) → BreaksLeaf image t (length ws) at q r → ⊥
    leaf_sound q r broken = unbroken (record { place = q; rule = r }) (first_leaf image passes early some broken)

    target_same : leaf_target image t (length ws) ≡ at
    target_same = ⊎_elim (λ equal. equal) (λ other. absurd (leaf_sound _ _ (other_offset other))) (cases_eq (leaf_target image t (length ws)) at)

    offset_same : (leaf_in image t (length ws)).offset ≡ length (concat ws)
    offset_same = omega (arith, target_same, passes_offset image passes)

    box_same : IsFramed image at → IsClean (BreaksBuffer (buffer_at image at) (feature_root (header_in image)))
        → same_box (leaf_in image t (length ws)).bounds (own_box (feature_of (header_in image) (buffer_at image at))) ≡ true
    box_same framed clean = at_target (leaf_target image t (length ws)) refl target_same
      where
        at_target : (p : ℕ) → p ≡ leaf_target image t (length ws) → p ≡ at → same_box (leaf_in image t (length ws)).bounds (own_box (feature_of (header_in image) (buffer_at image at))) ≡ true
        at_target p is here = elim (cases_Bool (same_box (leaf_in image t (length ws)).bounds (own_box (feature_of (header_in image) (buffer_at image at))))) [
          | inl equal ↦ equal
          | inr other ↦ absurd (leaf_sound _ _ (other_box
              (subst (IsFramed image) (sym target_same) framed)
              (subst (λ n. IsClean (BreaksBuffer (buffer_at image n) (feature_root (header_in image)))) (sym target_same) clean)
              (subst (λ n. same_box (leaf_in image t (length ws)).bounds (own_box (feature_of (header_in image) (buffer_at image n))) ≡ false) (sym target_same) other)))
        ]

  leaf_agrees : (index : Option Shape) (ws : List (List ℕ)) (at : ℕ) → Passes image index ws at → at < length image → IsFramed image at → IsClean (BreaksBuffer (buffer_at image at) (feature_root (header_in image)))
      → LeafAgrees image index (length ws) (length (concat ws)) (own_box (feature_of (header_in image) (buffer_at image at)))
  leaf_agrees None ws at passes early framed clean = tt
  leaf_agrees (Some t) ws at passes early framed clean = λ some. (offset_same t ws at passes early some, box_same t ws at passes early some framed clean)

  go_on : (index : Option Shape) (fuel : ℕ) (ws : List (List ℕ)) (at : ℕ) → Passes image index ws at → length image - at ≤ fuel → (fs : List (List ℕ)) × IsFile image index fs
  go_on index zero ws at passes le = whole index ws (passes_end image passes (omega arith))
  go_on index (suc fuel) ws at passes le = elim (cases_lt at (length image)) [
    | inl early ↦
        let framed = next_framed index ws at passes early in
        let clean : IsClean (BreaksBuffer (buffer_at image at) (feature_root (header_in image))) = λ q r broken. next_sound index ws at passes early (at + 4 + q) r (in_buffer framed broken) in
        go_on index fuel (ws ++ piece_at image at ∷ []) (at + (4 + size_at image at))
        (passes_more image passes framed clean (leaf_agrees index ws at passes early framed clean))
        (omega (arith, le, early))
    | inr end ↦ whole index ws (passes_end image passes end)
  ]

  pub unbroken_file : (index : Option Shape) × (fs : List (List ℕ)) × IsFile image index fs
  unbroken_file =
      let file = go_on opening.0 (length image) [] (first_place image opening.0) (passes_none image opening.0 opening.1 (nodes_sound opening.0 opening.1)) (omega arith) in
      (opening.0, file.0, file.1)

module _ (image : List ℕ) where
  pub valid_file : IsValid image → (index : Option Shape) × (fs : List (List ℕ)) × IsFile image index fs
  valid_file valid = unbroken_file image (λ e first. first_invalid image first valid)

  pub unbroken_valid : ((e : Broken) → BreaksFirst image e → ⊥) → IsValid image
  unbroken_valid unbroken = let file = unbroken_file image unbroken in file_sound image file.2
