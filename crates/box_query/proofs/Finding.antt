-- What a search and a scan find in a file that breaks no rule, and that they don't refuse it.
use Rattle.std.proofs.Common.{◌≡◌, ℕ, zero, suc, ◌+◌, ◌<◌, ◌≤◌, List, [], ◌∷◌, ◌++◌, length, map, Option, Some, None, refl, sym, ap, subst, ◌∙◌, arith, length-append}
use Rattle.std.specs.List.{concat, filter, range_with_len}
use Rattle.std.proofs.lemmas.List.{append-nil, append_assoc}
use Rattle.std.proofs.lemmas.List.Folds.{concat-append}
use Rattle.order_keys.specs.declared.bounds.Bounds.{Bounds}
use Rattle.flat_layout.specs.declared.Rule.{Rule}
use Rattle.flat_layout.specs.declared.Rule.TheVariants.{LeafBox, LeafOffset}
use Rattle.flat_layout.specs.declared.Broken.{Broken}
use Rattle.level_bounds.specs.Levels.{Shape, IsShape}
use Rattle.node_items.specs.Faults.{BreaksTree, no_box, not_first_child, not_around}
use Rattle.fgb_file.specs.File.{header_end, header_in, size_at, leaf_target, node_in, IsIndex, present, IsUnindexed, IsFile, BreaksFeature, BreaksLeaf, other_offset, other_box, BreaksUnit, in_feature, at_leaf, at_end, Unit, BreaksFirst}
use Rattle.fgb_outside.specs.Asked.{Ascends}
use Rattle.fgb_file.proofs.Passing.{file_sound, files_same, first_end, first_feature, passes_front}
use Rattle.fgb_file.proofs.Opening.{open_same}
use Rattle.box_list.specs.Lists.{meets_any}
use Rattle.tree_search.specs.Wanted.{passes, BreaksWanted, no_box as no_wanted_box, not_first_child as not_first_wanted, not_around as not_around_wanted}
use Rattle.found_features.specs.Entries.{Entry, found}
use Rattle.found_features.proofs.Entries.{found-append, found_behind}
use Rattle.feature_scan.specs.Scans.{whole, part, behind, at_end as at_count}
use Rattle.hit_reader.specs.Met.{entry_at, BreaksHit, leaf_past_end, leaf_order, in_feature as in_hit, unlike}
use Rattle.box_query.specs.Answers.{hit_leaves, met, Answers, scanned, searched, AnswersPart, scanned as scanned_part, searched as searched_part, Refuses, in_scan, at_node, at_leaf as at_hit}
use Rattle.box_query.proofs.Standing.{as_many, stands_at, piece_within, walk_there, size_there, target_is, found_from}
use Rattle.box_query.proofs.Rising.{ascends_in, hits_rise}
use Rattle.box_query.proofs.Scanning.{found_is_scan}

-- the piece of this number, among all
record Numbered (pieces : List (List ℕ)) (k : ℕ) : Type 0 where
  pub front : List (List ℕ)
  pub piece : List ℕ
  pub rest : List (List ℕ)
  pub split : pieces ≡ front ++ piece ∷ rest
  pub many : length front ≡ k

numbered : (pieces : List (List ℕ)) (k : ℕ) → k < length pieces → Numbered pieces k
numbered [] k there = absurd (omega (arith, there))
numbered (p ∷ ps) zero there = record { front = []; piece = p; rest = ps; split = refl; many = refl }
numbered (p ∷ ps) (suc k) there =
    let deep = numbered ps k (omega (arith, there)) in
    record { front = p ∷ deep.front; piece = deep.piece; rest = deep.rest; split = ap (λ xs. p ∷ xs) deep.split; many = omega (arith, deep.many) }

-- what a wanted node breaks a node breaks
wanted_breaks : (t : Shape) (image : List ℕ) (boxes : List Bounds) (at q : ℕ) (r : Rule) → BreaksWanted t (node_in image) (meets_any boxes) at q r → BreaksTree t (node_in image) at q r
wanted_breaks t image boxes at q r (no_wanted_box {k = k} {i = i} there wanted breaks) = no_box there breaks
wanted_breaks t image boxes at q r (not_first_wanted {k = k} {i = i} there wanted breaks) = not_first_child there breaks
wanted_breaks t image boxes at q r (not_around_wanted {k = k} {i = i} {c = c} there child wanted breaks) = not_around there child breaks

module _ (image : List ℕ) where
  -- ## With an index

  module _ (t : Shape) (pieces : List (List ℕ)) (file : IsFile image (Some t) pieces) (boxes : List Bounds) where
    is_shape : IsShape t
    is_shape = by_index file.opened.between
      where
        by_index : IsIndex image (Some t) → IsShape t
        by_index (present has tree) = tree.levels.shaped

    pub met_is_found : met image t boxes ≡ found (header_in image) boxes pieces
    met_is_found =
        ap (map (entry_at image t)) (found_is_scan t (node_in image) (header_end image) is_shape file.nodes boxes)
        ∙ ap (λ n. map (entry_at image t) (filter (passes t (node_in image) (meets_any boxes) 0) (range_with_len 0 n))) (sym (as_many image t pieces file))
        ∙ sym (found_from image t pieces file boxes pieces [] refl)

    hit_piece : (front : List ℕ) (k : ℕ) (rest : List ℕ) → hit_leaves image t boxes ≡ front ++ k ∷ rest → Numbered pieces k
    hit_piece front k rest is = numbered pieces k (let few : k < t.leaves = ascends_in 0 t.leaves front k rest (subst (Ascends 0 t.leaves) is (hits_rise image t boxes)) in omega (arith, few, as_many image t pieces file))

  -- a leaf that was found breaks nothing, nor does its feature
  module _ (t : Shape) (pieces : List (List ℕ)) (file : IsFile image (Some t) pieces) where
    unit_sound : (unit : Unit) (q : ℕ) (r : Rule) → BreaksUnit image unit q r → ⊥
    unit_sound unit q r broken = file_sound image file q r (record { unit = unit; broken = broken })

    node_sound : (boxes : List Bounds) (q : ℕ) (r : Rule) → BreaksWanted t (node_in image) (meets_any boxes) (header_end image) q r → ⊥
    node_sound boxes q r broken = file.nodes q r (wanted_breaks t image boxes (header_end image) q r broken)

    -- the feature of an earlier leaf ends in front of that of a later one
    in_order : (front : List (List ℕ)) (p : List ℕ) (between : List (List ℕ)) (q : List ℕ) (rest : List (List ℕ)) → pieces ≡ (front ++ p ∷ between) ++ q ∷ rest
        → leaf_target image t (length front) + 4 + size_at image (leaf_target image t (length front)) ≤ leaf_target image t (length (front ++ p ∷ between))
    in_order front p between q rest split =
        let earlier : pieces ≡ front ++ p ∷ (between ++ q ∷ rest) = split ∙ append_assoc front (p ∷ between) (q ∷ rest) in
        let target = target_is image t pieces file front p (between ++ q ∷ rest) earlier in
        let later = target_is image t pieces file (front ++ p ∷ between) q rest split in
        let size : 4 + size_at image (leaf_target image t (length front)) ≡ length p = ap (λ n. 4 + size_at image n) target ∙ size_there image t pieces file front p (between ++ q ∷ rest) earlier in
        omega (arith, target, later, size, ap length (concat-append front (p ∷ between)), length-append (concat front) (p ++ concat between), length-append p (concat between))

    -- where its box is judged, where it stands does not matter
    box_of_leaf : (k at place q : ℕ) (r : Rule) → r ≡ LeafBox → BreaksLeaf image t k at q r → BreaksLeaf image t k place q r
    box_of_leaf k at place q r is (other_offset other) = absurd (let e : LeafOffset ≡ LeafBox = is in cc)
    box_of_leaf k at place q r is (other_box framed clean other) = other_box framed clean other

    hit_sound : (ws : List (List ℕ)) (p : List ℕ) (rest : List (List ℕ)) → pieces ≡ ws ++ p ∷ rest → (q : ℕ) (r : Rule) → BreaksHit image t (length ws) q r → ⊥
    hit_sound ws p rest split q r (leaf_past_end past) =
        omega (arith, past, target_is image t pieces file ws p rest split, piece_within image t pieces file ws p rest split, size_there image t pieces file ws p rest split)
    hit_sound ws p rest split q r (leaf_order j earlier there past) =
        let n = numbered ws j earlier in
        let order : leaf_target image t (length n.front) + 4 + size_at image (leaf_target image t (length n.front)) ≤ leaf_target image t (length ws) =
        subst (λ xs. leaf_target image t (length n.front) + 4 + size_at image (leaf_target image t (length n.front)) ≤ leaf_target image t (length xs)) (sym n.split)
        (in_order n.front n.piece n.rest p rest (split ∙ ap (λ xs. xs ++ p ∷ rest) n.split)) in
        let here : leaf_target image t j + 4 + size_at image (leaf_target image t j) ≤ leaf_target image t (length ws) =
        subst (λ i. leaf_target image t i + 4 + size_at image (leaf_target image t i) ≤ leaf_target image t (length ws)) n.many order in
        omega (arith, past, here)
    hit_sound ws p rest split q r (in_hit {q = k} {r = rule} broken) =
        let at = stands_at image t pieces file ws p rest split in
        let early : at < length image = omega (arith, piece_within image t pieces file ws p rest split, size_there image t pieces file ws p rest split) in
        unit_sound _ k rule (in_feature file.opened (walk_there image t pieces file ws p rest split) early (subst (λ n. BreaksFeature image n k rule) (target_is image t pieces file ws p rest split) broken))
    hit_sound ws p rest split q r (unlike place {q = k} broken) =
        let at = stands_at image t pieces file ws p rest split in
        let early : at < length image = omega (arith, piece_within image t pieces file ws p rest split, size_there image t pieces file ws p rest split) in
        let few : length ws < t.leaves = omega (arith, as_many image t pieces file, ap length split, length-append ws (p ∷ rest)) in
        unit_sound _ k LeafBox (at_leaf file.opened (walk_there image t pieces file ws p rest split) early few (box_of_leaf (length ws) place at k LeafBox refl broken))

  -- ## Whichever it is

  pub all_found : (index : Option Shape) (pieces : List (List ℕ)) (boxes : List Bounds) (entries : List Entry) → IsFile image index pieces → Answers image boxes entries → entries ≡ found (header_in image) boxes pieces
  all_found index pieces boxes entries file (scanned (whole other)) = let same = files_same image other file in ap (found (header_in image) boxes) same.1
  all_found index pieces boxes entries file (searched {t = t} is) =
      let same : index ≡ Some t = open_same image file.opened is.opened in
      met_is_found t pieces (subst (λ i. IsFile image i pieces) same file) boxes

  pub part_found : (index : Option Shape) (pieces : List (List ℕ)) (boxes : List Bounds) (entries : List Entry) → IsFile image index pieces → AnswersPart image boxes entries
      → (rest : List Entry) × (entries ++ rest ≡ found (header_in image) boxes pieces)
  part_found index pieces boxes entries file (scanned_part (part {pieces = ws} {at = at} passes)) =
      let same : index ≡ None = open_same image file.opened passes.opened in
      let front = passes_front image (subst (λ i. IsFile image i pieces) same file) passes in
      (found_behind (header_in image) boxes ws front.0, sym (found-append (header_in image) boxes ws front.0) ∙ ap (found (header_in image) boxes) (sym front.1))
  part_found index pieces boxes entries file (searched_part {t = t} opened) =
      let same : index ≡ Some t = open_same image file.opened opened in
      ([], append-nil (met image t boxes) ∙ met_is_found t pieces (subst (λ i. IsFile image i pieces) same file) boxes)

  pub never_refused : (index : Option Shape) (pieces : List (List ℕ)) (boxes : List Bounds) (broken : Broken) (entries : List Entry) → IsFile image index pieces → Refuses image boxes broken entries → ⊥
  never_refused index pieces boxes broken entries file (in_scan (behind passes early breaks)) =
      file_sound image file broken.place broken.rule (record { unit = _; broken = in_feature passes.opened passes.walks early breaks })
  never_refused index pieces boxes broken entries file (in_scan (at_count passes breaks)) =
      file_sound image file broken.place broken.rule (record { unit = _; broken = at_end passes.opened passes.walks breaks })
  never_refused index pieces boxes broken entries file (at_node {t = t} opened breaks) =
      let same : index ≡ Some t = open_same image file.opened opened in
      node_sound t pieces (subst (λ i. IsFile image i pieces) same file) boxes broken.place broken.rule breaks
  never_refused index pieces boxes broken entries file (at_hit {t = t} front rest k opened is breaks) =
      let same : index ≡ Some t = open_same image file.opened opened in
      let here = subst (λ i. IsFile image i pieces) same file in
      let n = hit_piece t pieces here boxes front k rest is in
      hit_sound t pieces here n.front n.piece n.rest n.split broken.place broken.rule (subst (λ i. BreaksHit image t i broken.place broken.rule) (sym n.many) breaks)

  pub first_broken : (boxes : List Bounds) (broken : Broken) (entries : List Entry) → IsUnindexed image → Refuses image boxes broken entries → BreaksFirst image broken
  first_broken boxes broken entries unindexed (in_scan (behind passes early breaks)) = first_feature image passes early breaks
  first_broken boxes broken entries unindexed (in_scan (at_count passes breaks)) = first_end image passes breaks
  first_broken boxes broken entries unindexed (at_node {t = t} opened breaks) = let same : None ≡ Some t = open_same image unindexed opened in absurd (cc (same))
  first_broken boxes broken entries unindexed (at_hit {t = t} front rest k opened is breaks) = let same : None ≡ Some t = open_same image unindexed opened in absurd (cc (same))
