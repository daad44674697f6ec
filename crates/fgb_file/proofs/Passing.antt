-- How going through the features begins, goes on and ends, and which unit is the first broken one where it stops.
use Rattle.std.proofs.Common.{◌≡◌, ◌⊎◌, inl, inr, ⊎_elim, ℕ, ◌+◌, ◌*◌, ◌≤◌, ◌<◌, true, List, [], ◌∷◌, ◌++◌, length, get_or, drop, Option, Some, None, refl, sym, ap, subst, ◌∙◌, arith, length-drop}
use Rattle.std.specs.List.{AllByRecursion, concat}
use Rattle.std.proofs.lemmas.List.{append-nil, take_all, take_rest, get_or-take}
use Rattle.flat_layout.specs.declared.Rule.{Rule}
use Rattle.flat_layout.specs.declared.Broken.{Broken}
use Rattle.fgb_schema.specs.Paths.{feature_root}
use Rattle.fgb_schema.specs.Weights.{BreaksBuffer}
use Rattle.level_bounds.specs.Levels.{Shape}
use Rattle.node_items.specs.Faults.{BreaksTree}
use Rattle.fgb_schema.specs.Headers.{has_index}
use Rattle.fgb_schema.specs.Features.{feature_of, own_box}
use Rattle.fgb_file.specs.File.{header_end, header_in, told_count, size_at, buffer_at, IsStart, IsHeader, IsTree, IsIndex, IsOpen, absent, present, first_place, node_in, AreNodes, box_of, LeafAgrees, IsPiece, IsFeature, Walks, Agrees, untold, same, IsFile, IsFramed, BreaksFeature, BreaksLeaf, BreaksCount, too_few, too_many, Unit, the_start, the_header, the_index, the_feature, the_end, IsBefore, BreaksUnit, file_size, short, magic_byte, header_size_past, in_header, index_past_end, in_tree, in_feature, at_leaf, at_end, BreaksFile, BreaksFirst, IsValid, Passes}
use Rattle.fgb_file.proofs.Opening.{not_both, open_same, open_inside}
use Rattle.fgb_file.proofs.Leaves.{leaves_none, leaves_more, leaf_sound}
use Rattle.fgb_file.proofs.Units.{not_earlier, earlier_feature, same_unit}
use Rattle.fgb_file.proofs.Walk.{all-append, all-rest, framed_all, no_more, pieces_long, walk_start, piece_at, piece_buffer, piece_feature, walk_step, walk_offset, walk_front, walk_earlier, buffer_there, walk_passed, passed_one, passed_sound}

pub agrees_tells : {told n : ℕ} → Agrees told n → (told ≡ 0) ⊎ (told ≡ n)
agrees_tells untold = inl refl
agrees_tells same = inr refl

pub agrees_untold : {told n : ℕ} → told ≡ 0 → Agrees told n
agrees_untold {n = n} is = subst (λ t. Agrees t n) (sym is) untold

pub agrees_same : {told n : ℕ} → told ≡ n → Agrees told n
agrees_same {n = n} is = subst (λ t. Agrees t n) (sym is) same

module _ (image : List ℕ) where
  -- ## Going on

  -- no feature is passed yet
  pub passes_none : (index : Option Shape) → IsOpen image index → AreNodes image index → Passes image index [] (first_place image index)
  passes_none index opened nodes = record {
    opened = opened;
    nodes = nodes;
    walks = walk_start image (first_place image index) (open_inside image index opened);
    each = tt;
    leaves = leaves_none image index;
  }

  module _ {index : Option Shape} where
    -- one more feature, whose buffer breaks no rule, and whose leaf agrees with it
    pub passes_more : {pieces : List (List ℕ)} {at : ℕ} → Passes image index pieces at → IsFramed image at → ((q : ℕ) (r : Rule) → BreaksBuffer (buffer_at image at) (feature_root (header_in image)) q r → ⊥)
        → LeafAgrees image index (length pieces) (length (concat pieces)) (own_box (feature_of (header_in image) (buffer_at image at)))
        → Passes image index (pieces ++ piece_at image at ∷ []) (at + (4 + size_at image at))
    passes_more {pieces = pieces} {at = at} passes framed clean leaf = record {
      opened = passes.opened;
      nodes = passes.nodes;
      walks = walk_step image (first_place image index) pieces at passes.walks framed;
      each = all-append (IsFeature (header_in image)) pieces (piece_at image at ∷ []) passes.each (piece_feature image (header_in image) at framed clean, tt);
      leaves = leaves_more image index pieces (piece_at image at) passes.leaves
          (subst (λ b. LeafAgrees image index (length pieces) (length (concat pieces)) (own_box (feature_of (header_in image) b))) (sym (piece_buffer image at framed)) leaf);
    }

    -- at the end of the file, and in a number that the header allows, they are the whole file
    pub passes_file : {pieces : List (List ℕ)} {at : ℕ} → Passes image index pieces at → length image ≤ at → Agrees (told_count image) (length pieces) → IsFile image index pieces
    passes_file {at = at} passes end counted = record {
      opened = passes.opened;
      nodes = passes.nodes;
      whole = sym (take_all at image end) ∙ passes.walks.front;
      each = passes.each;
      leaves = passes.leaves;
      counted = counted;
    }

    -- they came to the end of the file
    pub passes_end : {pieces : List (List ℕ)} {at : ℕ} → Passes image index pieces at → length image ≤ at → Passes image index pieces (length image)
    passes_end {pieces = pieces} {at = at} passes end = subst (λ n. Passes image index pieces n) (let e : at ≡ length image = omega (arith, end, passes.walks.within) in e) passes

    -- they lie between the first feature and the place
    pub passes_offset : {pieces : List (List ℕ)} {at : ℕ} → Passes image index pieces at → first_place image index + length (concat pieces) ≡ at
    passes_offset {pieces = pieces} {at = at} passes = walk_offset image (first_place image index) pieces at passes.walks

    -- each takes four bytes at least
    pub passes_counted : {pieces : List (List ℕ)} {at : ℕ} → Passes image index pieces at → 4 * length pieces ≤ at
    passes_counted {pieces = pieces} passes = omega (arith, passes_offset passes, pieces_long pieces passes.walks.each)

    -- a whole file passes all its features
    pub file_passes : {fs : List (List ℕ)} → IsFile image index fs → Passes image index fs (length image)
    file_passes {fs = fs} file = record {
      opened = file.opened;
      nodes = file.nodes;
      walks = record {
        front = take_all (length image) image (omega arith) ∙ file.whole;
        above = open_inside image index file.opened;
        within = omega arith;
        each = framed_all (header_in image) fs file.each;
      };
      each = file.each;
      leaves = file.leaves;
    }

    -- what was passed is a front of the file's features
    pub passes_front : {fs ws : List (List ℕ)} {at : ℕ} → IsFile image index fs → Passes image index ws at → (rest : List (List ℕ)) × (fs ≡ ws ++ rest) × (concat rest ≡ drop at image)
    passes_front {fs = fs} {ws = ws} {at = at} file passes =
        let front = walk_front image (first_place image index) fs ws (length image) at (file_passes file).walks passes.walks passes.walks.within in
        (front.0, front.1, front.2 ∙ take_rest image at)

  -- ## Units that break nothing

  pub start_clean : IsStart image → (q : ℕ) (r : Rule) → BreaksUnit image the_start q r → ⊥
  start_clean start q r (file_size long) = omega (arith, long, start.sized.short)
  start_clean start q r (short few) = omega (arith, few, start.sized.long)
  start_clean start q r (magic_byte {q = k} sized differs) = differs.other (sym (get_or-take 7 image k 0 differs.early) ∙ ap (λ s. get_or s k 0) start.magic)
  start_clean start q r (header_size_past sized is wrong) = ⊎_elim (λ large. omega (arith, large, start.small)) (λ past. omega (arith, past, start.inside)) wrong

  pub header_clean : IsHeader image → (q : ℕ) (r : Rule) → BreaksUnit image the_header q r → ⊥
  header_clean header q r (in_header {q = k} {r = rule} start broken) = header.clean k rule broken

  -- the file has an index, and no tree fits into it
  pub no_tree : (index : Option Shape) → IsOpen image index → has_index (header_in image) ≡ true → ((t : Shape) → IsTree image t → ⊥) → ⊥
  no_tree index opened has none = by_index index opened.between
    where
      by_index : (index : Option Shape) → IsIndex image index → ⊥
      by_index None (absent absence) = not_both image has absence
      by_index (Some t) (present presence tree) = none t tree

  tree_clean : (index : Option Shape) (t : Shape) → AreNodes image index → Some t ≡ index → (q : ℕ) (r : Rule) → BreaksTree t (node_in image) (header_end image) q r → ⊥
  tree_clean index t nodes is = subst (AreNodes image) (sym is) nodes

  pub index_clean : (index : Option Shape) → IsOpen image index → AreNodes image index → (q : ℕ) (r : Rule) → BreaksUnit image the_index q r → ⊥
  index_clean index opened nodes q r (index_past_end header has none) = no_tree index opened has none
  index_clean index opened nodes q r (in_tree {t = t} {q = p} {r = rule} other broken) = tree_clean index t nodes (open_same image other opened) p rule broken

  -- where a walk came to a place in front of what was passed, neither the feature there nor its leaf breaks a rule
  module _ (index : Option Shape) (pieces : List (List ℕ)) (at : ℕ) (passes : Passes image index pieces at) where
    passed_feature : (other : Option Shape) (ws : List (List ℕ)) (place : ℕ) → IsOpen image other → Walks image (first_place image other) ws place → place < at
        → (q : ℕ) (r : Rule) → BreaksFeature image place q r → ⊥
    passed_feature other ws place opened walk early =
        let walk_here = subst (λ i. Walks image (first_place image i) ws place) (open_same image opened passes.opened) walk in
        passed_sound image (first_place image index) pieces ws at place passes.walks passes.each walk_here early

    passed_leaf : (t : Shape) (ws : List (List ℕ)) (place : ℕ) → IsOpen image (Some t) → Walks image (first_place image (Some t)) ws place → place < at → length ws < t.leaves
        → (q : ℕ) (r : Rule) → BreaksLeaf image t (length ws) place q r → ⊥
    passed_leaf t ws place opened walk early some =
        let same_index = open_same image opened passes.opened in
        let walk_here = subst (λ i. Walks image (first_place image i) ws place) same_index walk in
        let passed = walk_passed image (first_place image index) pieces ws at place passes.walks walk_here early in
        let framed = passed_one image IsPiece passes.walks.each passed in
        let agrees = subst (λ i. LeafAgrees image i (length ws) (length (concat ws)) (box_of (header_in image) passed.piece)) (sym same_index) (passes.leaves ws passed.piece passed.rest passed.split) in
        leaf_sound image t (length ws) place (length (concat ws)) (box_of (header_in image) passed.piece) (walk_offset image (first_place image (Some t)) ws place walk)
        (ap (λ b. own_box (feature_of (header_in image) b)) (buffer_there image place passed.piece passed.after passed.stands framed)) some agrees

    walk_before : (other : Option Shape) (ws : List (List ℕ)) (place : ℕ) → IsOpen image other → Walks image (first_place image other) ws place → length ws < length pieces → place < at
    walk_before other ws place opened walk fewer =
        walk_earlier image (first_place image index) pieces ws at place passes.walks (subst (λ i. Walks image (first_place image i) ws place) (open_same image opened passes.opened) walk) fewer

    -- a feature that was passed
    pub feature_clean : (k : ℕ) → k < length pieces → (q : ℕ) (r : Rule) → BreaksUnit image (the_feature k) q r → ⊥
    feature_clean k earlier q r (in_feature {index = other} {pieces = ws} {at = place} {q = p} {r = rule} opened walk early broken) =
        passed_feature other ws place opened walk (walk_before other ws place opened walk earlier) p rule broken
    feature_clean k earlier q r (at_leaf {t = t} {pieces = ws} {at = place} {q = p} {r = rule} opened walk early some broken) =
        passed_leaf t ws place opened walk (walk_before (Some t) ws place opened walk earlier) some p rule broken

  -- any feature, where all were passed
  all_clean : (index : Option Shape) (pieces : List (List ℕ)) (k : ℕ) → Passes image index pieces (length image) → (q : ℕ) (r : Rule) → BreaksUnit image (the_feature k) q r → ⊥
  all_clean index pieces k passes q r (in_feature {index = other} {pieces = ws} {at = place} {q = p} {r = rule} opened walk early broken) =
      passed_feature index pieces (length image) passes other ws place opened walk early p rule broken
  all_clean index pieces k passes q r (at_leaf {t = t} {pieces = ws} {at = place} {q = p} {r = rule} opened walk early some broken) =
      passed_leaf index pieces (length image) passes t ws place opened walk early some p rule broken

  -- ## The first broken unit

  -- nothing is broken in a unit in front of this one
  abbrev IsFirst : Unit → Type 0
  IsFirst unit = (before : Unit) → IsBefore before unit → (q : ℕ) (r : Rule) → BreaksUnit image before q r → ⊥

  none_before_start : IsFirst the_start
  none_before_start before is = absurd (not_earlier before the_start is (omega arith) (omega arith))

  none_before_header : IsStart image → IsFirst the_header
  none_before_header start the_start is = start_clean start
  none_before_header start the_header is = absurd (not_earlier the_header the_header is (omega arith) (omega arith))
  none_before_header start the_index is = absurd (not_earlier the_index the_header is (omega arith) (omega arith))
  none_before_header start (the_feature k) is = absurd (not_earlier (the_feature k) the_header is (omega arith) (omega arith))
  none_before_header start the_end is = absurd (not_earlier the_end the_header is (omega arith) (omega arith))

  none_before_index : IsHeader image → IsFirst the_index
  none_before_index header the_start is = start_clean header.start
  none_before_index header the_header is = header_clean header
  none_before_index header the_index is = absurd (not_earlier the_index the_index is (omega arith) (omega arith))
  none_before_index header (the_feature k) is = absurd (not_earlier (the_feature k) the_index is (omega arith) (omega arith))
  none_before_index header the_end is = absurd (not_earlier the_end the_index is (omega arith) (omega arith))

  none_before_feature : (index : Option Shape) (pieces : List (List ℕ)) (at : ℕ) → Passes image index pieces at → IsFirst (the_feature (length pieces))
  none_before_feature index pieces at passes the_start is = start_clean passes.opened.header.start
  none_before_feature index pieces at passes the_header is = header_clean passes.opened.header
  none_before_feature index pieces at passes the_index is = index_clean index passes.opened passes.nodes
  none_before_feature index pieces at passes (the_feature k) is = feature_clean index pieces at passes k (earlier_feature k (length pieces) is)
  none_before_feature index pieces at passes the_end is = absurd (not_earlier the_end (the_feature (length pieces)) is (omega arith) (omega arith))

  none_before_end : (index : Option Shape) (pieces : List (List ℕ)) → Passes image index pieces (length image) → IsFirst the_end
  none_before_end index pieces passes the_start is = start_clean passes.opened.header.start
  none_before_end index pieces passes the_header is = header_clean passes.opened.header
  none_before_end index pieces passes the_index is = index_clean index passes.opened passes.nodes
  none_before_end index pieces passes (the_feature k) is = all_clean index pieces k passes
  none_before_end index pieces passes the_end is = absurd (not_earlier the_end the_end is (omega arith) (omega arith))

  pub first_start : {q : ℕ} {r : Rule} → BreaksUnit image the_start q r → BreaksFirst image (record { place = q; rule = r })
  first_start broken = record { unit = the_start; broken = broken; first = none_before_start }

  pub first_header : {q : ℕ} {r : Rule} → IsStart image → BreaksUnit image the_header q r → BreaksFirst image (record { place = q; rule = r })
  first_header start broken = record { unit = the_header; broken = broken; first = none_before_header start }

  pub first_index : {q : ℕ} {r : Rule} → IsHeader image → BreaksUnit image the_index q r → BreaksFirst image (record { place = q; rule = r })
  first_index header broken = record { unit = the_index; broken = broken; first = none_before_index header }

  -- a refusal of a node
  pub first_tree : {t : Shape} {e : Broken} → IsOpen image (Some t) → BreaksTree t (node_in image) (header_end image) e.place e.rule → BreaksFirst image e
  first_tree opened broken = first_index opened.header (in_tree opened broken)

  module _ {index : Option Shape} {pieces : List (List ℕ)} where
    pub first_feature : {at q : ℕ} {r : Rule} → Passes image index pieces at → at < length image → BreaksFeature image at q r → BreaksFirst image (record { place = q; rule = r })
    first_feature {at = at} passes early broken = record {
      unit = the_feature (length pieces);
      broken = in_feature passes.opened passes.walks early broken;
      first = none_before_feature index pieces at passes;
    }

    pub first_end : {q : ℕ} {r : Rule} → Passes image index pieces (length image) → BreaksCount image (first_place image index) pieces q r → BreaksFirst image (record { place = q; rule = r })
    first_end passes broken = record {
      unit = the_end;
      broken = at_end passes.opened passes.walks broken;
      first = none_before_end index pieces passes;
    }

  -- a refusal of a leaf
  pub first_leaf : {t : Shape} {pieces : List (List ℕ)} {at q : ℕ} {r : Rule} → Passes image (Some t) pieces at → at < length image → length pieces < t.leaves → BreaksLeaf image t (length pieces) at q r
      → BreaksFirst image (record { place = q; rule = r })
  first_leaf {t = t} {pieces = pieces} {at = at} passes early some broken = record {
    unit = the_feature (length pieces);
    broken = at_leaf passes.opened passes.walks early some broken;
    first = none_before_feature (Some t) pieces at passes;
  }

  pub first_breaks : {e : Broken} → BreaksFirst image e → BreaksFile image e.place e.rule
  first_breaks is = record { unit = is.unit; broken = is.broken }

  pub first_invalid : {e : Broken} → BreaksFirst image e → IsValid image → ⊥
  first_invalid {e = e} is valid = valid e.place e.rule (first_breaks is)

  -- there is one such unit
  pub first_same : {e f : Broken} → (a : BreaksFirst image e) (b : BreaksFirst image f) → a.unit ≡ b.unit
  first_same {e = e} {f = f} a b = same_unit a.unit b.unit
      (λ before. b.first a.unit before e.place e.rule a.broken)
      (λ behind. a.first b.unit behind f.place f.rule b.broken)

  -- ## Whole files

  -- a walk to the end has passed all of the file's features
  walked_all : (index other : Option Shape) (fs ws : List (List ℕ)) → IsFile image index fs → IsOpen image other → Walks image (first_place image other) ws (length image) → fs ≡ ws
  walked_all index other fs ws file opened walk =
      let passes = file_passes file in
      let walk_here = subst (λ i. Walks image (first_place image i) ws (length image)) (open_same image opened file.opened) walk in
      let front = walk_front image (first_place image index) fs ws (length image) (length image) passes.walks walk_here (omega arith) in
      let empty = no_more front.0 (all-rest IsPiece ws front.0 (subst (λ xs. AllByRecursion IsPiece xs) front.1 passes.walks.each))
      (omega (arith, ap length (front.2 ∙ take_rest image (length image)), length-drop (length image) image)) in
      front.1 ∙ ap (λ xs. ws ++ xs) empty ∙ append-nil ws

  -- a file has one index, or none, and one list of features
  pub files_same : {i j : Option Shape} {fs gs : List (List ℕ)} → IsFile image i fs → IsFile image j gs → (i ≡ j) × (fs ≡ gs)
  files_same {i = i} {j = j} {fs = fs} {gs = gs} file other = (open_same image file.opened other.opened, walked_all i j fs gs file other.opened (file_passes other).walks)

  -- its number agrees with the header
  count_clean : (index : Option Shape) (fs : List (List ℕ)) → IsFile image index fs → (q : ℕ) (r : Rule) → BreaksUnit image the_end q r → ⊥
  count_clean index fs file q r (at_end {index = other} {pieces = ws} {q = k} {r = rule} opened walk broken) = by_count k rule broken
    where
      many : length fs ≡ length ws
      many = ap length (walked_all index other fs ws file opened walk)

      by_count : (q : ℕ) (r : Rule) → BreaksCount image (first_place image other) ws q r → ⊥
      by_count q r (too_few few) = elim (agrees_tells file.counted) [
        | inl none ↦ omega (arith, none, few)
        | inr all ↦ omega (arith, all, few, many)
      ]
      by_count q r (too_many told few) = elim (agrees_tells file.counted) [
        | inl none ↦ omega (arith, none, told)
        | inr all ↦ omega (arith, all, few, many)
      ]

  -- a whole file breaks no rule anywhere
  pub file_sound : {index : Option Shape} {fs : List (List ℕ)} → IsFile image index fs → (q : ℕ) (r : Rule) → BreaksFile image q r → ⊥
  file_sound {index = index} {fs = fs} file q r breaks = in_unit breaks.unit breaks.broken
    where
      in_unit : (unit : Unit) → BreaksUnit image unit q r → ⊥
      in_unit the_start broken = start_clean file.opened.header.start q r broken
      in_unit the_header broken = header_clean file.opened.header q r broken
      in_unit the_index broken = index_clean index file.opened file.nodes q r broken
      in_unit (the_feature k) broken = all_clean index fs k (file_passes file) q r broken
      in_unit the_end broken = count_clean index fs file q r broken
