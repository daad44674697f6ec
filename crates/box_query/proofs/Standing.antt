-- In a file that breaks no rule each leaf says where its feature stands, and features stand one behind the other.
use Rattle.std.proofs.Common.{◌≡◌, ℕ, ◌+◌, ◌≤◌, ◌<◌, Bool, true, false, List, [], ◌∷◌, ◌++◌, length, map, take, drop, slice_range, Some, inl, inr, refl, sym, ap, subst, ◌∙◌, arith, length-append, length-take}
use Rattle.std.specs.Prelude.{cond}
use Rattle.std.specs.List.{AllByRecursion, concat, filter, range_with_len}
use Rattle.std.proofs.lemmas.List.{append_assoc, drop_at, take_at}
use Rattle.std.proofs.lemmas.List.Folds.{concat-append}
use Rattle.order_keys.specs.declared.bounds.Bounds.{Bounds}
use Rattle.level_bounds.specs.Levels.{Shape}
use Rattle.fgb_schema.specs.Features.{feature_of, own_box}
use Rattle.fgb_file.specs.File.{header_in, size_at, buffer_at, IsIndex, present, first_place, leaf_in, leaf_target, node_in, box_of, IsPiece, Walks, IsFile}
use Rattle.flat_layout.specs.Layout.{number_at}
use Rattle.fgb_file.proofs.Bytes.{number_at-append, number_at-drop}
use Rattle.fgb_file.proofs.Passing.{agrees_tells}
use Rattle.fgb_file.proofs.Walk.{all-rest, framed_all, buffer_there}
use Rattle.fgb_file.proofs.Opening.{open_inside}
use Rattle.box_list.specs.Lists.{meets_any}
use Rattle.tree_search.specs.Wanted.{passes}
use Rattle.found_features.specs.Entries.{Entry, entries}
use Rattle.hit_reader.specs.Met.{entry_at}
use Rattle.box_query.proofs.Alike.{any_same_box}

all-front : {X : Type 0} (P : X → Type 0) (xs ys : List X) → AllByRecursion P (xs ++ ys) → AllByRecursion P xs
all-front P [] ys all = tt
all-front P (x ∷ xs) ys all = (all.0, all-front P xs ys all.1)

entry_same : (e f : Entry) → e.number ≡ f.number → e.offset ≡ f.offset → e.buffer ≡ f.buffer → e.own ≡ f.own → e ≡ f
entry_same e f number offset buffer own =
    let make : ℕ → ℕ → List ℕ → Bounds → Entry = λ n o b w. record { number = n; offset = o; buffer = b; own = w } in
    ap (λ n. make n e.offset e.buffer e.own) number ∙ ap (λ o. make f.number o e.buffer e.own) offset ∙ ap (λ b. make f.number f.offset b e.own) buffer ∙ ap (make f.number f.offset f.buffer) own

-- one more in front, which is found where its number is
one_more : (f : ℕ → Entry) (hit : ℕ → Bool) (e : Entry) (n : ℕ) (es : List Entry) (ns : List ℕ) (b : Bool) → e ≡ f n → b ≡ hit n → es ≡ map f (filter hit ns)
    → cond b (e ∷ es) es ≡ map f (filter hit (n ∷ ns))
one_more f hit e n es ns true is found rest = ap (λ x. x ∷ es) is ∙ ap (λ xs. f n ∷ xs) rest ∙ ap (λ b. map f (cond b (n ∷ filter hit ns) (filter hit ns))) found
one_more f hit e n es ns false is found rest = rest ∙ ap (λ b. map f (cond b (n ∷ filter hit ns) (filter hit ns))) found

module _ (image : List ℕ) (t : Shape) (pieces : List (List ℕ)) (file : IsFile image (Some t) pieces) where
  -- there are as many features as leaves
  pub as_many : length pieces ≡ t.leaves
  as_many = by_index file.opened.between
    where
      by_index : IsIndex image (Some t) → length pieces ≡ t.leaves
      by_index (present has tree) = elim (agrees_tells file.counted) [
        | inl none ↦ absurd (omega (arith, none, tree.levels.leaves, tree.levels.shaped.some))
        | inr all ↦ omega (arith, all, tree.levels.leaves)
      ]

  abbrev first : ℕ
  first = first_place image (Some t)

  -- the feature of the piece behind others
  module _ (ws : List (List ℕ)) (p : List ℕ) (rest : List (List ℕ)) (split : pieces ≡ ws ++ p ∷ rest) where
    whole : (take first image ++ concat ws) ++ (p ++ concat rest) ≡ image
    whole =
        append_assoc (take first image) (concat ws) (p ++ concat rest)
        ∙ ap (λ xs. take first image ++ xs) (sym (concat-append ws (p ∷ rest)) ∙ ap concat (sym split))
        ∙ sym file.whole

    -- where it stands
    abbrev pub stands_at : ℕ
    stands_at = first + length (concat ws)

    first_inside : first ≤ length image
    first_inside = open_inside image (Some t) file.opened

    front_long : length (take first image ++ concat ws) ≡ stands_at
    front_long = omega (arith, length-append (take first image) (concat ws), length-take first image, first_inside)

    here : p ++ concat rest ≡ drop stands_at image
    here = sym (drop_at (take first image ++ concat ws) (p ++ concat rest) stands_at front_long) ∙ ap (drop stands_at) whole

    before : take stands_at image ≡ take first image ++ concat ws
    before = ap (take stands_at) (sym whole) ∙ take_at (take first image ++ concat ws) (p ++ concat rest) stands_at front_long

    pieces_each : AllByRecursion IsPiece (ws ++ p ∷ rest)
    pieces_each = subst (AllByRecursion IsPiece) split (framed_all (header_in image) pieces file.each)

    pub is_piece : IsPiece p
    is_piece = let all = all-rest IsPiece ws (p ∷ rest) pieces_each in all.0

    pub piece_within : stands_at + length p ≤ length image
    piece_within = omega (arith, ap length whole, length-append (take first image ++ concat ws) (p ++ concat rest), length-append p (concat rest), front_long)

    pub walk_there : Walks image first ws stands_at
    walk_there = record { front = before; above = omega arith; within = omega (arith, piece_within); each = all-front IsPiece ws (p ∷ rest) pieces_each }

    size_read : size_at image stands_at ≡ number_at 4 p 0
    size_read = sym (number_at-drop 4 stands_at image) ∙ ap (λ s. number_at 4 s 0) (sym here) ∙ number_at-append 4 p (concat rest) (omega (arith, is_piece.sized))

    pub size_there : 4 + size_at image stands_at ≡ length p
    size_there = omega (arith, size_read, is_piece.sized)

    -- its leaf says so
    few : length ws < t.leaves
    few = omega (arith, as_many, ap length split, length-append ws (p ∷ rest))

    pub target_is : leaf_target image t (length ws) ≡ stands_at
    target_is = ap (λ n. first + n) (file.leaves ws p rest split few).0

    buffer_is : buffer_at image (leaf_target image t (length ws)) ≡ slice_range p 4 (length p)
    buffer_is = ap (buffer_at image) target_is ∙ buffer_there image stands_at p (concat rest) here is_piece

    pub own_is : (entry_at image t (length ws)).own ≡ box_of (header_in image) p
    own_is = ap (λ b. own_box (feature_of (header_in image) b)) buffer_is

    pub entry_is : record { number = length ws; offset = length (concat ws); buffer = slice_range p 4 (length p); own = box_of (header_in image) p } ≡ entry_at image t (length ws)
    entry_is = entry_same _ _ refl (sym (file.leaves ws p rest split few).0) (sym buffer_is) (sym own_is)

    -- and has its box, by keys
    pub leaf_meets : (boxes : List Bounds) → passes t (node_in image) (meets_any boxes) 0 (length ws) ≡ meets_any boxes (box_of (header_in image) p)
    leaf_meets boxes = any_same_box boxes (leaf_in image t (length ws)).bounds (box_of (header_in image) p) (file.leaves ws p rest split few).1

  -- the features behind others that a scan finds are those of the leaves that it finds
  module _ (boxes : List Bounds) where
    abbrev test : Entry → Bool
    test e = meets_any boxes e.own

    abbrev hit : ℕ → Bool
    hit = passes t (node_in image) (meets_any boxes) 0

    pub found_from : (ps ws : List (List ℕ)) → pieces ≡ ws ++ ps
        → filter test (entries (header_in image) (length ws) (length (concat ws)) ps) ≡ map (entry_at image t) (filter hit (range_with_len (length ws) (length ps)))
    found_from [] ws split = refl
    found_from (p ∷ ps) ws split =
        let e : Entry = record { number = length ws; offset = length (concat ws); buffer = slice_range p 4 (length p); own = box_of (header_in image) p } in
        let more : length (ws ++ p ∷ []) ≡ length ws + 1 = length-append ws (p ∷ []) in
        let longer : length (concat (ws ++ p ∷ [])) ≡ length (concat ws) + length p = omega (arith, ap length (concat-append ws (p ∷ [])), length-append (concat ws) (p ++ []), length-append p []) in
        let deep = found_from ps (ws ++ p ∷ []) (split ∙ sym (append_assoc ws (p ∷ []) ps)) in
        let rest : filter test (entries (header_in image) (length ws + 1) (length (concat ws) + length p) ps) ≡ map (entry_at image t) (filter hit (range_with_len (length ws + 1) (length ps))) =
        subst (λ n. filter test (entries (header_in image) n (length (concat ws) + length p) ps) ≡ map (entry_at image t) (filter hit (range_with_len n (length ps)))) more
        (subst (λ o. filter test (entries (header_in image) (length (ws ++ p ∷ [])) o ps) ≡ map (entry_at image t) (filter hit (range_with_len (length (ws ++ p ∷ [])) (length ps)))) longer deep) in
        one_more (entry_at image t) hit e (length ws) _ (range_with_len (length ws + 1) (length ps)) (test e) (entry_is ws p ps split) (sym (leaf_meets ws p ps split boxes)) rest
