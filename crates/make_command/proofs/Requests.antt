-- How many positions a query asks for of a file that breaks no rule.
use Rattle.std.proofs.Common.{◌≡◌, ◌∙◌, ℕ, ◌+◌, ◌-◌, ◌*◌, ◌^◌, ◌<◌, ◌≤◌, zero, suc, Bool, true, false, List, [], ◌∷◌, ◌++◌, length, map, Option, Some, None, refl, sym, ap, subst, arith, length-append, drop, drop-cons, add-one}
use Rattle.std.specs.Prelude.{cond, IfSome, IsSome, slice_index_or}
use Rattle.std.specs.List.{filter, flat_map, range_with_len}
use Rattle.std.proofs.lemmas.Grind.{flat_map-append}
use Rattle.std.proofs.lemmas.List.{length-map}
use Rattle.std.proofs.lemmas.List.FromFn.{length-range_with_len}
use Rattle.order_keys.specs.declared.bounds.Bounds.{Bounds}
use Rattle.level_bounds.specs.Levels.{Shape, node_count, nodes_above, place, width}
use Rattle.level_bounds.proofs.Above.{levels_stand}
use Rattle.node_items.specs.declared.item.NodeItem.{NodeItem}
use Rattle.node_items.specs.Nodes.{node_place}
use Rattle.fgb_outside.specs.Source.{Source, added}
use Rattle.fgb_outside.specs.Asked.{Ascends, Reads, positions}
use Rattle.fgb_outside.proofs.Asking.{range_with_len-append}
use Rattle.fgb_file.specs.File.{IsDeclared, IsFile, IsOpen, IsIndex, IsValid, header_end, node_in, present}
use Rattle.fgb_file.proofs.Valid.{valid_file}
use Rattle.gap_window.proofs.Bridges.{bridged_zero}
use Rattle.box_list.specs.Lists.{meets_any}
use Rattle.tree_search.specs.Wanted.{is_wanted, node_positions, wanted, wanted_nodes}
use Rattle.box_query.specs.Needed.{AsksSearch, asked as asked_positions, asked_nodes, wanted_positions}

ascends_few : (low high : ℕ) (xs : List ℕ) → Ascends low high xs → low + length xs ≤ high
ascends_few low high [] up = omega (arith, up)
ascends_few low high (x ∷ xs) up = omega (arith, up.0, ascends_few (x + 1) high xs up.1)

filter_few : (p : ℕ → Bool) (xs : List ℕ) → length (filter p xs) ≤ length xs
filter_few p [] = omega arith
filter_few p (x ∷ xs) = kept (p x) (filter_few p xs)
  where
    kept : (b : Bool) → length (filter p xs) ≤ length xs → length (cond b (x ∷ filter p xs) (filter p xs)) ≤ length (x ∷ xs)
    kept true few = omega (arith, few)
    kept false few = omega (arith, few)

-- the wanted nodes of so many levels, from the root down, are no more than these levels have
module _ (t : Shape) (nodes : ℕ → NodeItem) (test : Bounds → Bool) where
  abbrev numbers_of : ℕ → List ℕ
  numbers_of d = map (place t (t.top - d)) (wanted t nodes test (t.top - d))

  level_few : (d : ℕ) → length (numbers_of d) ≤ width t (t.top - d)
  unfolding wanted
  level_few d =
      omega (
        arith,
        length-map (wanted t nodes test (t.top - d)) (place t (t.top - d)),
        filter_few (is_wanted t nodes test (t.top - d)) (range_with_len 0 (width t (t.top - d))),
        length-range_with_len 0 (width t (t.top - d)),
      )

  levels_few : (n : ℕ) → n ≤ t.top → length (flat_map numbers_of (range_with_len 0 (n + 1))) ≤ nodes_above t (t.top - n) + width t (t.top - n)
  levels_few zero under = omega (arith, length-append (numbers_of 0) [], level_few 0)
  levels_few (suc n) under =
      let e : suc n + 1 ≡ (n + 1) + 1 = omega arith in
      let split : flat_map numbers_of (range_with_len 0 (suc n + 1)) ≡ flat_map numbers_of (range_with_len 0 (n + 1)) ++ flat_map numbers_of (range_with_len (0 + (n + 1)) 1)
      = ap (λ m. flat_map numbers_of (range_with_len 0 m)) e ∙ ap (flat_map numbers_of) (range_with_len-append 0 (n + 1) 1)
      ∙ flat_map-append numbers_of (range_with_len 0 (n + 1)) (range_with_len (0 + (n + 1)) 1) in
      let last : length (flat_map numbers_of (range_with_len (0 + (n + 1)) 1)) ≡ length (numbers_of (0 + (n + 1))) + 0 = length-append (numbers_of (0 + (n + 1))) [] in
      let f : 0 + (n + 1) ≡ suc n = omega arith in
      let few : length (numbers_of (0 + (n + 1))) ≤ width t (t.top - suc n) = subst (λ m. length (numbers_of m) ≤ width t (t.top - suc n)) (sym f) (level_few (suc n)) in
      let g : t.top - suc n + 1 ≡ t.top - n = omega (arith, under) in
      let above : nodes_above t (t.top - suc n) ≡ nodes_above t (t.top - n) + width t (t.top - n)
      = (levels_stand t).next (t.top - suc n) (omega (arith, under)) ∙ ap (λ m. nodes_above t m + width t m) g in
      omega (
        arith,
        ap length split ∙ length-append (flat_map numbers_of (range_with_len 0 (n + 1))) (flat_map numbers_of (range_with_len (0 + (n + 1)) 1)),
        last,
        few,
        above,
        levels_few n (omega (arith, under)),
      )

  wanted_few : length (wanted_nodes t nodes test) ≤ node_count t
  unfolding wanted_nodes
  wanted_few =
      let e : t.top - t.top ≡ 0 = omega arith in
      subst (λ k. length (flat_map numbers_of (range_with_len 0 (t.top + 1))) ≤ nodes_above t k + width t k) e (levels_few t.top (omega arith))

positions_long : (at : ℕ) (numbers : List ℕ) → length (node_positions at numbers) ≡ 40 * length numbers
unfolding node_positions
positions_long at [] = refl
positions_long at (n ∷ rest) =
    omega (arith, length-append (range_with_len (node_place at n) 40) (node_positions at rest), length-range_with_len (node_place at n) 40, positions_long at rest)

-- what was asked for since nothing was
told_pairs : (s' : Option (List (ℕ × ℕ))) (pairs more : List (ℕ × ℕ)) → s' ≡ Some pairs → (IsSome s' → s' ≡ Some more) → more ≡ pairs
told_pairs s' pairs more is told =
    let same : Some more ≡ Some pairs = sym (told (subst IsSome (sym is) refl)) ∙ is in
    cc same

tree_inside : {image : List ℕ} {t : Shape} → IsIndex image (Some t) → header_end image + 40 * node_count t ≤ length image
tree_inside (present has tree) = tree.inside

module _ (image : List ℕ) (boxes : List Bounds) (s s' : Source) (new : s.asked ≡ Some []) where
  searched_few : (t : Shape) (pieces : List (List ℕ)) → IsFile image (Some t) pieces → (r : Reads (IsDeclared image) s s' (asked_positions image (Some t) boxes 0)) → AsksSearch image t boxes 0 s s'
      → length (asked_positions image (Some t) boxes 0) < 2 ^ 64
  searched_few t pieces file r search =
      let head = range_with_len 0 (header_end image) in
      let nodes = asked_nodes image t boxes 0 in
      let same : search.reads.pairs ≡ r.pairs = told_pairs s'.asked r.pairs search.reads.pairs (r.told ∙ ap (λ a. added a r.pairs) new) (λ is. search.reads.told is ∙ ap (λ a. added a search.reads.pairs) new) in
      let asked : asked_positions image (Some t) boxes 0 ++ search.reads.rest ≡ head ++ nodes ++ search.behind
      = ap (λ ps. ps ++ search.reads.rest) (sym r.asks ∙ ap positions (sym same)) ∙ search.reads.asks in
      let sum : length (asked_positions image (Some t) boxes 0) + length search.reads.rest ≡ (length head + length nodes) + length search.behind
      = sym (length-append (asked_positions image (Some t) boxes 0) search.reads.rest) ∙ ap length asked
      ∙ length-append (head ++ nodes) search.behind ∙ ap (λ n. n + length search.behind) (length-append head nodes) in
      let inside : header_end image + 40 * node_count t ≤ length image = tree_inside file.opened.between in
      omega (
        arith,
        sum,
        length-range_with_len 0 (header_end image),
        ap length (bridged_zero (wanted_positions image t boxes)),
        positions_long (header_end image) (wanted_nodes t (node_in image) (meets_any boxes)),
        wanted_few t (node_in image) (meets_any boxes),
        inside,
        ascends_few _ _ search.behind search.rises,
        file.opened.header.start.sized.short,
      )

  whole_few : (pieces : List (List ℕ)) → IsFile image None pieces → length (asked_positions image None boxes 0) < 2 ^ 64
  unfolding asked_positions
  whole_few pieces file = omega (arith, length-range_with_len 0 (length image), file.opened.header.start.sized.short)

  pub needed_few : (index : Option Shape) (pieces : List (List ℕ)) → IsFile image index pieces → Reads (IsDeclared image) s s' (asked_positions image index boxes 0)
      → ((t : Shape) → IsOpen image (Some t) → AsksSearch image t boxes 0 s s') → length (asked_positions image index boxes 0) < 2 ^ 64
  needed_few None pieces file r search = whole_few pieces file
  needed_few (Some t) pieces file r search = searched_few t pieces file r (search t file.opened)

  -- the pairs that are lent are those that were asked for
  pub lent_all : (index : Option Shape) (lent : List (ℕ × ℕ)) → Reads (IsDeclared image) s s' (asked_positions image index boxes 0) → IfSome s'.asked (λ pairs. lent ≡ pairs)
      → length (positions lent) ≡ length (asked_positions image index boxes 0)
  lent_all index lent r are =
      let told : s'.asked ≡ Some r.pairs = r.told ∙ ap (λ a. added a r.pairs) new in
      let same : lent ≡ r.pairs = subst (λ o. IfSome o (λ pairs. lent ≡ pairs)) told are in
      ap (λ pairs. length (positions pairs)) same ∙ ap length r.asks

  -- their positions are not too many to be counted
  pub lent_few : IsValid image → ((index : Option Shape) (pieces : List (List ℕ)) → IsFile image index pieces → Reads (IsDeclared image) s s' (asked_positions image index boxes 0))
      → ((t : Shape) → IsOpen image (Some t) → AsksSearch image t boxes 0 s s') → (lent : List (ℕ × ℕ)) → IfSome s'.asked (λ pairs. lent ≡ pairs) → length (positions lent) < 2 ^ 64
  lent_few valid reads search lent are =
      let file = valid_file image valid in let r = reads file.0 file.1 file.2 in
      subst (λ n. n < 2 ^ 64) (sym (lent_all file.0 lent r are)) (needed_few file.0 file.1 file.2 r search)

-- pairs that are counted one after another
next_pair : (pairs : List (ℕ × ℕ)) (i : ℕ) → i < length pairs → length (positions (drop i pairs)) ≡ (slice_index_or pairs i (0, 0)).1 + length (positions (drop (i + 1) pairs))
next_pair pairs i early =
    let pair = slice_index_or pairs i (0, 0) in let rest = positions (drop (i + 1) pairs) in
    ap (λ ps. length (positions ps)) (drop-cons pairs i (0, 0) early ∙ ap (λ n. pair ∷ drop n pairs) (sym (add-one i)))
    ∙ length-append (range_with_len pair.0 pair.1) rest ∙ ap (λ n. n + length rest) (length-range_with_len pair.0 pair.1)

pub pair_fits : (pairs : List (ℕ × ℕ)) (i count : ℕ) → i < length pairs → count + length (positions (drop i pairs)) ≡ length (positions pairs) → length (positions pairs) < 2 ^ 64
    → count + (slice_index_or pairs i (0, 0)).1 < 2 ^ 64
pair_fits pairs i count early inv few = omega (arith, next_pair pairs i early, inv, few)

pub pair_counted : (pairs : List (ℕ × ℕ)) (i count : ℕ) → i < length pairs → count + length (positions (drop i pairs)) ≡ length (positions pairs)
    → (count + (slice_index_or pairs i (0, 0)).1) + length (positions (drop (i + 1) pairs)) ≡ length (positions pairs)
pair_counted pairs i count early inv = omega (arith, next_pair pairs i early, inv)
