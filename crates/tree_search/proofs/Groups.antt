-- The nodes of a group, as they stand in a window and in their level.
use Rattle.std.proofs.Common.{◌≡◌, ℕ, zero, suc, ◌+◌, ◌-◌, ◌*◌, ◌/◌, ◌<◌, ◌≤◌, Bool, true, false, List, ◌∷◌, ◌++◌, length, take, map, Some, refl, sym, ap, subst, ◌∙◌, arith, length-take}
use Rattle.std.specs.Prelude.{cond}
use Rattle.std.specs.List.{filter, range_with_len}
use Rattle.std.proofs.lemmas.List.{map-append}
use Rattle.fgb_outside.specs.Source.{Source}
use Rattle.fgb_outside.specs.Asked.{Ascends}
use Rattle.fgb_outside.proofs.Asking.{ascends_append, ascends_wider}
use Rattle.section_window.specs.Window.{Held, Shows}
use Rattle.order_keys.specs.declared.bounds.Bounds.{Bounds}
use Rattle.level_bounds.specs.Levels.{Shape, place, nodes_above}
use Rattle.node_items.specs.declared.item.NodeItem.{NodeItem}
use Rattle.node_items.specs.declared.group.Group.{Group}
use Rattle.node_items.specs.Groups.{Holds, first_of, bytes_in, item_in}
use Rattle.node_items.specs.Nodes.{node_place, stored}
use Rattle.index_reader.proofs.Stored.{holds_stored, stored_front}
use Rattle.tree_search.specs.declared.search.Hit.{Hit}
use Rattle.tree_search.specs.Wanted.{passes}
use Rattle.tree_search.specs.Searches.{hit_of}
use Rattle.tree_search.specs.Descent.{group_hits, numbers}

-- a group in the front of a window
module _ (g : Group) (w : Held) (bytes : List ℕ) (len : ℕ) (are : bytes_in g ≡ take len bytes) (held : bytes ≡ w.bytes) (within : len ≤ length w.bytes) where
  pub group_count : length (bytes_in g) ≡ len
  group_count = ap length (are ∙ ap (take len) held) ∙ length-take len w.bytes ∙ omega arith

  pub group_held : (s : Source) (image : List ℕ) (at from till : ℕ) → first_of g ≡ from → w.at ≡ node_place at from → from ≤ till → len ≡ 40 * (till - from) → Shows w s → s.image ≡ Some image → Holds g (stored image at) from till
  group_held s image at from till first stands order is shows told =
      holds_stored g image at (take len w.bytes) from till (are ∙ ap (take len) held) first (stored_front w s image at from till len stands order is within shows told)

-- the hits of a group, from the a-th of its nodes on
module _ (g : Group) (test : Bounds → Bool) (first : ℕ) where
  in_group : ℕ → ℕ → List Hit
  in_group a n = filter (λ h. test h.item.bounds) (map (λ i. record { number = first + i; item = item_in g i }) (range_with_len a n))

  kept : (a n : ℕ) (b : Bool) (v : NodeItem) (xs : List Hit) → Ascends (first + a + 1) (first + a + 1 + n) (numbers xs) → Ascends (first + a) (first + a + suc n) (numbers (cond b (record { number = first + a; item = v } ∷ xs) xs))
  kept a n true v xs rise = (omega arith, ascends_wider (first + a + 1) (first + a + 1) (first + a + 1 + n) (first + a + suc n) (numbers xs) (omega arith) (omega arith) rise)
  kept a n false v xs rise = ascends_wider (first + a + 1) (first + a) (first + a + 1 + n) (first + a + suc n) (numbers xs) (omega arith) (omega arith) rise

  hits_rise : (a n : ℕ) → Ascends (first + a) (first + a + n) (numbers (in_group a n))
  unfolding in_group
  hits_rise a zero = omega arith
  hits_rise a (suc n) =
      let on : first + (a + 1) ≡ first + a + 1 = omega arith in
      kept a n (test (item_in g a).bounds) (item_in g a) _ (subst (λ m. Ascends m (m + n) (numbers (in_group (a + 1) n))) on (hits_rise (a + 1) n))

  -- they stand behind what was found before
  pub hits_behind : (n low : ℕ) (old : List Hit) → Ascends low first (numbers old) → Ascends low (first + n) (numbers (old ++ group_hits g first test n))
  unfolding in_group
  hits_behind n low old rise =
      let e : first + 0 ≡ first = omega arith in
      subst (λ l. Ascends low (first + n) l) (sym (map-append (λ (h : Hit). h.number) old (group_hits g first test n)))
      (ascends_append low first (first + n) (numbers old) (numbers (group_hits g first test n)) rise
      (subst (λ m. Ascends m (m + n) (numbers (group_hits g first test n))) e (hits_rise 0 n)))

  -- as nodes of a level
  module _ (t : Shape) (nodes : ℕ → NodeItem) (k : ℕ) where
    one_more : (v : NodeItem) (n : ℕ) (b : Bool) (xs : List Hit) (ys : List ℕ) → v ≡ nodes (place t k n) → xs ≡ map (hit_of t nodes k) ys → cond b (record { number = n; item = v } ∷ xs) xs ≡ map (hit_of t nodes k) (cond b (n ∷ ys) ys)
    one_more v n true xs ys is same = ap (λ (u : NodeItem). record { number = n; item = u } ∷ xs) is ∙ ap (λ l. hit_of t nodes k n ∷ l) same
    one_more v n false xs ys is same = same

    hits_along : (a n : ℕ) → ((i : ℕ) → a ≤ i → i < a + n → item_in g i ≡ nodes (place t k (first + i))) → in_group a n ≡ map (hit_of t nodes k) (filter (passes t nodes test k) (range_with_len (first + a) n))
    unfolding in_group
    hits_along a zero same = refl
    hits_along a (suc n) same =
        let here : item_in g a ≡ nodes (place t k (first + a)) = same a (omega arith) (omega arith) in
        let on : first + (a + 1) ≡ first + a + 1 = omega arith in
        let rest = hits_along (a + 1) n (λ i from till. same i (omega arith) (omega arith)) ∙ ap (λ m. map (hit_of t nodes k) (filter (passes t nodes test k) (range_with_len m n))) on in
        one_more (item_in g a) (first + a) (test (item_in g a).bounds) _ _ here rest
        ∙ ap (λ (v : NodeItem). map (hit_of t nodes k) (cond (test v.bounds) ((first + a) ∷ filter (passes t nodes test k) (range_with_len (first + a + 1) n)) (filter (passes t nodes test k) (range_with_len (first + a + 1) n)))) here

-- the hits of a group that holds these nodes of a level
pub hits_stored : (g : Group) (t : Shape) (nodes : ℕ → NodeItem) (test : Bounds → Bool) (k base from till : ℕ) → Holds g nodes from till → base ≡ place t k 0 → base ≤ from → from ≤ till
    → group_hits g (from - base) test (length (bytes_in g) / 40) ≡ map (hit_of t nodes k) (filter (passes t nodes test k) (range_with_len (from - base) (till - from)))
unfolding in_group
hits_stored g t nodes test k base from till holds level behind order =
    let len : length (bytes_in g) / 40 ≡ till - from = count (length (bytes_in g)) (till - from) holds.count in
    let first : from - base + 0 ≡ from - base = omega arith in
    ap (group_hits g (from - base) test) len
    ∙ hits_along g test (from - base) t nodes k 0 (till - from) (λ i _ under. holds.items i (omega arith) ∙ ap nodes (there (nodes_above t k) i level))
    ∙ ap (λ n. map (hit_of t nodes k) (filter (passes t nodes test k) (range_with_len n (till - from)))) first
  where
    count : (l n : ℕ) → l ≡ 40 * n → l / 40 ≡ n
    count l n e = omega arith

    there : (a i : ℕ) → base ≡ a + 0 → from + i ≡ a + (from - base + i)
    there a i level = omega arith
