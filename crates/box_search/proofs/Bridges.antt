-- What is asked for along nodes between whose children no hole is to stay.
use Rattle.std.proofs.Common.{◌≡◌, ℕ, ◌+◌, ◌-◌, ◌*◌, ◌<◌, ◌≤◌, min, Bool, true, false, List, [], ◌∷◌, ◌++◌, refl, sym, ap, ◌∙◌, append_assoc, append-nil, arith}
use Rattle.std.specs.Prelude.{◌==◌, ◌||◌, nat_lt, if◌then◌else◌, Option, Some}
use Rattle.std.specs.List.{range_with_len}
use Rattle.std.proofs.Math.Nat.{mul-le-mul_left}
use Rattle.fgb_outside.specs.Asked.{Ascends}
use Rattle.fgb_outside.proofs.Asking.{range_split}
use Rattle.gap_window.specs.Gaps.{behind, bridged_behind, hole}
use Rattle.gap_window.proofs.Bridges.{behind_append, behind_behind, behind_range, range_ends}
use Rattle.level_bounds.specs.Levels.{Shape, IsShape, width, place, nodes_above, first_child, children_end}
use Rattle.level_bounds.proofs.Places.{first_child_there}
use Rattle.node_items.specs.Nodes.{node_place}
use Rattle.tree_search.specs.Descent.{all_children, children_of, level_positions}
use Rattle.tree_search.proofs.Positions.{level_append, level_range}
use Rattle.box_search.specs.Runs.{AreNear, ends_at, hole_between, is_near}
use Rattle.box_search.proofs.Lists.{rise_low}

-- a hole that is not to stay is filled
filled : (b : Bool) (n e : ℕ) → (n == 0 || b) ≡ true → (if b then range_with_len e n else []) ≡ range_with_len e n
filled true n e is = refl
filled false n e is = let none : 0 ≡ n = grind (arith, is) in ap (range_with_len e) none

near_hole : (gap e p n : ℕ) → n ≡ p - e → (n == 0 || nat_lt n gap) ≡ true → hole gap (Some e) p ≡ range_with_len e (p - e)
near_hole gap e p n is near =
    ap (λ m. if nat_lt m gap then range_with_len e m else []) (sym is) ∙ filled (nat_lt n gap) n e near ∙ ap (range_with_len e) is

-- where the children of a node of level k + 1 begin, where they end, and where those of the last of several do
abbrev pub begins_at : Shape → ℕ → ℕ → ℕ → ℕ
begins_at t k at j = node_place at (place t k (first_child t j))

abbrev pub ends_of : Shape → ℕ → ℕ → ℕ → ℕ
ends_of t k at j = node_place at (place t k (children_end t k j))

abbrev pub ends_last : Shape → ℕ → ℕ → List ℕ → ℕ
ends_last t k at js = node_place at (place t k (ends_at t k js))

module _ (t : Shape) (shape : IsShape t) (k at : ℕ) where
  abbrev begins : ℕ → ℕ
  begins j = begins_at t k at j

  abbrev ends : ℕ → ℕ
  ends j = ends_of t k at j

  pub some_children : (j : ℕ) → j < width t (k + 1) → first_child t j < children_end t k j
  some_children j there =
      least (t.node_size * j) (t.node_size * (j + 1)) (width t k) (more t.node_size j shape.wide) (first_child_there t shape k j there)
    where
      more : (s j : ℕ) → 2 ≤ s → s * j < s * (j + 1)
      more s j wide = omega (arith, wide)

      least : (a b w : ℕ) → a < b → a < w → a < min b w
      least a b w ab aw = omega arith

  pub begins_ends : (j : ℕ) → j < width t (k + 1) → begins j + 40 ≤ ends j
  begins_ends j there = along (nodes_above t k) (first_child t j) (children_end t k j) (some_children j there)
    where
      along : (a x y : ℕ) → x < y → at + 40 * (a + x) + 40 ≤ at + 40 * (a + y)
      along a x y lt = omega arith

  -- the children of a later node stand behind those of an earlier one
  pub ends_order : (i j : ℕ) → i < j → j < width t (k + 1) → ends i ≤ begins j
  ends_order i j lt there =
      let next : t.node_size * (i + 1) ≤ t.node_size * j = mul-le-mul_left t.node_size (omega arith) in
      along (nodes_above t k) (t.node_size * (i + 1)) (width t k) (t.node_size * j) next
    where
      along : (a x w y : ℕ) → x ≤ y → at + 40 * (a + min x w) ≤ at + 40 * (a + y)
      along a x w y le = omega arith

  pub hole_is : (i j : ℕ) → hole_between t k i j ≡ begins j - ends i
  hole_is i j = along (nodes_above t k) (first_child t j) (children_end t k i)
    where
      along : (a x y : ℕ) → 40 * (x - y) ≡ at + 40 * (a + x) - (at + 40 * (a + y))
      along a x y = omega arith

  -- the positions of the children of one node
  one_node : (j : ℕ) → level_positions at t k (children_of t k j) ≡ range_with_len (begins j) (ends j - begins j)
  one_node j = level_range at t k (first_child t j) (children_end t k j - first_child t j) ∙ ap (range_with_len (begins j)) (along (nodes_above t k) (first_child t j) (children_end t k j))
    where
      along : (a x y : ℕ) → 40 * (y - x) ≡ at + 40 * (a + y) - (at + 40 * (a + x))
      along a x y = omega arith

  -- the last of them ends behind where the first one begins
  pub first_last : (low j : ℕ) (rest : List ℕ) → Ascends low (width t (k + 1)) (j ∷ rest) → begins j < node_place at (place t k (ends_at t k (j ∷ rest)))
  first_last low j [] rise = omega (arith, begins_ends j (omega (arith, rise_low (j + 1) (width t (k + 1)) [] rise.1)))
  first_last low j (q ∷ rest) rise =
      let there : j < width t (k + 1) = omega (arith, rise_low (j + 1) (width t (k + 1)) (q ∷ rest) rise.1) in
      let later : q < width t (k + 1) = omega (arith, rise_low (q + 1) (width t (k + 1)) rest rise.1.1) in
      omega (arith, begins_ends j there, ends_order j q (omega (arith, rise.1.0)) later, first_last (j + 1) q rest rise.1)

  -- the positions of their children, with the holes between them
  pub near_bridged : (gap low : ℕ) (last : Option ℕ) (j : ℕ) (rest : List ℕ) → AreNear t k gap (j ∷ rest) → Ascends low (width t (k + 1)) (j ∷ rest)
      → bridged_behind gap last (level_positions at t k (all_children t k (j ∷ rest))) ≡ hole gap last (begins j) ++ range_with_len (begins j) (node_place at (place t k (ends_at t k (j ∷ rest))) - begins j)
  near_bridged gap low last j [] near rise =
      let there : j < width t (k + 1) = omega (arith, rise_low (j + 1) (width t (k + 1)) [] rise.1) in
      ap (λ l. bridged_behind gap last (level_positions at t k l)) (append-nil (children_of t k j)) ∙ ap (bridged_behind gap last) (one_node j)
      ∙ behind_range gap last (begins j) (ends j - begins j) (omega (arith, begins_ends j there))
  near_bridged gap low last j (q ∷ rest) near rise =
      let there : j < width t (k + 1) = omega (arith, rise_low (j + 1) (width t (k + 1)) (q ∷ rest) rise.1) in
      let later : q < width t (k + 1) = omega (arith, rise_low (q + 1) (width t (k + 1)) rest rise.1.1) in
      let some = begins_ends j there in
      let order = ends_order j q (omega (arith, rise.1.0)) later in
      let on = first_last (j + 1) q rest rise.1 in
      let till = node_place at (place t k (ends_at t k (q ∷ rest))) in
      let more = level_positions at t k (all_children t k (q ∷ rest)) in
      let reach : begins j + (ends j - begins j) ≡ ends j = omega (arith, some) in
      let after : behind last (range_with_len (begins j) (ends j - begins j)) ≡ Some (ends j) = range_ends last (begins j) (ends j - begins j) (omega (arith, some)) ∙ ap Some reach in
      let tail : bridged_behind gap (Some (ends j)) more ≡ range_with_len (ends j) (till - ends j) =
      near_bridged gap (j + 1) (Some (ends j)) q rest near.1 rise.1
      ∙ ap (λ l. l ++ range_with_len (begins q) (till - begins q)) (near_hole gap (ends j) (begins q) (hole_between t k j q) (hole_is j q) near.0)
      ∙ sym (range_split (ends j) (begins q) till order (omega (arith, on))) in
      ap (bridged_behind gap last) (level_append at t k (children_of t k j) (all_children t k (q ∷ rest)) ∙ ap (λ l. l ++ more) (one_node j))
      ∙ behind_append gap last (range_with_len (begins j) (ends j - begins j)) more
      ∙ ap (λ l. l ++ bridged_behind gap (behind last (range_with_len (begins j) (ends j - begins j))) more) (behind_range gap last (begins j) (ends j - begins j) (omega (arith, some)))
      ∙ ap (λ o. (hole gap last (begins j) ++ range_with_len (begins j) (ends j - begins j)) ++ bridged_behind gap o more) after
      ∙ ap (λ l. (hole gap last (begins j) ++ range_with_len (begins j) (ends j - begins j)) ++ l) tail
      ∙ append_assoc (hole gap last (begins j)) (range_with_len (begins j) (ends j - begins j)) (range_with_len (ends j) (till - ends j))
      ∙ ap (λ l. hole gap last (begins j) ++ l) (sym (range_split (begins j) (ends j) till (omega (arith, some)) (omega (arith, order, on))))

  -- and where they end
  pub near_behind : (low : ℕ) (last : Option ℕ) (j : ℕ) (rest : List ℕ) → Ascends low (width t (k + 1)) (j ∷ rest)
      → behind last (level_positions at t k (all_children t k (j ∷ rest))) ≡ Some (node_place at (place t k (ends_at t k (j ∷ rest))))
  near_behind low last j [] rise =
      let there : j < width t (k + 1) = omega (arith, rise_low (j + 1) (width t (k + 1)) [] rise.1) in
      let some = begins_ends j there in
      let reach : begins j + (ends j - begins j) ≡ ends j = omega (arith, some) in
      ap (λ l. behind last (level_positions at t k l)) (append-nil (children_of t k j)) ∙ ap (behind last) (one_node j)
      ∙ range_ends last (begins j) (ends j - begins j) (omega (arith, some)) ∙ ap Some reach
  near_behind low last j (q ∷ rest) rise =
      ap (behind last) (level_append at t k (children_of t k j) (all_children t k (q ∷ rest)))
      ∙ behind_behind last (level_positions at t k (children_of t k j)) (level_positions at t k (all_children t k (q ∷ rest)))
      ∙ near_behind (j + 1) (behind last (level_positions at t k (children_of t k j))) q rest rise.1

-- the same in numbers of nodes
pub child_order : (t : Shape) (k i j : ℕ) → i < j → (end first : ℕ) → end ≡ place t k (children_end t k i) → first ≡ place t k (first_child t j) → end ≤ first
child_order t k i j lt end first ends begins =
    let next : t.node_size * (i + 1) ≤ t.node_size * j = mul-le-mul_left t.node_size (omega arith) in
    along (nodes_above t k) (t.node_size * (i + 1)) (width t k) (t.node_size * j) next ends begins
  where
    along : (a x w y : ℕ) → x ≤ y → end ≡ a + min x w → first ≡ a + y → end ≤ first
    along a x w y le e f = omega arith

pub hole_numbers : (t : Shape) (k i j end first : ℕ) → end ≡ place t k (children_end t k i) → first ≡ place t k (first_child t j) → 40 * (first - end) ≡ hole_between t k i j
hole_numbers t k i j end first ends begins = along (nodes_above t k) (children_end t k i) (first_child t j) ends begins
  where
    along : (a x y : ℕ) → end ≡ a + x → first ≡ a + y → 40 * (first - end) ≡ 40 * (y - x)
    along a x y e f = omega arith
