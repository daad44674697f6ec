-- The nodes of a group, from the bytes of a file.
use Rattle.std.proofs.Common.{◌≡◌, ℕ, ◌+◌, ◌-◌, ◌*◌, ◌≤◌, List, length, take, drop, Option, Some, refl, sym, ap, ◌∙◌, subst, arith, length-take}
use Rattle.std.specs.Prelude.{slice_range}
use Rattle.std.proofs.lemmas.List.{take_rest}
use Rattle.fgb_outside.specs.Source.{Source}
use Rattle.section_window.specs.Window.{Held, Shows}
use Rattle.section_window.proofs.Parts.{slice_pass, take_front, length_slice}
use Rattle.section_window.proofs.Showing.{shows_front}
use Rattle.level_bounds.specs.Levels.{Shape, place, first_child, children_end}
use Rattle.node_items.specs.declared.item.NodeItem.{NodeItem}
use Rattle.node_items.specs.declared.group.Group.{Group}
use Rattle.node_items.specs.Groups.{Holds, first_of, bytes_in}
use Rattle.node_items.specs.Nodes.{node_of, node_place, stored}
use Rattle.index_reader.specs.Parts.{AreChildren, AreStored}

-- a part of a part of a list
part_of_part : (l : List ℕ) (from till i j : ℕ) → i ≤ j → from + j ≤ till → slice_range (slice_range l from till) i j ≡ slice_range l (from + i) (from + j)
part_of_part l from till i j order within =
    let e : (from + i) + (j - i) ≡ from + j = omega arith in
    ap (take (j - i)) (sym (slice_pass l from till i (omega arith)))
    ∙ take_front l (from + i) till (j - i) (omega arith)
    ∙ ap (slice_range l (from + i)) e

pub holds_stored : (g : Group) (image : List ℕ) (at : ℕ) (bytes : List ℕ) (from till : ℕ) → bytes_in g ≡ bytes → first_of g ≡ from → AreStored image at bytes from till → Holds g (stored image at) from till
unfolding stored
holds_stored g image at bytes from till held first are = record {
  first = first;
  count = ap length held ∙ are.count;
  items = λ i under.
      let here : node_place at from + 40 * i ≡ node_place at (from + i) = omega arith in
      let behind : node_place at from + (40 * i + 40) ≡ node_place at (from + i) + 40 = omega arith in
      ap (λ b. node_of (slice_range b (40 * i) (40 * i + 40))) (held ∙ are.same)
      ∙ ap node_of (part_of_part image (node_place at from) (node_place at till) (40 * i) (40 * i + 40) (omega arith) (omega arith)
      ∙ ap (λ n. slice_range image n (node_place at from + (40 * i + 40))) here ∙ ap (slice_range image (node_place at (from + i))) behind);
}

-- of the children of a node
pub holds_children : (g : Group) (nodes : ℕ → NodeItem) (t : Shape) (k i from till : ℕ) → AreChildren t k i from till → Holds g nodes from till → Holds g nodes (place t k (first_child t i)) (place t k (children_end t k i))
holds_children g nodes t k i from till are holds = subst (λ n. Holds g nodes (place t k (first_child t i)) n) are.end (subst (λ n. Holds g nodes n till) are.first holds)

-- a part of a file
pub stored_part : (image : List ℕ) (at from till : ℕ) → from ≤ till → node_place at till ≤ length image → AreStored image at (slice_range image (node_place at from) (node_place at till)) from till
stored_part image at from till order inside = record {
  count = length_slice image (node_place at from) (node_place at till) inside ∙ omega arith;
  same = refl;
}

-- the front of a window
pub stored_front : (w : Held) (s : Source) (image : List ℕ) (at from till len : ℕ) → w.at ≡ node_place at from → from ≤ till → len ≡ 40 * (till - from) → len ≤ length w.bytes → Shows w s → s.image ≡ Some image
    → AreStored image at (take len w.bytes) from till
stored_front w s image at from till len begins order is within shows told =
    let behind : w.at + len ≡ node_place at till = omega arith in
    record {
      count = length-take len w.bytes ∙ omega arith;
      same = shows_front w s len within shows image told ∙ ap (λ n. slice_range image n (w.at + len)) begins ∙ ap (slice_range image (node_place at from)) behind;
    }

-- the first node in what is left of a file
pub stored_first : (image : List ℕ) (at number : ℕ) → node_of (take 40 (take (length image - node_place at number) (drop (node_place at number) image))) ≡ stored image at number
unfolding stored
stored_first image at number =
    let e : 40 ≡ node_place at number + 40 - node_place at number = omega arith in
    ap (λ b. node_of (take 40 b)) (take_rest image (node_place at number)) ∙ ap (λ n. node_of (take n (drop (node_place at number) image))) e

-- a node that was read of its bytes
pub stored_read : (image : List ℕ) (p at number : ℕ) → p ≡ node_place at number → node_of (slice_range image p (p + 40)) ≡ stored image at number
unfolding stored
stored_read image p at number e = ap (λ n. node_of (slice_range image n (n + 40))) e

-- the parent of a group, with its number
pub parent_is : (nodes : ℕ → NodeItem) (item : NodeItem) (m n : ℕ) → item ≡ nodes m → m ≡ n → ◌≡◌ {A = Option (NodeItem × ℕ)} (Some (item, m)) (Some (nodes n, n))
parent_is nodes item m n read same = ap (λ v. Some (v, m)) read ∙ ap (λ k. Some (nodes k, k)) same
