-- The offsets that stand in a group, and behind it.
use Rattle.std.proofs.Common.{◌≡◌, ◌≢◌, ℕ, ◌+◌, ◌-◌, ◌*◌, ◌<◌, ◌≤◌, Bool, true, false, List, length, get_or, inl, inr, refl, sym, ap, subst, ◌∙◌, arith}
use Rattle.std.specs.Prelude.{◌&&◌, nat_lt, if◌then◌else◌, slice_range, Option, Some, None}
use Rattle.std.proofs.lemmas.Bool.{cases_lt}
use Rattle.fgb_outside.specs.Source.{Source}
use Rattle.fgb_outside.specs.Asked.{Ascends}
use Rattle.section_window.specs.Window.{Held, Shows}
use Rattle.section_window.proofs.Showing.{shows_part}
use Rattle.order_keys.specs.declared.bounds.Bounds.{Bounds}
use Rattle.level_bounds.specs.Levels.{IsShape, Shape, nodes_above, place, width}
use Rattle.node_items.specs.declared.item.NodeItem.{NodeItem}
use Rattle.node_items.specs.declared.group.Group.{Group}
use Rattle.node_items.specs.Groups.{Holds, bytes_in, item_in}
use Rattle.node_items.specs.Nodes.{node_of, node_place, stored}
use Rattle.index_reader.proofs.Stored.{stored_read}
use Rattle.tree_search.specs.Wanted.{is_wanted}
use Rattle.box_search.specs.Hits.{behind_in, peeked, room_for}
use Rattle.box_search.specs.Runs.{StaysBefore}
use Rattle.box_search.specs.Following.{next_before, next_of, one_for}
use Rattle.box_search.proofs.Lists.{rise_at}
use Rattle.box_search.proofs.Following.{hole_parts, no_lt, yes_lt}

-- the offset behind each node of a group that holds these nodes of a level
pub stored_next : (g : Group) (t : Shape) (nodes : ℕ → NodeItem) (k level first end : ℕ) (f : Bool) (b : Option ℕ) (i : ℕ) → Holds g nodes first end → level ≡ place t k 0 → level ≤ first → i < end - first
    → (f ≡ true → b ≡ Some (nodes end).offset) → (f ≡ false → b ≡ None) → next_before t nodes k (end - level + one_for f) (first - level + i) ≡ behind_in g b i
stored_next g t nodes k level first end f b i holds base order under followed alone = elim (cases_lt (i + 1) (end - first)) [
  | inl less ↦
      let there : place t k (first - level + i + 1) ≡ first + (i + 1) = at_end (nodes_above t k) base in
      let item : item_in g (i + 1) ≡ nodes (first + (i + 1)) = holds.items (i + 1) (omega (arith, less)) in
      ap (λ x. if x then Some (nodes (place t k (first - level + i + 1))).offset else None) (yes_lt (first - level + i + 1) (end - level + one_for f) (omega (arith, less, order)))
      ∙ ap (λ n. Some (nodes n).offset) there ∙ ap (λ (v : NodeItem). Some v.offset) (sym item)
      ∙ ap (λ x. if x then Some (item_in g (i + 1)).offset else b) (sym (yes_lt (40 * (i + 1)) (length (bytes_in g)) (omega (arith, less, holds.count))))
  | inr last ↦
      last_one f refl last ∙ ap (λ x. if x then Some (item_in g (i + 1)).offset else b) (sym (no_lt (40 * (i + 1)) (length (bytes_in g)) (omega (arith, last, holds.count))))
]
  where
    at_end : (a : ℕ) → level ≡ a + 0 → a + (first - level + i + 1) ≡ first + (i + 1)
    at_end a e = omega (arith, e, order)

    last_one : (c : Bool) → f ≡ c → end - first ≤ i + 1 → next_before t nodes k (end - level + one_for f) (first - level + i) ≡ b
    last_one true is last =
        let there : place t k (first - level + i + 1) ≡ end = at_end (nodes_above t k) base ∙ omega (arith, under, last) in
        ap (λ x. next_before t nodes k (end - level + one_for x) (first - level + i)) is
        ∙ ap (λ x. if x then Some (nodes (place t k (first - level + i + 1))).offset else None) (yes_lt (first - level + i + 1) (end - level + 1) (omega (arith, under, last, order)))
        ∙ ap (λ n. Some (nodes n).offset) there ∙ sym (followed is)
    last_one false is last =
        ap (λ x. next_before t nodes k (end - level + one_for x) (first - level + i)) is
        ∙ ap (λ x. if x then Some (nodes (place t k (first - level + i + 1))).offset else None) (no_lt (first - level + i + 1) (end - level + 0) (omega (arith, last, order)))
        ∙ sym (alone is)

no_true : false ≡ true → ⊥
no_true e = cc

-- the node behind a group, in a window that shows it
pub peek_stored : (w : Held) (s : Source) (image : List ℕ) (at first end len : ℕ) (f : Bool) → f ≡ true → w.at ≡ node_place at first → first ≤ end → len ≡ 40 * (end - first) → len + room_for f ≤ length w.bytes
    → Shows w s → s.image ≡ Some image → peeked w.bytes len f ≡ Some (stored image at end).offset
peek_stored w s image at first end len false is stands order count held shows told = absurd (no_true is)
peek_stored w s image at first end len true is stands order count held shows told =
    let there : w.at + len ≡ node_place at end = omega (arith, stands, count, order) in
    let behind : w.at + (len + 40) ≡ w.at + len + 40 = omega arith in
    ap (λ b. Some (node_of b).offset) (shows_part w s len (len + 40) (omega arith) held shows image told ∙ ap (slice_range image (w.at + len)) behind)
    ∙ ap (λ (v : NodeItem). Some v.offset) (stored_read image (w.at + len) at end there)

pub peek_none : (bytes : List ℕ) (len : ℕ) (f : Bool) → f ≡ false → peeked bytes len f ≡ None
peek_none bytes len f is = ap (peeked bytes len) is

-- nothing stands behind the root
pub root_next : (t : Shape) (shape : IsShape t) (nodes : ℕ → NodeItem) (test : Bounds → Bool) (i end : ℕ) → end ≡ 1 → next_of t nodes test t.top i ≡ next_before t nodes t.top end i
root_next t shape nodes test i end one =
    ap (λ w. if nat_lt (i + 1) w && is_wanted t nodes test t.top (i + 1) then Some (nodes (place t t.top (i + 1))).offset else None) shape.root
    ∙ ap (λ x. if x && is_wanted t nodes test t.top (i + 1) then Some (nodes (place t t.top (i + 1))).offset else None) (no_lt (i + 1) 1 (omega arith))
    ∙ sym (ap (λ x. if x then Some (nodes (place t t.top (i + 1))).offset else None) (no_lt (i + 1) end (omega (arith, one))))

-- behind a run the node behind its last does not follow
pub far_apart : (t : Shape) (shape : IsShape t) (k gap low : ℕ) (all : List ℕ) (n m : ℕ) → Ascends low (width t (k + 1)) all → m ≡ n → StaysBefore t k gap all n → m < length all → get_or all m 0 ≢ get_or all (m - 1) 0 + 1
far_apart t shape k gap low all n m rise is stays under =
    hole_parts t shape k gap (get_or all (m - 1) 0) (get_or all m 0) (rise_at low (width t (k + 1)) all m rise under).1 (subst (StaysBefore t k gap all) (sym is) stays under)
