-- How two windows go through an index, and what they ask for.
use Rattle.std.proofs.Common.{◌≡◌, ℕ, ◌+◌, ◌*◌, ◌<◌, ◌≤◌, sym, ap, ◌∙◌, arith}
use Rattle.fgb_outside.specs.Source.{Source}
use Rattle.fgb_outside.specs.Asked.{IsInside}
use Rattle.fgb_outside.proofs.Asking.{inside_wider}
use Rattle.section_window.specs.Window.{Held}
use Rattle.level_bounds.specs.Levels.{Shape, IsShape, IsNode, width, place, nodes_above, node_count, first_child, children_end}
use Rattle.node_items.specs.Nodes.{node_place}
use Rattle.read_stop.specs.Asks.{AsksOnly}
use Rattle.read_stop.proofs.Asking.{asks_weaken}
use Rattle.index_reader.specs.Windows.{StandAt}
use Rattle.index_reader.proofs.Order.{inner_there, first_group, next_group}

-- in front of the root's children
pub stand_first : (t : Shape) → IsShape t → (at : ℕ) (parents nodes : Held) → parents.at ≡ at → parents.end ≡ node_place at (place t 0 0) → nodes.at ≡ node_place at 1 → nodes.end ≡ node_place at (node_count t) → StandAt t at 0 parents nodes
stand_first t shape at parents nodes begins inner behind end = record {
  parent = omega arith;
  inner = inner;
  child = λ k i is first. behind ∙ ap (node_place at) (sym (first_group t shape k i is first));
  end = end;
}

module _ (t : Shape) (shape : IsShape t) (at number : ℕ) (parents nodes : Held) (stand : StandAt t at number parents nodes) (before : number < place t 0 0) where
  -- the first child that a group tells is the one that stands next
  pub stands_first : (first : ℕ) → ((k i : ℕ) → IsNode t (k + 1) i → number ≡ place t (k + 1) i → first ≡ place t k (first_child t i)) → nodes.at ≡ node_place at first
  stands_first first told =
      let inner = inner_there t shape number before in
      stand.child inner.k inner.i inner.is inner.stands ∙ ap (node_place at) (sym (told inner.k inner.i inner.is inner.stands))

  -- behind a node and its children
  pub stand_next : (parents' nodes' : Held) (end : ℕ) → ((k i : ℕ) → IsNode t (k + 1) i → number ≡ place t (k + 1) i → end ≡ place t k (children_end t k i))
      → parents'.at ≡ parents.at + 40 → parents'.end ≡ parents.end → nodes'.at ≡ node_place at end → nodes'.end ≡ nodes.end → StandAt t at (number + 1) parents' nodes'
  stand_next parents' nodes' end told passed kept behind ends =
      let inner = inner_there t shape number before in
      record {
        parent = omega (arith, stand.parent);
        inner = kept ∙ stand.inner;
        child = λ l j is next.
            behind
            ∙ ap (node_place at) (told inner.k inner.i inner.is inner.stands
            ∙ next_group t shape inner.k inner.i l j inner.is is (ap (λ n. n + 1) (sym inner.stands) ∙ next));
        end = ends ∙ stand.end;
      }

-- requests inside narrower bounds
pub asks_wider : (from to low high : ℕ) {a b : Source} → low ≤ from → to ≤ high → AsksOnly (IsInside from to) a b → AsksOnly (IsInside low high) a b
asks_wider from to low high l h asks = asks_weaken (IsInside from to) (IsInside low high) (inside_wider from to low high l h) asks

-- the inner nodes end inside the index
pub inner_within : (t : Shape) (at : ℕ) → node_place at (place t 0 0) ≤ node_place at (node_count t)
inner_within t at = inside at (nodes_above t 0) (width t 0)
  where
    inside : (at a w : ℕ) → at + 40 * (a + 0) ≤ at + 40 * (a + w)
    inside at a w = omega arith
