use Rattle.std.proofs.Common.{◌≡◌, ℕ, ◌+◌, ◌-◌, ◌*◌, ◌<◌, ◌≤◌, ◌∙◌, min, sym, ap, subst, arith}
use Rattle.level_bounds.specs.Levels.{Shape, IsShape, width, place, nodes_above, first_child, children_end}
use Rattle.level_bounds.specs.Shapes.{shape_of}
use Rattle.level_bounds.proofs.Kept.{kept_shape}
use Rattle.level_bounds.proofs.Places.{places_tell, front_is_inner, first_child_there}
use Rattle.level_bounds.proofs.levels.Levels.group.Goals as goal

starts : (first a s l i : ℕ) → first ≡ a + 0 → s * l ≡ s * i → first + l * s ≡ a + s * i
starts first a s l i e f = omega arith

ends : (first end last a s l i w : ℕ) → first ≡ a + 0 → end ≡ a + w → s * l ≡ s * i → last ≡ min end (first + l * s + s) → last ≡ a + min (s * (i + 1)) w
ends first end last a s l i w e f g is = omega arith

-- the children of a node from its level and the place in it
children : (t : Shape) (k i j l first end last : ℕ) → (j ≡ k + 1) × (l ≡ i) → first ≡ place t (j - 1) 0 → end ≡ place t (j - 1) (width t (j - 1)) → last ≡ min end (first + l * t.node_size + t.node_size) → (first + l * t.node_size ≡ place t k (first_child t i)) × (last ≡ place t k (children_end t k i))
children t k i j l first end last same is_first is_end is_last =
    let e : j - 1 ≡ k = omega (arith, same.0) in
    let f = is_first ∙ ap (λ m. place t m 0) e in
    let g = is_end ∙ ap (λ m. place t m (width t m)) e in
    let p = ap (λ m. t.node_size * m) same.1 in
    (starts first (nodes_above t k) t.node_size l i f p, ends first end last (nodes_above t k) t.node_size l i (width t k) f g p is_last)

begins : (first end last a s l w : ℕ) → first ≡ a + 0 → end ≡ a + w → s * l < w → 2 ≤ s → last ≡ min end (first + l * s + s) → first + l * s < last
begins first end last a s l w e f lt wide is = omega arith

some_child : (t : Shape) → IsShape t → (j l : ℕ) → 0 < j → l < width t j → first_child t l < width t (j - 1)
some_child t shape j l above there =
    let e : j ≡ j - 1 + 1 = omega arith in
    first_child_there t shape (j - 1) l (subst (λ m. l < width t m) e there)

pub returns-clause-children : goal.returns-clause-children
returns-clause-children c = λ k i is e.
    let t = shape_of c.args.self.now in
    let same = places_tell t c.position-k.result.0 c.position-k.result.1 (k + 1) i c.position-k.ensures.stands is (sym c.position-k.ensures.number ∙ e) in
    children t k i c.position-k.result.0 c.position-k.result.1 c.level-first.result.0 c.level-first.result.1 c.min.result same c.level-first.ensures.first c.level-first.ensures.end c.min.ensures

pub returns-clause-order : goal.returns-clause-order
returns-clause-order c =
    let l = c.args.self.now in
    let t = shape_of l in
    let k = c.position-k.result.0 in
    let above = front_is_inner t k c.position-k.result.1 (subst (λ n. n < place t 0 0) c.position-k.ensures.number c.requires) in
    let child = some_child t (kept_shape l) k c.position-k.result.1 above c.position-k.ensures.stands.there in
    begins c.level-first.result.0 c.level-first.result.1 c.min.result (nodes_above t (k - 1)) t.node_size c.position-k.result.1 (width t (k - 1)) c.level-first.ensures.first c.level-first.ensures.end child (kept_shape l).wide c.min.ensures
