use Rattle.std.proofs.Common.{◌≡◌, ℕ, ◌+◌, ◌-◌, ◌*◌, ◌∙◌, sym, ap, arith}
use Rattle.level_bounds.specs.Levels.{Shape, place, nodes_above, first_child}
use Rattle.level_bounds.specs.Shapes.{shape_of}
use Rattle.level_bounds.proofs.Places.{places_tell}
use Rattle.level_bounds.proofs.levels.Levels.first_child.Goals as goal

joined : (r a b s l i : ℕ) → r ≡ a + 0 → a ≡ b → s * l ≡ s * i → r + l * s ≡ b + s * i
joined r a b s l i e f g = omega arith

below : (t : Shape) (k i j l first : ℕ) → (j ≡ k) × (l ≡ i) → first ≡ place t (j - 1) 0 → first + l * t.node_size ≡ place t (k - 1) (first_child t i)
below t k i j l first same is =
    joined first (nodes_above t (j - 1)) (nodes_above t (k - 1)) t.node_size l i is (ap (λ m. nodes_above t (m - 1)) same.0) (ap (λ m. t.node_size * m) same.1)

pub returns-then-k-eq0 : goal.returns-then-k-eq0
returns-then-k-eq0 c = λ k i is e.
    let same = places_tell (shape_of c.args.self.now) c.position-k.result.0 c.position-k.result.1 k i c.position-k.ensures.stands is (sym c.position-k.ensures.number ∙ e) in
    omega (arith, same.0, c.if-k-eq0.true)

pub returns : goal.returns
returns c = λ k i is e.
    let t = shape_of c.args.self.now in
    let same = places_tell t c.position-k.result.0 c.position-k.result.1 k i c.position-k.ensures.stands is (sym c.position-k.ensures.number ∙ e) in
    (omega (arith, same.0, c.if-k-eq0.false), below t k i c.position-k.result.0 c.position-k.result.1 c.level.result.0 same c.level.ensures.first)
