use Rattle.std.proofs.Common.{◌≡◌, ℕ, ◌+◌, ◌/◌, ◌∙◌, sym, ap, arith}
use Rattle.level_bounds.specs.Levels.{Shape, place, nodes_above}
use Rattle.level_bounds.specs.Shapes.{shape_of}
use Rattle.level_bounds.proofs.Places.{places_tell}
use Rattle.level_bounds.proofs.levels.Levels.parent.Goals as goal

joined : (r a b x y : ℕ) → r ≡ a + 0 → a ≡ b → x ≡ y → r + x ≡ b + y
joined r a b x y e f g = omega arith

above : (t : Shape) (k i j l first : ℕ) → (j ≡ k) × (l ≡ i) → first ≡ place t (j + 1) 0 → first + l / t.node_size ≡ place t (k + 1) (i / t.node_size)
above t k i j l first same is =
    joined first (nodes_above t (j + 1)) (nodes_above t (k + 1)) (l / t.node_size) (i / t.node_size) is (ap (λ m. nodes_above t (m + 1)) same.0) (ap (λ m. m / t.node_size) same.1)

pub returns-then-k-self : goal.returns-then-k-self
returns-then-k-self c = λ k i is e.
    let same = places_tell (shape_of c.args.self.now) c.position-k.result.0 c.position-k.result.1 k i c.position-k.ensures.stands is (sym c.position-k.ensures.number ∙ e) in
    omega (arith, same.0, c.if-k-self.true)

pub returns : goal.returns
returns c = λ k i is e.
    let t = shape_of c.args.self.now in
    let same = places_tell t c.position-k.result.0 c.position-k.result.1 k i c.position-k.ensures.stands is (sym c.position-k.ensures.number ∙ e) in
    (omega (arith, same.0, c.if-k-self.false, is.level), above t k i c.position-k.result.0 c.position-k.result.1 c.level.result.0 same c.level.ensures.first)
