use Rattle.std.proofs.Common.{◌≡◌, ℕ, ◌+◌, ◌-◌, ◌<◌, ◌≤◌, inl, inr, subst, arith}
use Rattle.std.proofs.lemmas.Bool.{cases_lt}
use Rattle.level_bounds.specs.Levels.{Shape, width, place, node_count}
use Rattle.level_bounds.specs.Shapes.{shape_of}
use Rattle.level_bounds.proofs.Places.{root_first, level_follows}
use Rattle.level_bounds.proofs.levels.Levels.position.Goals as goal

at_start : (p n : ℕ) → p ≡ 0 → p ≤ n
at_start p n e = omega arith

below_all : (end all node : ℕ) → end ≡ all → end ≤ node → node < all → ⊥
below_all end all node e past inside = omega arith

along : (end p q node : ℕ) → end ≡ p → p ≡ q → end ≤ node → q ≤ node
along end p q node e f past = omega arith

-- a node behind a level stands on one below it
down : (t : Shape) (k node end : ℕ) → k < t.top + 1 → node < node_count t → end ≡ place t k (width t k) → end ≤ node → (0 < k) × (place t (k - 1) 0 ≤ node)
down t k node end under inside is past = elim (cases_lt 0 k) [
  | inl above ↦ (above, along end (place t k (width t k)) (place t (k - 1) 0) node is (level_follows t k above (omega arith)) past)
  | inr leaf ↦ let e : k ≡ 0 = omega arith in
      let P = λ (j : ℕ). end ≡ place t j (width t j) in
      absurd (below_all end (node_count t) node (subst P e is) past inside)
]

pub loop-k-init : goal.loop-k-init
loop-k-init c = record { under = omega arith; from = at_start _ _ (root_first (shape_of c.args.self.now)) }

pub loop-k-preserved : goal.loop-k-preserved
loop-k-preserved c =
    let d = down (shape_of c.args.self.now) c.loop-k.k c.args.node c.level.result.1 c.loop-k.invariant.under c.requires c.level.ensures.end c.loop-k-test.true in
    record { under = omega (arith, c.loop-k.invariant.under); from = d.1 }
