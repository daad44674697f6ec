use Rattle.std.proofs.Common.{◌-◌, ◌≡◌, ℕ, ◌+◌, ◌*◌, ◌≤◌, ◌^◌, ◌∷◌, List, length, drop}
use Rattle.hit_runs.specs.Laid.{AreLaid, run_end}
use Rattle.hit_runs.proofs.extent.known_until.Given as goal

abbrev pub invariant-loop-i : goal.invariant-loop-i
invariant-loop-i l = record {
  within : l.i ≤ length l.later;
  leaf : l.section.leaves + 40 * l.last.number ≤ 2 ^ 48;
  known : (image : List ℕ) → AreLaid image l.section.first (l.fn.hit ∷ l.later)
      → AreLaid image l.section.first (l.last ∷ drop l.i l.later) × (run_end image l.section.first l.gap (l.fn.hit ∷ l.later) ≡ run_end image l.section.first l.gap (l.last ∷ drop l.i l.later));
}

abbrev pub decreases-loop-i : goal.decreases-loop-i
decreases-loop-i l = length l.later - l.i
