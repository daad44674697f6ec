use Rattle.std.proofs.Common.{ap, arith}
use Rattle.section_window.proofs.Showing.{shows_nothing}
use Rattle.gap_window.specs.Bridging.{Bridging}
use Rattle.gap_window.proofs.Reaching.{end_kept}
use Rattle.gap_window.proofs.tests.a_window_stays_after_a_fault.Goals as goal

pub reach-requires-clause-shows : goal.reach-requires-clause-shows
reach-requires-clause-shows g c = rw c.new-window.ensures (shows_nothing _ 10 300 (omega arith) (omega arith))

pub reach-requires-3-clause-within : goal.reach-requires-3-clause-within
reach-requires-3-clause-within g c =
    let end = ap (λ (w : Bridging). w.held.end) c.new-window.ensures in
    let second = end_kept c.reach-2.result c.reach.new.self c.reach-2.new.self _ _ _ _ _ c.reach-2.ensures.reaches c.reach-2.ensures.stays in
    omega (arith, end, c.in_ok-reach.ensures.reaches.end, second)

pub reach-requires-4-clause-within : goal.reach-requires-4-clause-within
reach-requires-4-clause-within g c =
    let end = ap (λ (w : Bridging). w.held.end) c.new-window.ensures in
    let second = end_kept c.reach-2.result c.reach.new.self c.reach-2.new.self _ _ _ _ _ c.reach-2.ensures.reaches c.reach-2.ensures.stays in
    let third = end_kept c.reach-3.result c.reach-2.new.self c.reach-3.new.self _ _ _ _ _ c.reach-3.ensures.reaches c.reach-3.ensures.stays in
    omega (arith, end, c.in_ok-reach.ensures.reaches.end, second, third)
