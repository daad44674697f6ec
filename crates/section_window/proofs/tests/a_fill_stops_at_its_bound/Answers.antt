use Rattle.std.proofs.Common.{ap, arith}
use Rattle.section_window.specs.Window.{Held}
use Rattle.section_window.proofs.Showing.{shows_nothing, shows_skipped}
use Rattle.section_window.proofs.tests.a_fill_stops_at_its_bound.Goals as goal

pub fill_until-requires-clause-shows : goal.fill_until-requires-clause-shows
fill_until-requires-clause-shows g c = rw c.new-window.ensures (shows_nothing _ 10 300 (omega arith) (omega arith))

pub fill_until-requires-2-clause-shows : goal.fill_until-requires-2-clause-shows
fill_until-requires-2-clause-shows g c =
    let kept = c.in_ok-fill_until.ensures.kept in
    let at = ap (λ (w : Held). w.at) c.new-window.ensures in
    let end = ap (λ (w : Held). w.end) c.new-window.ensures in
    rw c.pass.ensures (shows_skipped _ _ 90 (omega (arith, kept.0, kept.1, at, end)) c.in_ok-fill_until.ensures.shows)
