use Rattle.std.proofs.Common.{arith}
use Rattle.section_window.proofs.Showing.{shows_nothing, shows_passed}
use Rattle.gap_window.proofs.tests.short_holes_are_read.Goals as goal

pub reach-requires-clause-shows : goal.reach-requires-clause-shows
reach-requires-clause-shows g c = rw c.new-window.ensures (shows_nothing _ 10 300 (omega arith) (omega arith))

pub reach-requires-2-clause-shows : goal.reach-requires-2-clause-shows
reach-requires-2-clause-shows g c = rw c.pass.ensures (shows_passed c.reach.new.self.held _ 8 c.in_ok-reach.ensures.reaches.enough c.reach.ensures.shows)

pub reach-requires-3-clause-shows : goal.reach-requires-3-clause-shows
reach-requires-3-clause-shows g c = rw c.pass-2.ensures (shows_passed c.reach-2.new.self.held _ 6 c.in_ok-reach-2.ensures.reaches.enough c.reach-2.ensures.shows)
