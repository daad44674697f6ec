use Rattle.std.proofs.Common.{arith}
use Rattle.section_window.proofs.Showing.{shows_nothing}
use Rattle.section_window.proofs.tests.a_fill_goes_on_after_a_fault.Goals as goal

pub fill-requires-clause-shows : goal.fill-requires-clause-shows
fill-requires-clause-shows g c = rw c.new-window.ensures (shows_nothing _ 0 1200000 (omega arith) (omega arith))
