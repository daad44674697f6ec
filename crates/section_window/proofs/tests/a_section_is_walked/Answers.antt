use Rattle.std.proofs.Common.{arith}
use Rattle.section_window.proofs.Showing.{shows_nothing, shows_passed}
use Rattle.section_window.proofs.tests.a_section_is_walked.Goals as goal

pub loop-init : goal.loop-init
loop-init g c = rw c.new-window.ensures (shows_nothing _ 10 2500010 (omega arith) (omega arith))

pub loop-preserved : goal.loop-preserved
loop-preserved g c = rw c.pass.ensures (shows_passed c.fill.new.self _ 100 c.in_ok-fill.ensures.enough c.fill.ensures.shows)
