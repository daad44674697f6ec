use Rattle.std.proofs.Common.{arith}
use Rattle.section_window.proofs.Showing.{shows_skipped}
use Rattle.gap_window.proofs.moves.read_on.Goals as goal

pub returns-clause-shows : goal.returns-clause-shows
returns-clause-shows g c =
    let kept = c.fill_until.ensures.kept in
    rw c.pass.ensures (shows_skipped c.fill_until.new.self _ _ (omega (arith, kept.0, kept.1, c.at.ensures.value, c.requires.onward, c.requires.wanted, c.requires.within)) c.fill_until.ensures.shows)
