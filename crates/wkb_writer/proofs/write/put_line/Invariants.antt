use Rattle.std.proofs.Common.{◌≡◌, ◌++◌}
use Rattle.wkb_writer.specs.Levels.{rows_in}
use Rattle.wkb_writer.proofs.Appends.{ring_pieces}
use Rattle.wkb_writer.proofs.write.put_line.Given as goal

abbrev pub invariant-loop-i : goal.invariant-loop-i
invariant-loop-i g l = l.out.items ≡ l.initial.out.items ++ ring_pieces (rows_in (g.S.Shows.shown l.view)) l.fn.ring l.i
