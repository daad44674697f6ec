use Rattle.std.proofs.Common.{◌≡◌, ◌++◌}
use Rattle.wkb_writer.specs.Levels.{rows_in}
use Rattle.wkb_writer.specs.Wkb.{head, row_bytes}
use Rattle.wkb_writer.proofs.Appends.{first_pieces}
use Rattle.wkb_writer.proofs.write.put_points.Given as goal

abbrev pub invariant-loop-i : goal.invariant-loop-i
invariant-loop-i g l = l.out.items ≡ l.initial.out.items ++ first_pieces (λ row. head l.fn.dialect 1 l.fn.dimension ++ row_bytes row) (rows_in (g.S.Shows.shown l.view)) l.i
