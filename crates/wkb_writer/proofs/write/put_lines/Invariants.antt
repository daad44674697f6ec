use Rattle.std.proofs.Common.{◌≡◌, ◌++◌}
use Rattle.fgb_schema.specs.Shapes.{rings_in}
use Rattle.wkb_writer.specs.Levels.{rows_in}
use Rattle.wkb_writer.specs.Wkb.{line_bytes, ring_of}
use Rattle.wkb_writer.proofs.Appends.{first_pieces}
use Rattle.wkb_writer.proofs.write.put_lines.Given as goal

abbrev pub invariant-loop-i : goal.invariant-loop-i
invariant-loop-i g l =
    let s = g.S.Shows.shown l.view in
    l.out.items ≡ l.initial.out.items ++ first_pieces (λ ring. l.front ++ line_bytes (ring_of (rows_in s) ring)) (rings_in s) l.i
