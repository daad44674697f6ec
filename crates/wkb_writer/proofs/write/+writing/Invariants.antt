use Rattle.std.proofs.Common.{◌≡◌, ◌++◌, ◌+◌, ◌*◌}
use Rattle.fgb_schema.specs.Shapes.{parts_in}
use Rattle.owned_shape.specs.Records.{depth}
use Rattle.wkb_writer.specs.Wkb.{value_in}
use Rattle.wkb_writer.proofs.Appends.{first_pieces}
use Rattle.wkb_writer.proofs.write.+writing.Given as goal

abbrev pub decreases-put_value : goal.decreases-put_value
decreases-put_value g l = 3 * depth (g.S.Shows.shown l.view.now) + 2

abbrev pub decreases-put_body : goal.decreases-put_body
decreases-put_body g l = 3 * depth (g.S.Shows.shown l.view.now) + 1

abbrev pub decreases-put_parts : goal.decreases-put_parts
decreases-put_parts g l = 3 * depth (g.S.Shows.shown l.view.now)

abbrev pub invariant-put_parts-loop-i : goal.invariant-put_parts-loop-i
invariant-put_parts-loop-i g l = l.out.items ≡ l.initial.out.items ++ first_pieces (value_in l.dialect l.dimension) (parts_in (g.S.Shows.shown l.view)) l.i
