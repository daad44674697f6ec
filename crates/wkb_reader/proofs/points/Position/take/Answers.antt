use Rattle.std.proofs.Common.{◌+◌, ◌*◌, ◌/◌, length, refl, arith}
use Rattle.flat_layout.specs.declared.Rule.TheVariants.{WkbEnd}
use Rattle.wkb_reader.specs.Broken.{BreaksPosition}
use Rattle.wkb_reader.specs.Heads.{order_of}
use Rattle.wkb_reader.proofs.Passing.{names_ahead}
use Rattle.wkb_reader.proofs.Positions.{position_cut}
use Rattle.wkb_reader.proofs.points.Position.take.Goals as goal

pub returns-then-left-ordinates-clause-err : goal.returns-then-left-ordinates-clause-err
returns-then-left-ordinates-clause-err c e =
    let b = c.args.cursor.now.rest.now in
    let at = c.args.cursor.now.at in
    names_ahead c.refused.result at (at + length b / 8 * 8) (length b / 8 * 8) WkbEnd (BreaksPosition (order_of c.args.order) c.args.dimension e b) c.refused.ensures refl
    (position_cut (order_of c.args.order) c.args.dimension e b (length b) refl (omega arith))
