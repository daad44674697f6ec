use Rattle.std.proofs.Common.{false, refl}
use Rattle.flat_layout.proofs.Judging.{exit}
use Rattle.wkb_reader.specs.Gathered.{position_of}
use Rattle.wkb_reader.specs.Heads.{order_of}
use Rattle.wkb_reader.proofs.Bodies.{point_fails}
use Rattle.wkb_reader.proofs.points.Points.take.Goals as goal

pub returns-in_err-position-clause-err : goal.returns-in_err-position-clause-err
returns-in_err-position-clause-err c = exit _ _ _ c.in_err-position.field-0.0 c.from_residual.ensures.1 (c.in_err-position.ensures.err false)

pub returns-in_err-judge-clause-err : goal.returns-in_err-judge-clause-err
returns-in_err-judge-clause-err c =
    exit _ _ _ c.in_err-judge.field-0.0 c.from_residual-in_err-judge.ensures.1
    (point_fails (order_of c.args.order) c.args.dimension false (position_of c.in_ok-position.position) c.args.cursor.now c.take.new.cursor c.in_err-judge.field-0.0
    c.in_ok-position.ensures.ok c.in_ok-position.ensures.spelled.spelled refl c.in_err-judge.ensures.err)
