use Rattle.std.proofs.Common.{sym}
use Rattle.flat_views.specs.Tables.{base_of, bytes_of, place_of}
use Rattle.fgb_schema.proofs.GeometryTypes.{type_given}
use Rattle.geometry_view.proofs.OwnType.{judge_own_type}
use Rattle.geometry_view.proofs.read.type_under.Goals as goal

pub returns-then-outer-eq0 : goal.returns-then-outer-eq0
returns-then-outer-eq0 c =
    judge_own_type (base_of c.args.table) (bytes_of c.args.table) (place_of c.args.table) c.args.outer c.scalar_u8.result c.if-outer-eq0.true c.scalar_u8.ensures

pub returns-else-outer-eq0 : goal.returns-else-outer-eq0
returns-else-outer-eq0 c =
    let b = bytes_of c.args.table in let t = place_of c.args.table in
    (sym (type_given c.args.outer b t c.if-outer-eq0.false), λ q r broken. c.if-outer-eq0.false broken.0)
