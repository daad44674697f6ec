use Rattle.std.proofs.Common.{ap, Err}
use Rattle.fgb_pack.proofs.Rooms.{header_large}
use Rattle.fgb_pack.proofs.Stopping.{build_own, build_large}
use Rattle.feature_pack.proofs.planning.header_bytes.Goals as goal

pub returns-in_err-to_bytes-clause-too_large : goal.returns-in_err-to_bytes-clause-too_large
returns-in_err-to_bytes-clause-too_large c = λ is.
    header_large c.args.header.now c.in_ok-told.told c.set_count.new.self c.set_node_size.new.self c.args.features c.args.node_size
    c.in_ok-told.ensures c.set_count.ensures c.set_node_size.ensures
    (c.in_err-to_bytes.ensures.too_large (ap Err (build_large c.from_residual-in_err-to_bytes.result c.in_err-to_bytes.field-0.0 c.from_residual-in_err-to_bytes.ensures.1 is)))

pub returns-in_err-to_bytes-clause-own : goal.returns-in_err-to_bytes-clause-own
returns-in_err-to_bytes-clause-own c = build_own c.from_residual-in_err-to_bytes.result c.in_err-to_bytes.field-0.0 c.from_residual-in_err-to_bytes.ensures.1
