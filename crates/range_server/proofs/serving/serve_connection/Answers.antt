use Rattle.std.proofs.Common.{◌∙◌, sym}
use Rattle.range_server.proofs.Served.{piece_along, room_falls, served_more, served_nothing, serves_to_close, serves_to_end, serves_to_read, serves_to_write}
use Rattle.range_server.proofs.serving.serve_connection.Goals as goal

pub loop-piece-init : goal.loop-piece-init
loop-piece-init g c =
    served_nothing c.args.image.now c.new-core.result (g.L.Link.shown c.args.link.now) c.none-receipt.result c.new-core.ensures c.none-receipt.ensures

pub returns-in-Err : goal.returns-in-Err
returns-in-Err g c = rw c.of.ensures (serves_to_read c.loop-piece.invariant c.in-Err.ensures)

pub returns-then-count-eq0 : goal.returns-then-count-eq0
returns-then-count-eq0 g c = serves_to_end c.loop-piece.invariant c.if-count-eq0.true c.in-Ok.ensures

pub returns-in-Err-serve_piece : goal.returns-in-Err-serve_piece
returns-in-Err-serve_piece g c =
    let going = sym c.is_closed.ensures ∙ c.loop-piece-test.true in
    rw c.of-in-Err-serve_piece.ensures (
    serves_to_write c.loop-piece.invariant going c.in-Ok.ensures (piece_along c.front.ensures c.in-Err-serve_piece.ensures))

pub loop-piece-smaller : goal.loop-piece-smaller
loop-piece-smaller g c =
    let going = sym c.is_closed.ensures ∙ c.loop-piece-test.true in
    room_falls c.read.new.into c.in-Ok.count c.loop-piece.invariant.all.path.sound going c.in-Ok.ensures.count c.if-count-eq0.false (piece_along c.front.ensures c.in_default.ensures)

pub loop-piece-preserved : goal.loop-piece-preserved
loop-piece-preserved g c =
    let going = sym c.is_closed.ensures ∙ c.loop-piece-test.true in
    served_more c.loop-piece.invariant going c.in-Ok.ensures (piece_along c.front.ensures c.in_default.ensures)

pub returns : goal.returns
returns g c = serves_to_close c.loop-piece.invariant (sym c.is_closed.ensures ∙ c.loop-piece-test.false)
