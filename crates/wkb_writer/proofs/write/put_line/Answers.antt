use Rattle.std.proofs.Common.{length, arith}
use Rattle.fgb_schema.specs.Shapes.{points_in}
use Rattle.wkb_writer.specs.Levels.{rows_in}
use Rattle.wkb_writer.specs.RowsShown.{row_shown}
use Rattle.wkb_writer.proofs.Appends.{ring_all, ring_more}
use Rattle.wkb_writer.proofs.RowsAt.{length-rows_in}
use Rattle.wkb_writer.proofs.write.put_line.Goals as goal

pub loop-i-preserved : goal.loop-i-preserved
loop-i-preserved g c =
    ring_more (rows_in (g.S.Shows.shown c.args.view.now)) c.args.ring c.loop-i.i (row_shown c.at.result) c.put_count.new.out.items c.loop-i.out.items c.put.new.out.items (omega arith)
    c.at.ensures c.loop-i.invariant c.in_ok-put.ensures

pub returns : goal.returns
returns g c =
    let s = g.S.Shows.shown c.args.view.now in
    ring_all (rows_in s) c.args.ring (length (points_in s)) c.loop-i.i c.args.out.now.items c.reserve.new.self.items c.put_count.new.out.items c.loop-i.out.items c.in_ok-reserve.ensures.items
    (length-rows_in s) c.requires (omega arith) c.in_ok-put_count.ensures c.loop-i.invariant
