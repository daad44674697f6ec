use Rattle.std.proofs.Common.{List, ℕ, ◌++◌, arith}
use Rattle.wkb_writer.specs.Levels.{rows_in}
use Rattle.wkb_writer.specs.RowsShown.{row_shown}
use Rattle.wkb_writer.specs.Wkb.{head, row_bytes}
use Rattle.wkb_writer.proofs.Appends.{counted_all, piece_more, two_put}
use Rattle.wkb_writer.proofs.RowsAt.{length-rows_in}
use Rattle.wkb_writer.proofs.write.put_points.Goals as goal

pub loop-i-preserved : goal.loop-i-preserved
loop-i-preserved g c =
    let s = g.S.Shows.shown c.args.view.now in let d = c.args.dimension in let row = row_shown c.at.result in
    piece_more (λ (row : List ℕ). head c.args.dialect 1 d ++ row_bytes row) (rows_in s) c.loop-i.i row c.put_count.new.out.items c.loop-i.out.items c.put.new.out.items
    c.at.ensures c.loop-i.invariant
    (two_put (head c.args.dialect 1 d) c.head-head.result (row_bytes row) c.loop-i.out.items c.extend_from_slice.new.self.items c.put.new.out.items
    c.head-head.ensures c.in_ok-extend_from_slice.ensures.items c.in_ok-put.ensures)

pub returns : goal.returns
returns g c =
    let s = g.S.Shows.shown c.args.view.now in let d = c.args.dimension in
    counted_all (λ (row : List ℕ). head c.args.dialect 1 d ++ row_bytes row) (rows_in s) c.points-count.result c.loop-i.i c.args.out.now.items c.reserve.new.self.items c.put_count.new.out.items c.loop-i.out.items c.in_ok-reserve.ensures.items
    (omega (arith, c.points-count.ensures, length-rows_in s)) (omega (arith, c.points-count.ensures, length-rows_in s, c.loop-i-test.false))
    c.in_ok-put_count.ensures c.loop-i.invariant
