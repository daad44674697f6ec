use Rattle.std.proofs.Common.{ℕ, ◌++◌, refl}
use Rattle.fgb_schema.specs.Shapes.{rings_in}
use Rattle.wkb_writer.specs.Levels.{rows_in}
use Rattle.wkb_writer.specs.Wkb.{line_bytes, ring_of}
use Rattle.wkb_writer.proofs.Appends.{piece_more, two_put}
use Rattle.wkb_writer.proofs.write.put_lines.Goals as goal

pub loop-i-preserved : goal.loop-i-preserved
loop-i-preserved g c =
    let s = g.S.Shows.shown c.args.view.now in let front = c.args.front.now in let ring = c.ring.result in
    piece_more (λ (ring : ℕ × ℕ). front ++ line_bytes (ring_of (rows_in s) ring)) (rings_in s) c.loop-i.i ring c.put_count.new.out.items c.loop-i.out.items c.put_line.new.out.items
    c.ring.ensures c.loop-i.invariant
    (two_put front front (line_bytes (ring_of (rows_in s) ring)) c.loop-i.out.items c.extend_from_slice.new.self.items c.put_line.new.out.items refl c.in_ok-extend_from_slice.ensures.items c.in_ok-put_line.ensures)
