use Rattle.std.proofs.Common.{◌≡◌, ◌<◌, ◌+◌, length, drop, get_or, refl, ap, ◌∙◌, arith}
use Rattle.std.specs.List.{concat}
use Rattle.fgb_pack.proofs.Orders.{at_place}
use Rattle.packed_file.specs.Packing.{in_order}
use Rattle.laid_features.specs.Buffers.{framed}
use Rattle.feature_pack.specs.Pieces.{pieces_in}
use Rattle.feature_pack.proofs.Frames.{room_at}
use Rattle.feature_pack.proofs.Leaves.{leaves_all, leaves_next}
use Rattle.feature_pack.proofs.Runs.{left_next}
use Rattle.feature_pack.proofs.pieces.leaves_of.Goals as goal
use Rattle.feature_pack.proofs.pieces.leaves_of.Goals.{After-piece_len-offset}

pub piece_len-offset-requires : goal.piece_len-offset-requires
piece_len-offset-requires c =
    let i = c.loop-number.number-index in
    let there = at_place (λ k. k < length c.args.buffers.now) c.args.numbers.now i 0 c.requires.known c.loop-number-test.true in
    room_at c.args.buffers.now (get_or c.args.numbers.now i 0) c.index-buffers-number.result c.deref.result.now there c.index-buffers-number.is c.deref.ensures.value c.requires.room

module _ (c : After-piece_len-offset) where
  there : get_or c.args.numbers.now c.loop-number.number-index 0 < length c.args.buffers.now
  there = at_place (λ k. k < length c.args.buffers.now) c.args.numbers.now c.loop-number.number-index 0 c.requires.known c.loop-number-test.true

  grown : c.piece_len-offset.result ≡ length (framed c.index-buffers-number.result.items)
  grown = c.piece_len-offset.ensures ∙ ap (λ b. length (framed b)) c.deref.ensures.value

  left : length (concat (in_order (pieces_in c.args.buffers.now) (drop c.loop-number.number-index c.args.numbers.now)))
      ≡ length (framed c.index-buffers-number.result.items) + length (concat (in_order (pieces_in c.args.buffers.now) (drop (c.loop-number.number-index + 1) c.args.numbers.now)))
  left = left_next c.args.buffers.now c.args.numbers.now c.loop-number.number-index c.index-buffers-number.result c.loop-number-test.true there c.index-buffers-number.is

pub overflow_add-offset : goal.overflow_add-offset
overflow_add-offset c = let l = left c in let g = grown c in omega (arith, l, g, c.loop-number.invariant.left, c.requires.small)

pub loop-number-preserved : goal.loop-number-preserved
loop-number-preserved c = let so_far = c.loop-number.invariant in record {
  leaves = λ header boxed.
      leaves_next header c.args.boxes.now c.args.buffers.now c.args.numbers.now boxed c.loop-number.number-index c.index-buffers-number.result c.loop-number-test.true (there c) c.index-buffers-number.is
      c.loop-number.offset (c.loop-number.offset + c.piece_len-offset.result) c.loop-number.leaves.items c.push.new.self.items _ _ _ refl c.in_ok-push.ensures.items
      (ap (λ n. c.loop-number.offset + n) (grown c)) (so_far.leaves header boxed);
  left = let l = left c in let g = grown c in omega (arith, l, g, so_far.left);
}

pub returns : goal.returns
returns c = λ header boxed.
    leaves_all header c.args.boxes.now c.args.buffers.now c.args.numbers.now boxed c.loop-number.number-index c.loop-number.offset c.loop-number.leaves.items _ c.loop-number-test.false
    (c.loop-number.invariant.leaves header boxed)
