use Rattle.std.proofs.Common.{◌+◌, length, take, ap, sym, ◌∙◌}
use Rattle.std.specs.List.{concat}
use Rattle.laid_features.specs.Buffers.{framed}
use Rattle.feature_pack.specs.Pieces.{pieces_in}
use Rattle.feature_pack.proofs.Frames.{room_at}
use Rattle.feature_pack.proofs.Runs.{lengths_next, sum_next}
use Rattle.feature_pack.proofs.pieces.pieces_len.Goals as goal

pub piece_len-requires : goal.piece_len-requires
piece_len-requires c = room_at c.args.buffers.now c.loop-buffer.buffer-index c.buffer-item.result c.deref.result.now c.loop-buffer-test.true c.buffer-item.is c.deref.ensures.value c.requires

pub loop-buffer-preserved : goal.loop-buffer-preserved
loop-buffer-preserved c =
    let buffers = c.args.buffers.now in let i = c.loop-buffer.buffer-index in let x = c.buffer-item.result in
    sum_next (length (concat (pieces_in (take i buffers)))) (length (concat (pieces_in (take (i + 1) buffers)))) c.piece_len.result c.loop-buffer.bytes c.saturating_add-bytes.result
    (lengths_next buffers i x c.loop-buffer-test.true c.buffer-item.is
    ∙ ap (λ n. length (concat (pieces_in (take i buffers))) + n) (ap (λ b. length (framed b)) (sym c.deref.ensures.value) ∙ sym c.piece_len.ensures))
    c.loop-buffer.invariant c.saturating_add-bytes.ensures
