use Rattle.std.proofs.Common.{◌≡◌, ◌+◌, ◌-◌, ◌^◌, ◌≤◌, min, length}
use Rattle.fgb_lay.proofs.Sizes.{left_bytes}
use Rattle.fgb_lay.proofs.planning.pieces_size.Given as goal

abbrev pub invariant-loop-buffer : goal.invariant-loop-buffer
invariant-loop-buffer l = record {
  sum : min (l.size + length (left_bytes l.buffers l.buffer-index)) (2 ^ 64 - 1) ≡ min (length (left_bytes l.buffers 0)) (2 ^ 64 - 1);
  small : l.size ≤ 2 ^ 64 - 1;
}
