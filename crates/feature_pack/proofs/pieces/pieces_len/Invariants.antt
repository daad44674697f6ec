use Rattle.std.proofs.Common.{◌≡◌, ◌-◌, ◌^◌, length, take}
use Rattle.std.specs.Prelude.{min}
use Rattle.std.specs.List.{concat}
use Rattle.feature_pack.specs.Pieces.{pieces_in}
use Rattle.feature_pack.proofs.pieces.pieces_len.Given as goal

abbrev pub invariant-loop-buffer : goal.invariant-loop-buffer
invariant-loop-buffer l = l.bytes ≡ min (length (concat (pieces_in (take l.buffer-index l.buffers)))) (2 ^ 64 - 1)
