use Rattle.std.proofs.Common.{◌≡◌, ◌+◌, ◌++◌, length, drop}
use Rattle.std.specs.List.{concat}
use Rattle.fgb_schema.specs.Headers.{Header}
use Rattle.packed_file.specs.Packing.{boxes_of, in_order, leaves_from}
use Rattle.feature_pack.specs.Pieces.{pieces_in}
use Rattle.feature_pack.proofs.pieces.leaves_of.Given as goal

abbrev pub invariant-loop-number : goal.invariant-loop-number
invariant-loop-number l = record {
  leaves : (header : Header) → l.boxes ≡ boxes_of header (pieces_in l.buffers)
      → l.leaves.items ++ leaves_from header l.offset (in_order (pieces_in l.buffers) (drop l.number-index l.numbers)) ≡ leaves_from header 0 (in_order (pieces_in l.buffers) l.numbers);
  left : l.offset + length (concat (in_order (pieces_in l.buffers) (drop l.number-index l.numbers))) ≡ length (concat (in_order (pieces_in l.buffers) l.numbers));
}
