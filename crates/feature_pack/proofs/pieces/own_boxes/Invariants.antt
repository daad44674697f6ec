use Rattle.std.proofs.Common.{◌≡◌, take}
use Rattle.std.specs.List.{AllByRecursion}
use Rattle.order_keys.specs.Boxes.{IsBox}
use Rattle.packed_file.specs.Packing.{boxes_of}
use Rattle.feature_pack.specs.Pieces.{HasPatterns, pieces_in}
use Rattle.feature_pack.proofs.pieces.own_boxes.Given as goal

abbrev pub invariant-loop-buffer : goal.invariant-loop-buffer
invariant-loop-buffer l = record {
  boxes : l.boxes.items ≡ boxes_of l.header (pieces_in (take l.buffer-index l.buffers));
  sound : AllByRecursion IsBox l.boxes.items;
  patterns : AllByRecursion HasPatterns l.boxes.items;
}
