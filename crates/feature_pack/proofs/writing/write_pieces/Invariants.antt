use Rattle.std.proofs.Common.{[], take}
use Rattle.std.specs.List.{concat}
use Rattle.packed_file.specs.Packing.{in_order}
use Rattle.sink_page.specs.Pages.{Adds}
use Rattle.feature_pack.specs.Pieces.{pieces_in}
use Rattle.feature_pack.proofs.writing.write_pieces.Given as goal

abbrev pub invariant-loop-number : goal.invariant-loop-number
invariant-loop-number g l = Adds (g.W.Sink.shown l.fn.out) (g.W.Sink.shown l.out) [] l.page (concat (in_order (pieces_in l.buffers) (take l.number-index l.numbers)))
