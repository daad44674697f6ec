use Rattle.range_server.proofs.AnyPieces.{for_any_pieces}
use Rattle.range_server.proofs.laws.pieces_make_no_difference.Goals as goal

pub returns : goal.returns
returns c = for_any_pieces
