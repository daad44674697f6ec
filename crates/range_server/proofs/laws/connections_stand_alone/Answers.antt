use Rattle.range_server.proofs.AnyPieces.{for_any_events}
use Rattle.range_server.proofs.laws.connections_stand_alone.Goals as goal

pub returns : goal.returns
returns c = for_any_events
