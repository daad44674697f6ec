use Rattle.feature_info.proofs.Standing.{some_stands}
use Rattle.feature_info.proofs.feature.can_stand.Goals as goal

pub returns-in-Some : goal.returns-in-Some
returns-in-Some c = some_stands c.args.geometry.now c.in-Some.shape c.in-Some.is c.kind.ensures.sound
