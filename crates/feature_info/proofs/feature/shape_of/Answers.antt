use Rattle.std.proofs.Common.{Some, refl}
use Rattle.feature_info.proofs.Standing.{some_stands}
use Rattle.feature_info.proofs.feature.shape_of.Goals as goal

pub returns-in_ok-of-in-Some-clause-sound : goal.returns-in_ok-of-in-Some-clause-sound
returns-in_ok-of-in-Some-clause-sound c = some_stands (Some c.in_ok-of-in-Some.field-0) c.in_ok-of-in-Some.field-0 refl c.in_ok-of-in-Some.ensures.sound
