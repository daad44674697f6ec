use Rattle.std.proofs.Common.{refl}
use Rattle.hit_runs.proofs.Places.{leaves_laid, leaves_positions}
use Rattle.hit_runs.proofs.laws.files_are_laid.Goals as goal

pub returns-clause-laid : goal.returns-clause-laid
returns-clause-laid c = λ image t pieces hits leaves file rises are. leaves_laid image t pieces file _ refl hits leaves 0 rises are

pub returns-clause-positions : goal.returns-clause-positions
returns-clause-positions c = λ image t pieces hits leaves file are. leaves_positions image t pieces file _ refl hits leaves are
