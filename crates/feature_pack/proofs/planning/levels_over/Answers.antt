use Rattle.std.proofs.Common.{refl}
use Rattle.packed_file.specs.Packing.{no_index}
use Rattle.fgb_pack.proofs.Rooms.{over_levels, lacks_tree}
use Rattle.feature_pack.proofs.planning.levels_over.Goals as goal

pub returns-then-features-eq0-clause-over : goal.returns-then-features-eq0-clause-over
returns-then-features-eq0-clause-over c = no_index c.if-features-eq0.true

pub returns-in-Some-clause-over : goal.returns-in-Some-clause-over
returns-in-Some-clause-over c = over_levels c.in-Some.ensures

pub returns-in-None-clause-none : goal.returns-in-None-clause-none
returns-in-None-clause-none c = (refl, lacks_tree c.requires c.if-features-eq0.false c.in-None.ensures)
