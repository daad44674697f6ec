use Rattle.std.proofs.Common.{take}
use Rattle.wkb_features.specs.Values.{AreValues}
use Rattle.wkb_features.proofs.values.spell.Given as goal

abbrev pub invariant-loop-i : goal.invariant-loop-i
invariant-loop-i l = AreValues (take l.i l.features) l.values.items
