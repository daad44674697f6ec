use Rattle.std.proofs.Common.{take}
use Rattle.geometry_view.proofs.OwnBoxes.{IsBoxOf}
use Rattle.geometry_view.proofs.OwnNumbers.{pairs_in}
use Rattle.geometry_view.proofs.geometry.box_of_pairs.Given as goal

abbrev pub invariant-loop-i : goal.invariant-loop-i
invariant-loop-i l = IsBoxOf (take l.i (pairs_in l.xy)) l.bounds
