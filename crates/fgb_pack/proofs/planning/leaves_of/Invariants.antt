use Rattle.std.proofs.Common.{◌≡◌, ◌++◌, drop}
use Rattle.fgb_pack.specs.Plans.{leaves_over}
use Rattle.fgb_pack.proofs.planning.leaves_of.Given as goal

abbrev pub invariant-loop-number : goal.invariant-loop-number
invariant-loop-number l = l.leaves.items ++ leaves_over l.survey l.offset (drop l.number-index l.numbers) ≡ leaves_over l.survey 0 l.numbers
