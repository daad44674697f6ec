use Rattle.std.proofs.Common.{◌≡◌, ◌+◌, length, drop}
use Rattle.fgb_outside.specs.Asked.{positions}
use Rattle.make_command.proofs.querying.count_positions.Given as goal

-- those that are left complete the count
abbrev pub invariant-loop-pair : goal.invariant-loop-pair
invariant-loop-pair l = l.count + length (positions (drop l.pair-index l.pairs)) ≡ length (positions l.pairs)
