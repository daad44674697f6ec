use Rattle.std.proofs.Common.{◌≡◌, ◌++◌, take, None}
use Rattle.range_reply.specs.Heads.{next_len}
use Rattle.range_server.proofs.kept.keep.Given as goal

abbrev pub invariant-loop-at : goal.invariant-loop-at
invariant-loop-at l = record {
  bytes : l.kept.items ≡ l.initial.kept.items ++ take l.at l.piece;
  unended : next_len l.kept.items ≡ None;
}
