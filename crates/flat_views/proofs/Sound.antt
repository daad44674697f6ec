-- What the tactics use at the views' goals.
use Rattle.std.proofs.lemmas.Bool.Decides.{nat_tests}
use Rattle.flat_layout.proofs.Judging.{exit, names-through_offset, judges-through}
use Rattle.flat_layout.proofs.Numbers.{get_or-words, get_or-longs}

-- the exit of a `?`, and what is said of an offset and of what it leads to
pub ruleset through = (exit, names-through_offset, judges-through)

-- the numbers of a vector
pub ruleset numbers = (nat_tests, get_or-words, get_or-longs)
