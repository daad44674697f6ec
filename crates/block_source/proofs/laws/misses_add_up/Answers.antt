use Rattle.block_source.proofs.Visiting.{answered_misses, answered_visits, misses_from-append}
use Rattle.block_source.proofs.laws.misses_add_up.Goals as goal

pub returns-clause-front : goal.returns-clause-front
returns-clause-front c = misses_from-append

pub returns-clause-calls : goal.returns-clause-calls
returns-clause-calls c = answered_visits

pub returns-clause-from_new : goal.returns-clause-from_new
returns-clause-from_new c = answered_misses
