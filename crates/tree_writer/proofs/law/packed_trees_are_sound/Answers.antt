use Rattle.tree_writer.proofs.Sound.{packed_long, packed_sound, packed_stored}
use Rattle.tree_writer.proofs.law.packed_trees_are_sound.Goals as goal

pub returns-clause-long : goal.returns-clause-long
returns-clause-long c = λ t leaves shape all. packed_long t leaves

pub returns-clause-nodes : goal.returns-clause-nodes
returns-clause-nodes c = λ t leaves front back k i shape few all fit is. packed_stored t leaves shape all few fit front back k i is

pub returns-clause-sound : goal.returns-clause-sound
returns-clause-sound c = λ t leaves front back shape few all fit each. packed_sound t leaves shape all few fit each front back
