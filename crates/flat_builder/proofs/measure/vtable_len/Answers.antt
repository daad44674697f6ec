use Rattle.std.proofs.Common.{arith}
use Rattle.flat_builder.specs.Laying.{vtable_len}
use Rattle.flat_builder.proofs.measure.vtable_len.Goals as goal

pub returns-clause-value : goal.returns-clause-value
unfolding vtable_len
returns-clause-value c = omega arith
