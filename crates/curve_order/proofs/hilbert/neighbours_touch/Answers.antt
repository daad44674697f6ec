use Rattle.std.proofs.Common.{arith}
use Rattle.curve_order.proofs.Along.{neighbours, within, same, begin, end}
use Rattle.curve_order.proofs.hilbert.neighbours_touch.Goals as goal

pub returns-clause-neighbours : goal.returns-clause-neighbours
returns-clause-neighbours c = neighbours 16

pub returns-clause-different : goal.returns-clause-different
returns-clause-different c = same 16

pub returns-clause-within : goal.returns-clause-within
returns-clause-within c = within 16

pub returns-clause-begin : goal.returns-clause-begin
returns-clause-begin c = begin 16

pub returns-clause-end : goal.returns-clause-end
returns-clause-end c = omega (arith, end 16)
