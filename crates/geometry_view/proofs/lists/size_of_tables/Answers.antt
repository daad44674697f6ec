use Rattle.std.proofs.Common.{arith}
use Rattle.geometry_view.proofs.ReadLists.{tables_within}
use Rattle.geometry_view.proofs.lists.size_of_tables.Goals as goal

pub overflow_mul-result : goal.overflow_mul-result
overflow_mul-result c = omega (arith, tables_within c.in-Some.tables)

pub returns-in-Some-clause-small : goal.returns-in-Some-clause-small
returns-in-Some-clause-small c = omega (arith, tables_within c.in-Some.tables)
