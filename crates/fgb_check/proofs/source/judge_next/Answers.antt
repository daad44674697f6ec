use Rattle.std.proofs.Common.{arith}
use Rattle.read_stop.proofs.Stopping.{refused_exit}
use Rattle.fgb_check.proofs.Beside.{leaf_agrees, leaf_refuses}
use Rattle.fgb_check.proofs.source.judge_next.Goals as goal

pub returns-in_default-clause-agrees : goal.returns-in_default-clause-agrees
returns-in_default-clause-agrees g c = λ place t over image told begins some. let none = rw c.in_default.is at (c.in_ok-leaf.ensures.leaf place t over) in absurd (omega (arith, none.0, some))

pub returns-in_default-clause-given : goal.returns-in_default-clause-given
returns-in_default-clause-given g c = λ place t over. let none = rw c.in_default.is at (c.in_ok-leaf.ensures.leaf place t over) in omega (arith, none.0, none.1)

pub place-requires : goal.place-requires
place-requires g c = let of = c.requires.leaves in let one = rw c.in-Some.is at (c.in_ok-leaf.ensures.leaf of.0 of.1 of.2) in omega (arith, one.1)

pub returns-in_err-judge_leaf-clause-refused : goal.returns-in_err-judge_leaf-clause-refused
returns-in_err-judge_leaf-clause-refused g c = λ place t over. let one = rw c.in-Some.is at (c.in_ok-leaf.ensures.leaf place t over) in
    refused_exit c.from_residual-in_err-judge_leaf.result c.in_err-judge_leaf.field-0.0 _ c.from_residual-in_err-judge_leaf.ensures.1
    (λ image told begins. leaf_refuses image place t _ c.in-Some.leaf (one.2 image told) begins c.args.offset c.args.own c.place.result _ one.0 one.1 (c.place.ensures place t (c.in_ok-leaf.ensures.over place t over)) c.in_err-judge_leaf.ensures)

pub returns-clause-agrees : goal.returns-clause-agrees
returns-clause-agrees g c = λ place t over image told begins. let one = rw c.in-Some.is at (c.in_ok-leaf.ensures.leaf place t over) in
    leaf_agrees image place t _ c.in-Some.leaf (one.2 image told) begins c.args.offset c.args.own c.in_ok-judge_leaf.ensures

pub returns-clause-given : goal.returns-clause-given
returns-clause-given g c = λ place t over. let one = rw c.in-Some.is at (c.in_ok-leaf.ensures.leaf place t over) in omega (arith, one.0, one.1)
