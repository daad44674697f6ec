use Rattle.std.proofs.Common.{◌≡◌, ◌<◌, ◌==◌, length, false, sym, eqb-true, arith}
use Rattle.std.proofs.lemmas.Bool.Decides.{nat_tests}
use Rattle.fgb_schema.specs.Headers.{types}
use Rattle.fgb_header.specs.Views.{columns_shown}
use Rattle.fgb_feature.proofs.KeyPlaces.{broken_front}
use Rattle.fgb_feature.proofs.PropertyLists.{properties_none}
use Rattle.fgb_feature.proofs.ReadPairs.{left_clean, left_steps, left_fewer}
use Rattle.fgb_feature.proofs.props.PropsIterator.next.Goals as goal

pub returns-then-is_empty-clause-steps : goal.returns-then-is_empty-clause-steps
returns-then-is_empty-clause-steps c =
    let none = properties_none (types (columns_shown c.args.self.now.columns)) c.args.self.now.bytes.now (eqb-true (length c.args.self.now.bytes.now) 0 (sym c.if-is_empty.ensures)) in
    (none, none)

pub unreachable-requires : goal.unreachable-requires
unreachable-requires c =
    let b = c.args.self.now.bytes.now in
    let is : false ≡ (length b == 0) = c.if-is_empty.ensures in
    let some : 0 < length b = grind (arith, nat_tests) in
    c.args.self.now.clean 0 c.in_default.field-0 (broken_front (types (columns_shown c.args.self.now.columns)) b c.in_default.field-0 some c.in_default.ensures)

pub invariant_of-self : goal.invariant_of-self
invariant_of-self c = record {
  clean = left_clean (types (columns_shown c.args.self.now.columns)) c.args.self.now.bytes.now c.in-Ok.column c.in-Ok.size c.in-Ok.value c.in-Ok.ensures c.args.self.now.clean;
}

pub returns-clause-steps : goal.returns-clause-steps
returns-clause-steps c =
    left_steps (types (columns_shown c.args.self.now.columns)) c.args.self.now.bytes.now c.in-Ok.column c.in-Ok.size c.in-Ok.value c.in-Ok.ensures

pub returns-clause-goes : goal.returns-clause-goes
returns-clause-goes c =
    let fewer = left_fewer (types (columns_shown c.args.self.now.columns)) c.args.self.now.bytes.now c.in-Ok.column c.in-Ok.size c.in-Ok.value c.in-Ok.ensures in
    record { on = λ finite. (tt, tt, fewer); keeps = tt; rests = λ finite. tt }
