use Rattle.std.proofs.Common.{false, [], ◌∷◌, arith}
use Rattle.flat_layout.proofs.Judging.{exit}
use Rattle.wkb_grammar.specs.Grammar.{IsPosition, position_bytes}
use Rattle.wkb_reader.specs.Broken.{BreaksPosition}
use Rattle.wkb_reader.specs.Gathered.{Adds}
use Rattle.wkb_reader.specs.Heads.{order_of}
use Rattle.wkb_reader.proofs.Lists.{adds_more, adds_none}
use Rattle.wkb_reader.proofs.Loops.{all_taken, count_cut, none_yet, one_fails, one_more}
use Rattle.wkb_reader.proofs.points.Points.take_line.Goals as goal

pub returns-in_err-count-clause-err : goal.returns-in_err-count-clause-err
returns-in_err-count-clause-err c =
    let o = order_of c.args.order in let d = c.args.dimension in
    exit _ _ _ c.in_err-count.field-0.0 c.from_residual.ensures.1
    (count_cut (position_bytes o) (IsPosition d) o (BreaksPosition o d false) c.in_err-count.field-0.0 c.args.cursor.now.at c.args.cursor.now.rest.now c.in_err-count.ensures.err)

pub loop-init : goal.loop-init
loop-init c =
    let d = c.args.dimension in
    let kept = c.in_ok-reserve.ensures in
    none_yet (position_bytes (order_of c.args.order)) (IsPosition d) c.word.new.self (Adds d c.args.self.now c.reserve.new.self)
    (adds_none d c.args.self.now c.reserve.new.self kept.xy kept.z kept.m)

pub returns-in_err-take-clause-err : goal.returns-in_err-take-clause-err
returns-in_err-take-clause-err c =
    let o = order_of c.args.order in let d = c.args.dimension in
    exit _ _ _ c.in_err-take.field-0.0 c.from_residual-in_err-take.ensures.1
    (one_fails (position_bytes o) (IsPosition d) o c.in_ok-count.count c.loop.counter c.args.cursor.now c.word.new.self c.loop.cursor (Adds d c.args.self.now c.loop.self) (omega arith)
    c.in_ok-count.ensures.ok c.loop.invariant c.in_err-take.field-0.0 (BreaksPosition o d false) (omega arith) c.in_err-take.ensures.err)

pub loop-preserved : goal.loop-preserved
loop-preserved c =
    let d = c.args.dimension in
    one_more (position_bytes (order_of c.args.order)) (IsPosition d) c.loop.counter c.word.new.self c.loop.cursor c.take.new.cursor (Adds d c.args.self.now c.loop.self)
    (Adds d c.args.self.now c.take.new.self) (λ p. Adds d c.loop.self c.take.new.self (p ∷ [])) c.loop.invariant c.in_ok-take.ensures.ok
    (λ front p _ _ before new. adds_more d c.args.self.now c.loop.self c.take.new.self front (p ∷ []) before new)

pub returns-clause-ok : goal.returns-clause-ok
returns-clause-ok c =
    let d = c.args.dimension in
    let o = order_of c.args.order in
    all_taken (position_bytes o) (IsPosition d) o c.in_ok-count.count c.loop.counter c.args.cursor.now c.word.new.self c.loop.cursor (Adds d c.args.self.now c.loop.self) (omega arith)
    c.in_ok-count.ensures.ok c.loop.invariant (omega arith)
