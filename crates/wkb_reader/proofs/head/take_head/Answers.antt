use Rattle.std.proofs.Common.{[], ◌∷◌, refl, ◌∙◌, arith}
use Rattle.flat_layout.specs.declared.Rule.TheVariants.{WkbDepth, WkbType}
use Rattle.flat_layout.proofs.Judging.{exit}
use Rattle.geometry_view.specs.Kinds.{number_of}
use Rattle.wkb_grammar.specs.Grammar.{number_bytes, order_byte}
use Rattle.wkb_reader.specs.Broken.{BreaksHead, misfit, other_type, too_deep}
use Rattle.wkb_reader.specs.Heads.{order_of, spelled_in, standing_of}
use Rattle.wkb_reader.proofs.Passing.{names_ahead, names_here, passes_more}
use Rattle.wkb_reader.proofs.Types.{front_taken, head_as, head_taken, srid_cut, type_cut}
use Rattle.wkb_reader.proofs.head.take_head.Goals as goal

pub returns-in_err-order-clause-err : goal.returns-in_err-order-clause-err
returns-in_err-order-clause-err c =
    exit _ _ _ c.in_err-order.field-0.0 c.from_residual.ensures.1 (c.in_err-order.ensures.err c.args.dialect c.args.level (standing_of c.args.standing))

pub returns-then-level-gt-DEEPEST-clause-err : goal.returns-then-level-gt-DEEPEST-clause-err
returns-then-level-gt-DEEPEST-clause-err c =
    names_here c.refused.result c.args.cursor.now.at WkbDepth (BreaksHead c.args.dialect c.args.level (standing_of c.args.standing) c.args.cursor.now.rest.now) c.refused.ensures
    (too_deep (order_of c.in_ok-order.order) c.order.new.self.rest.now c.in_ok-order.ensures.ok.stood (omega arith))

pub returns-in_err-number-clause-err : goal.returns-in_err-number-clause-err
returns-in_err-number-clause-err c =
    exit _ _ _ c.in_err-number.field-0.0 c.from_residual-in_err-number.ensures.1
    (type_cut c.args.dialect (order_of c.in_ok-order.order) c.args.level (standing_of c.args.standing) c.args.cursor.now c.order.new.self c.in_err-number.field-0.0 (omega arith) c.in_ok-order.ensures.ok
    c.in_err-number.ensures.err)

pub returns-in_default-clause-err : goal.returns-in_default-clause-err
returns-in_default-clause-err c =
    let o = order_of c.in_ok-order.order in
    let head = passes_more c.args.cursor.now c.order.new.self c.word.new.self (order_byte o ∷ []) (number_bytes o 4 c.in_ok-number.number) c.in_ok-order.ensures.ok c.in_ok-number.ensures.ok in
    names_ahead c.refused-in_default.result c.args.cursor.now.at c.order.new.self.at 1 WkbType (BreaksHead c.args.dialect c.args.level (standing_of c.args.standing) c.args.cursor.now.rest.now)
    c.refused-in_default.ensures c.in_ok-order.ensures.ok.moved
    (other_type o c.in_ok-number.number c.word.new.self.rest.now head.stood (omega arith) (omega arith) c.in_default.ensures)

pub returns-in-Some-misfit-clause-err : goal.returns-in-Some-misfit-clause-err
returns-in-Some-misfit-clause-err c =
    let o = order_of c.in_ok-order.order in
    let says = c.in-Some.ensures in
    let t = says.spelled in
    let kind = number_of c.in-Some.found.kind in
    let front = front_taken o t t.srid kind c.in_ok-number.number c.args.cursor.now c.order.new.self c.word.new.self refl says.same c.in_ok-order.ensures.ok c.in_ok-number.ensures.ok in
    names_here c.refused-in-Some-misfit.result c.args.cursor.now.at c.in-Some-misfit.rule (BreaksHead c.args.dialect c.args.level (standing_of c.args.standing) c.args.cursor.now.rest.now)
    c.refused-in-Some-misfit.ensures
    (misfit (spelled_in o t.thousands t.flags t.srid) kind c.in-Some.found.dimension c.word.new.self.rest.now front.stood (omega arith)
    (head_as c.args.dialect o t t.srid kind c.in-Some.found.dimension refl says.is.is.srid says.is) c.in-Some-misfit.ensures)

pub returns-in_err-pass_srid-clause-err : goal.returns-in_err-pass_srid-clause-err
returns-in_err-pass_srid-clause-err c =
    let o = order_of c.in_ok-order.order in
    let says = c.in-Some.ensures in
    let t = says.spelled in
    let found = c.in-Some.found in
    let kind = number_of found.kind in
    let e = c.in_err-pass_srid.field-0.0 in
    let front = front_taken o t t.srid kind c.in_ok-number.number c.args.cursor.now c.order.new.self c.word.new.self refl says.same c.in_ok-order.ensures.ok c.in_ok-number.ensures.ok in
    exit _ _ _ e c.from_residual-in_err-pass_srid.ensures.1
    (srid_cut c.args.dialect (spelled_in o t.thousands t.flags t.srid) kind c.args.level found.dimension (standing_of c.args.standing) c.args.cursor.now c.word.new.self e (omega arith) front
    (head_as c.args.dialect o t t.srid kind found.dimension refl says.is.is.srid says.is) c.in_default-misfit.ensures (says.srid ∙ c.in_err-pass_srid.ensures.there) c.in_err-pass_srid.ensures.err)

pub returns-clause-ok : goal.returns-clause-ok
returns-clause-ok c =
    head_taken c.args.dialect (order_of c.in_ok-order.order) c.in_ok-number.number c.in-Some.found c.args.cursor.now c.order.new.self c.word.new.self c.pass_srid.new.cursor c.in-Some.ensures
    c.in_ok-order.ensures.ok c.in_ok-number.ensures.ok c.in_ok-pass_srid.ensures.ok
