use Rattle.std.proofs.Common.{refl, arith}
use Rattle.flat_layout.proofs.Judging.{exit}
use Rattle.geometry_view.specs.Kinds.{number_of}
use Rattle.wkb_grammar.specs.Grammar.{line, value}
use Rattle.wkb_reader.specs.Broken.{BreaksBody, BreaksHead, BreaksLine, BreaksValue, in_head, in_line, member_of}
use Rattle.wkb_reader.specs.Heads.{order_of, spelled_in}
use Rattle.wkb_reader.proofs.Bodies.{body_fails, member_head, takes_line, value_passed}
use Rattle.wkb_reader.proofs.Passing.{turned}
use Rattle.wkb_reader.proofs.members.take_member_line.Goals as goal

pub returns-in_err-head-clause-err : goal.returns-in_err-head-clause-err
returns-in_err-head-clause-err c =
    let b = c.args.cursor.now.rest.now in
    let standing = member_of 5 c.args.dimension in
    exit _ _ _ c.in_err-head.field-0.0 c.from_residual.ensures.1
    (turned c.in_err-head.field-0.0 c.args.cursor.now.at (BreaksHead c.args.dialect c.args.level standing b) (BreaksValue c.args.dialect c.args.level standing b) (λ q r broken. in_head broken) c.in_err-head.ensures.err)

pub returns-in_err-take_ring-clause-err : goal.returns-in_err-take_ring-clause-err
returns-in_err-take_ring-clause-err c =
    let head = c.in_ok-head.head in
    let o = order_of head.order in
    let d = c.args.dimension in
    let suits = c.in_ok-head.ensures.suits in
    let e = c.in_err-take_ring.field-0.0 in
    let mid = c.take_head.new.cursor in
    exit _ _ _ e c.from_residual-in_err-take_ring.ensures.1
    (body_fails c.args.dialect o c.args.level 2 d (member_of 5 d) c.args.cursor.now mid c.in_ok-head.ensures.shallow (refl, refl)
    (member_head c.args.dialect o 2 (number_of head.kind) d head.dimension c.args.cursor.now mid (takes_line (number_of head.kind) suits.0) suits.1 c.in_ok-head.ensures.ok) e
    (turned e mid.at (BreaksLine o d mid.rest.now) (BreaksBody c.args.dialect c.args.level o 2 d mid.rest.now) (λ q r broken. in_line broken) c.in_err-take_ring.ensures.err))

pub returns-clause-ok : goal.returns-clause-ok
returns-clause-ok c =
    let head = c.in_ok-head.head in
    let o = order_of head.order in
    let d = c.args.dimension in
    let suits = c.in_ok-head.ensures.suits in
    let start = c.args.cursor.now in
    let mid = c.take_head.new.cursor in
    let ring = c.in_ok-take_ring.ensures.ok in
    let front = member_head c.args.dialect o 2 (number_of head.kind) d head.dimension start mid (takes_line (number_of head.kind) suits.0) suits.1 c.in_ok-head.ensures.ok in
    record {
      taken = value (spelled_in o front.thousands front.flags front.srid) d (line ring.taken);
      is = record {
        is = (refl, ring.is, front.is.is);
        speaks = (front.is.speaks, tt);
        fits = refl;
        shallow = omega (arith, c.in_ok-head.ensures.shallow);
      };
      passed = value_passed c.args.dialect o c.args.level 2 d (member_of 5 d) start mid c.in_ok-head.ensures.shallow (refl, refl) front c.take_ring.new.cursor (line ring.taken) refl ring.passed;
      shown = ring.shown;
    }
