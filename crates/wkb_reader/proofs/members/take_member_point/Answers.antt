use Rattle.std.proofs.Common.{◌≡◌, true, false, not, inl, refl, sym, ap, ◌∙◌, arith, append_assoc, ◌++◌}
use Rattle.flat_layout.specs.declared.Rule.TheVariants.{WkbMember}
use Rattle.flat_layout.proofs.Judging.{exit}
use Rattle.geometry_view.specs.Kinds.{number_of}
use Rattle.wkb_grammar.specs.Grammar.{head_in, is_nowhere, point, srid_in, value}
use Rattle.wkb_reader.specs.Broken.{BreaksBody, BreaksHead, BreaksPosition, BreaksValue, empty_member, in_head, in_point, member_of}
use Rattle.wkb_reader.specs.Gathered.{position_of}
use Rattle.wkb_reader.specs.Heads.{order_of, spelled_in}
use Rattle.wkb_reader.proofs.Bodies.{body_fails, member_head, point_fails, takes_point, value_passed}
use Rattle.wkb_reader.proofs.Lists.{adds_one}
use Rattle.wkb_reader.proofs.Passing.{names_here, turned}
use Rattle.wkb_reader.proofs.members.take_member_point.Goals as goal

pub returns-in_err-head-clause-err : goal.returns-in_err-head-clause-err
returns-in_err-head-clause-err c =
    let b = c.args.cursor.now.rest.now in
    let standing = member_of 4 c.args.dimension in
    exit _ _ _ c.in_err-head.field-0.0 c.from_residual.ensures.1
    (turned c.in_err-head.field-0.0 c.args.cursor.now.at (BreaksHead c.args.dialect c.args.level standing b) (BreaksValue c.args.dialect c.args.level standing b) (λ q r broken. in_head broken) c.in_err-head.ensures.err)

pub returns-in_err-position-clause-err : goal.returns-in_err-position-clause-err
returns-in_err-position-clause-err c =
    let head = c.in_ok-head.head in
    let o = order_of head.order in
    let d = c.args.dimension in
    let suits = c.in_ok-head.ensures.suits in
    let e = c.in_err-position.field-0.0 in
    let mid = c.take_head.new.cursor in
    exit _ _ _ e c.from_residual-in_err-position.ensures.1
    (body_fails c.args.dialect o c.args.level 1 d (member_of 4 d) c.args.cursor.now mid c.in_ok-head.ensures.shallow (refl, refl)
    (member_head c.args.dialect o 1 (number_of head.kind) d head.dimension c.args.cursor.now mid (takes_point (number_of head.kind) suits.0) suits.1 c.in_ok-head.ensures.ok) e
    (turned e mid.at (BreaksPosition o d true mid.rest.now) (BreaksBody c.args.dialect c.args.level o 1 d mid.rest.now) (λ q r broken. in_point broken) (c.in_err-position.ensures.err true)))

pub returns-then-is_nowhere-clause-err : goal.returns-then-is_nowhere-clause-err
returns-then-is_nowhere-clause-err c =
    let head = c.in_ok-head.head in
    let o = order_of head.order in
    let d = c.args.dimension in
    let suits = c.in_ok-head.ensures.suits in
    let start = c.args.cursor.now in
    let mid = c.take_head.new.cursor in
    let p = position_of c.in_ok-position.position in
    let front = member_head c.args.dialect o 1 (number_of head.kind) d head.dimension start mid (takes_point (number_of head.kind) suits.0) suits.1 c.in_ok-head.ensures.ok in
    let s = spelled_in o front.thousands front.flags front.srid in
    names_here c.refused.result start.at WkbMember (BreaksValue c.args.dialect c.args.level (member_of 4 d) start.rest.now) c.refused.ensures
    (empty_member s d p c.take.new.cursor.rest.now
    (front.passed.stood ∙ append_assoc (head_in s 1) (srid_in s) mid.rest.now ∙ ap (λ l. head_in s 1 ++ (srid_in s ++ l)) c.in_ok-position.ensures.ok.stood)
    c.in_ok-head.ensures.shallow front.is c.in_ok-position.ensures.spelled.spelled (sym c.is_nowhere.ensures ∙ c.if-is_nowhere.true))

pub returns-in_err-judge-clause-err : goal.returns-in_err-judge-clause-err
returns-in_err-judge-clause-err c =
    let head = c.in_ok-head.head in
    let o = order_of head.order in
    let d = c.args.dimension in
    let suits = c.in_ok-head.ensures.suits in
    let e = c.in_err-judge.field-0.0 in
    let mid = c.take_head.new.cursor in
    exit _ _ _ e c.from_residual-in_err-judge.ensures.1
    (body_fails c.args.dialect o c.args.level 1 d (member_of 4 d) c.args.cursor.now mid c.in_ok-head.ensures.shallow (refl, refl)
    (member_head c.args.dialect o 1 (number_of head.kind) d head.dimension c.args.cursor.now mid (takes_point (number_of head.kind) suits.0) suits.1 c.in_ok-head.ensures.ok) e
    (turned e mid.at (BreaksPosition o d true mid.rest.now) (BreaksBody c.args.dialect c.args.level o 1 d mid.rest.now) (λ q r broken. in_point broken)
    (point_fails o d true (position_of c.in_ok-position.position) mid c.take.new.cursor e c.in_ok-position.ensures.ok c.in_ok-position.ensures.spelled.spelled
    (sym c.is_nowhere.ensures ∙ c.if-is_nowhere.false) c.in_err-judge.ensures.err)))

pub returns-clause-ok : goal.returns-clause-ok
returns-clause-ok c =
    let head = c.in_ok-head.head in
    let o = order_of head.order in
    let d = c.args.dimension in
    let suits = c.in_ok-head.ensures.suits in
    let start = c.args.cursor.now in
    let mid = c.take_head.new.cursor in
    let p = position_of c.in_ok-position.position in
    let somewhere : is_nowhere p ≡ false = sym c.is_nowhere.ensures ∙ c.if-is_nowhere.false in
    let put = c.in_ok-push.ensures in
    let front = member_head c.args.dialect o 1 (number_of head.kind) d head.dimension start mid (takes_point (number_of head.kind) suits.0) suits.1 c.in_ok-head.ensures.ok in
    record {
      taken = value (spelled_in o front.thousands front.flags front.srid) d (point p);
      is = record {
        is = (
          refl,
          inl (record { spelled = c.in_ok-position.ensures.spelled.spelled; finite_x = c.in_ok-judge.ensures.finite_x; finite_y = c.in_ok-judge.ensures.finite_y }),
          front.is.is,
        );
        speaks = (front.is.speaks, tt);
        fits = ap not somewhere;
        shallow = omega (arith, c.in_ok-head.ensures.shallow);
      };
      passed = value_passed c.args.dialect o c.args.level 1 d (member_of 4 d) start mid c.in_ok-head.ensures.shallow (refl, refl) front c.take.new.cursor (point p) refl c.in_ok-position.ensures.ok;
      shown = adds_one d c.args.points.now c.push.new.self c.in_ok-position.position c.in_ok-position.ensures.spelled put.xy put.z put.m;
    }
