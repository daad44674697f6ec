use Rattle.std.proofs.Common.{◌≡◌, true, false, [], ◌∷◌, inl, inr, refl, sym, ap, ◌∙◌, if◌then◌else◌}
use Rattle.flat_layout.proofs.Judging.{exit}
use Rattle.fgb_schema.specs.Shapes.{shape, none}
use Rattle.wkb_grammar.specs.Grammar.{is_nowhere, point}
use Rattle.wkb_grammar.specs.ShapesShown.{shape_of_points}
use Rattle.wkb_reader.specs.Gathered.{position_of}
use Rattle.wkb_reader.specs.Heads.{order_of}
use Rattle.wkb_reader.proofs.Bodies.{point_fails}
use Rattle.wkb_reader.proofs.Lists.{adds_one, lists_of_none, shape_gathered}
use Rattle.wkb_reader.proofs.shapes.take_point.Goals as goal

pub returns-in_err-position-clause-err : goal.returns-in_err-position-clause-err
returns-in_err-position-clause-err c = exit _ _ _ c.in_err-position.field-0.0 c.from_residual.ensures.1 (c.in_err-position.ensures.err true)

pub returns-then-is_nowhere-clause-ok : goal.returns-then-is_nowhere-clause-ok
returns-then-is_nowhere-clause-ok c dialect =
    let p = position_of c.in_ok-position.position in
    let d = c.args.dimension in
    let nowhere : is_nowhere p ≡ true = sym c.is_nowhere.ensures ∙ c.if-is_nowhere.true in
    record {
      taken = point p;
      is = record { is = inr (c.in_ok-position.ensures.spelled.spelled, nowhere); speaks = tt; same = refl };
      passed = c.in_ok-position.ensures.ok;
      shown = c.new.ensures ∙ (λ i. shape 1 [] [] (sym (lists_of_none d) i) none) ∙ ap (λ e. shape_of_points 1 d (if e then [] else p ∷ []) []) (sym nowhere);
    }

pub returns-in_err-judge-clause-err : goal.returns-in_err-judge-clause-err
returns-in_err-judge-clause-err c =
    exit _ _ _ c.in_err-judge.field-0.0 c.from_residual-in_err-judge.ensures.1
    (point_fails (order_of c.args.order) c.args.dimension true (position_of c.in_ok-position.position) c.args.cursor.now c.take.new.cursor c.in_err-judge.field-0.0
    c.in_ok-position.ensures.ok c.in_ok-position.ensures.spelled.spelled (sym c.is_nowhere.ensures ∙ c.if-is_nowhere.false) c.in_err-judge.ensures.err)

pub returns-clause-ok : goal.returns-clause-ok
returns-clause-ok c dialect =
    let p = position_of c.in_ok-position.position in
    let d = c.args.dimension in
    let somewhere : is_nowhere p ≡ false = sym c.is_nowhere.ensures ∙ c.if-is_nowhere.false in
    let put = c.in_ok-push.ensures in
    let empty = c.new-points.ensures in
    let adds = adds_one d c.new-points.result c.push.new.self c.in_ok-position.position c.in_ok-position.ensures.spelled put.xy put.z put.m in
    record {
      taken = point p;
      is = record {
        is = inl (record { spelled = c.in_ok-position.ensures.spelled.spelled; finite_x = c.in_ok-judge.ensures.finite_x; finite_y = c.in_ok-judge.ensures.finite_y });
        speaks = tt;
        same = refl;
      };
      passed = c.in_ok-position.ensures.ok;
      shown = c.in_ok-shape.ensures ∙ shape_gathered 1 d c.new-points.result c.push.new.self (p ∷ []) empty.xy empty.z empty.m adds
          ∙ ap (λ e. shape_of_points 1 d (if e then [] else p ∷ []) []) (sym somewhere);
    }
