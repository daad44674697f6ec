use Rattle.std.proofs.Common.{◌≡◌, ◌≤◌, true, false, length, sym, subst, ◌∙◌, arith}
use Rattle.std.specs.Str.{bytes_eq}
use Rattle.fgb_header.specs.Views.{column_shown, columns_shown}
use Rattle.fgb_where.specs.Columns.{is_named}
use Rattle.fgb_where.proofs.Firsts.{none_more, position_at, position_none}
use Rattle.fgb_where.proofs.bound.first_named.Goals as goal

pub returns-then-eq : goal.returns-then-eq
returns-then-eq c =
    sym (position_at (is_named c.args.name.now) (columns_shown c.args.columns) c.loop-i.i (column_shown c.get.result) c.loop-i.invariant c.get.ensures
    (subst (λ s. bytes_eq s c.args.name.now ≡ true) c.name.ensures (sym c.eq.ensures ∙ c.if-eq.true)))

pub loop-i-preserved : goal.loop-i-preserved
loop-i-preserved c =
    none_more (is_named c.args.name.now) (columns_shown c.args.columns) c.loop-i.i (column_shown c.get.result) c.loop-i.invariant c.get.ensures
    (subst (λ s. bytes_eq s c.args.name.now ≡ false) c.name.ensures (sym c.eq.ensures ∙ c.if-eq.false))

pub returns : goal.returns
returns c =
    let far : length (columns_shown c.args.columns) ≤ c.loop-i.i = omega (arith, c.len-i-end.ensures, c.loop-i-test.false) in
    sym (position_none (is_named c.args.name.now) (columns_shown c.args.columns) c.loop-i.i far c.loop-i.invariant)
