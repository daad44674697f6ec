use Rattle.std.proofs.Common.{ap, sym, ◌∙◌}
use Rattle.std.specs.Option.{option_map}
use Rattle.fgb_schema.specs.Properties.{Property}
use Rattle.fgb_feature.specs.Pairs.{property_of}
use Rattle.fgb_feature.specs.Views.{properties_of}
use Rattle.fgb_where.specs.Holding.{first_pair}
use Rattle.fgb_where.proofs.Firsts.{pair_here, pair_later}
use Rattle.fgb_where.proofs.bound.first_value.Goals as goal

pub returns-then-from-number : goal.returns-then-from-number
returns-then-from-number c =
    let pair = property_of (c.in-Some.column, c.in-Some.value) in
    ap (option_map (λ (p : Property). p.content))
    (sym (pair_here c.args.number pair (properties_of c.next.new.self) (sym c.from.ensures ∙ c.if-from-number.true))
    ∙ ap (first_pair c.args.number) (sym c.in-Some.ensures.steps) ∙ c.loop-column.invariant)

pub loop-column-preserved : goal.loop-column-preserved
loop-column-preserved c =
    let pair = property_of (c.in-Some.column, c.in-Some.value) in
    sym (pair_later c.args.number pair (properties_of c.next.new.self) (λ same. c.if-from-number.false (c.from.ensures ∙ same)))
    ∙ ap (first_pair c.args.number) (sym c.in-Some.ensures.steps) ∙ c.loop-column.invariant

pub returns : goal.returns
returns c = ap (option_map (λ (p : Property). p.content)) (ap (first_pair c.args.number) (sym c.in-None.ensures.steps.0) ∙ c.loop-column.invariant)
