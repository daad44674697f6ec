use Rattle.std.proofs.Common.{Some, ap, sym, subst, ◌∙◌}
use Rattle.order_keys.specs.declared.words.Spelling.TheVariants.{Number}
use Rattle.order_keys.specs.Words.{IsBound}
use Rattle.order_keys.proofs.Corners.{only_result}
use Rattle.order_keys.proofs.words.read_bound.Goals as goal

pub returns-in-Some-Number-clause-only : goal.returns-in-Some-Number-clause-only
returns-in-Some-Number-clause-only c = λ b spelled.
    let mine = subst (λ s. IsBound s b) (sym c.in-Some-Number.ensures ∙ ap Some c.in-Some-Number.field-0-is) spelled in
    only_result (Some (Number c.in-Some-Number.fraction)) c.exact_coord.result c.exact_coord.ensures.ok c.exact_coord.ensures.fault b mine
