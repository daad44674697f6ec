use Rattle.std.proofs.Common.{ap, sym, subst, ◌∙◌, rules}
use Rattle.std.proofs.lemmas.List.Sorted.{answers_always, IsNonDecreasingBy-from_sort_by_key}
use Rattle.std.proofs.lemmas.Result.{IfOk-weaker}
use Rattle.feature_order.specs.declared.rank.Place.{Place}
use Rattle.feature_order.specs.Order.{IsOrder}
use Rattle.feature_order.proofs.Places.{numbers_of, sorted_is_order}
use Rattle.feature_order.proofs.rank.order.Goals as goal

pub returns : goal.returns
returns c =
    let is =
    sorted_is_order c.args.boxes.now _ _ c.in_ok-places.ensures.numbers c.in_ok-places.ensures.ranks c.in_ok-sort_by_key.ensures.permutation
    (IsNonDecreasingBy-from_sort_by_key (λ (p : Place). p.rank) _ c.in_ok-sort_by_key.ensures.sorted (λ a r q k. search rules))
    (c.in_ok-sort_by_key.ensures.stable (λ (p : Place). p.rank) (answers_always _ _ _ (λ f a r g h. search rules))) in
    IfOk-weaker c.numbers.result _ _ (λ numbers same. subst (IsOrder c.args.boxes.now) (sym (same ∙ ap numbers_of c.deref.ensures.value)) is) c.numbers.ensures
