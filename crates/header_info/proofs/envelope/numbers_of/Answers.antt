use Rattle.std.proofs.Common.{◌<◌, ◌≤◌, ◌^◌, [], ◌∷◌, ◌++◌, length, take, ◌∙◌, ap, sym, subst, add-one, arith}
use Rattle.std.specs.List.{AllByRecursion}
use Rattle.std.proofs.Math.Seq.{take-suc}
use Rattle.std.proofs.lemmas.List.{take_all}
use Rattle.flat_layout.specs.Layout.{longs}
use Rattle.flat_layout.proofs.Numbers.{length-longs}
use Rattle.flat_views.specs.Vectors.{longs_shown, vector_bytes, vector_place}
use Rattle.header_info.proofs.Lists.{all_more}
use Rattle.header_info.proofs.envelope.numbers_of.Goals as goal

pub loop-i-preserved : goal.loop-i-preserved
loop-i-preserved c =
    let b = vector_bytes c.in-Some.view in let v = vector_place c.in-Some.view in
    let number = c.at_u64.result in let i = c.loop-i.i in
    let early : i < length (longs b v) = let len = length-longs b v in omega (arith, len, c.len-i-end.ensures, c.loop-i-test.true) in record {
      shown =
          c.in_ok-push.ensures.items ∙ ap (λ numbers. numbers ++ number ∷ []) c.loop-i.invariant.shown ∙ ap (λ n. take i (longs b v) ++ n ∷ []) c.at_u64.ensures
          ∙ sym (take-suc (longs b v) i 0 early) ∙ ap (λ n. take n (longs b v)) (sym (add-one i));
      sound = subst (AllByRecursion (λ x. x < 2 ^ 64)) (sym c.in_ok-push.ensures.items) (all_more (λ x. x < 2 ^ 64) c.loop-i.numbers.items number c.loop-i.invariant.sound c.at_u64.type_inv);
    }

pub returns-clause-ok : goal.returns-clause-ok
returns-clause-ok c =
    let b = vector_bytes c.in-Some.view in let v = vector_place c.in-Some.view in
    let late : length (longs b v) ≤ c.loop-i.i = let len = length-longs b v in omega (arith, len, c.len-i-end.ensures, c.loop-i-test.false) in
    c.loop-i.invariant.shown ∙ take_all c.loop-i.i (longs b v) late ∙ sym (ap longs_shown c.in-Some.is)
