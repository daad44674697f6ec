use Rattle.std.proofs.Common.{◌<◌, ◌≤◌, ◌^◌, ◌∙◌, Some, length, sym, subst, ap, arith}
use Rattle.std.specs.List.{All}
use Rattle.std.proofs.lemmas.List.{take_all}
use Rattle.std.proofs.lemmas.List.Elements.{All-push}
use Rattle.std.proofs.lemmas.Option.{slice_get-get_or}
use Rattle.flat_layout.specs.Layout.{longs}
use Rattle.flat_layout.proofs.Numbers.{length-longs}
use Rattle.flat_views.specs.Vectors.{vector_bytes, vector_place}
use Rattle.owned_shape.proofs.Fields.{copy_more}
use Rattle.owned_shape.proofs.copies.numbers_of.Goals as goal

pub loop-i-preserved : goal.loop-i-preserved
loop-i-preserved c =
    let all = longs (vector_bytes c.args.list) (vector_place c.args.list) in
    let before = c.loop-i.numbers.items in let number = c.at_u64-number.result in let i = c.loop-i.i in
    let early : i < length all = omega (arith, length-longs (vector_bytes c.args.list) (vector_place c.args.list), c.len-count.ensures, c.loop-i-test.true) in
    record {
      copied = copy_more all before c.push.new.self.items i number c.loop-i.invariant.copied (slice_get-get_or all i 0 early ∙ ap (λ x. Some x) (sym c.at_u64-number.ensures)) c.in_ok-push.ensures.items;
      fits = subst (All (λ x. x < 2 ^ 64)) (sym c.in_ok-push.ensures.items) (All-push (λ x. x < 2 ^ 64) before number c.loop-i.invariant.fits c.at_u64-number.type_inv);
    }

pub returns-clause-value : goal.returns-clause-value
returns-clause-value c =
    let all = longs (vector_bytes c.args.list) (vector_place c.args.list) in
    let late : length all ≤ c.loop-i.i = omega (arith, length-longs (vector_bytes c.args.list) (vector_place c.args.list), c.len-count.ensures, c.loop-i-test.false) in
    c.loop-i.invariant.copied ∙ take_all c.loop-i.i all late
