use Rattle.std.proofs.Common.{◌≡◌, ◌-◌, ◌≤◌, ◌++◌, length, replicate, sym, ap, ◌∙◌, arith}
use Rattle.std.proofs.lemmas.Result.{IfOk-equal}
use Rattle.flat_builder.specs.Trees.{vector}
use Rattle.flat_builder.specs.Shown.{vector_item}
use Rattle.flat_builder.specs.Laying.{lay, stands}
use Rattle.flat_builder.specs.Blanks.{elements_in, width_in}
use Rattle.flat_builder.proofs.Pieces.{vector_laid}
use Rattle.flat_builder.proofs.ValueEnds.{same_vector}
use Rattle.flat_builder.proofs.value.FlatVector.lay.Goals as goal

pub returns : goal.returns
returns c =
    let v = c.args.self.now in
    let old = c.args.out.now.items in
    let cursor : c.len-cursor.result ≡ length old = omega arith in
    let place : c.stands.result ≡ stands (vector (width_in v) (elements_in v)) (length old) =
    c.stands.ensures.value ∙ ap (stands (vector_item v)) cursor ∙ ap (λ it. stands it (length old)) (same_vector v) in
    let behind : length old ≤ c.stands.result = omega arith in
    let front = c.in_ok-push_zeros.ensures ∙ ap (λ n. old ++ replicate (c.stands.result - n) 0) cursor in
    IfOk-equal c.fill.result _ _ _ c.fill.ensures
    (vector_laid old c.push_zeros.new.out.items c.push_number.new.out.items c.lay_elements.new.out.items (elements_in v) (width_in v) c.stands.result c.len.result place behind front c.in_ok-push_number.ensures c.len.ensures c.in_ok-lay_elements.ensures
    ∙ ap (λ it. old ++ lay it (length old)) (sym (same_vector v)))
