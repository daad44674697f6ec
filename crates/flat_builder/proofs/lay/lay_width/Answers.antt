use Rattle.std.proofs.Common.{◌+◌, ◌++◌, length, take, sym, ap, ◌∙◌, arith}
use Rattle.std.proofs.lemmas.List.{append-nil}
use Rattle.flat_builder.specs.Trees.{entry_count}
use Rattle.flat_builder.specs.Laying.{of_width}
use Rattle.flat_builder.specs.Fields.{fields_of}
use Rattle.flat_builder.specs.Blanks.{begun, blanks}
use Rattle.flat_builder.proofs.Entries.{lacks_earlier, took_more, left_out, id_inside}
use Rattle.flat_builder.proofs.lay.lay_width.Goals.{then-width+in_ok-lay_field, else-width}
use Rattle.flat_builder.proofs.lay.lay_width.Goals as goal

pub loop-field-init : goal.loop-field-init
unfolding of_width
loop-field-init c = record {
  grown = omega arith;
  laid = λ front middle before at long fresh is. is ∙ ap (begun front (entry_count (fields_of c.args.fields.now)) middle (c.args.table + 4)) (sym (append-nil before));
}

pub lay_field-requires-clause-inside : goal.lay_field-requires-clause-inside
lay_field-requires-clause-inside c =
    omega (arith, id_inside c.args.fields.now c.loop-field.field-index c.field-item.result c.field-item.is c.requires.ascends c.loop-field-test.true)

pub loop-field-preserved : goal.loop-field-preserved
loop-field-preserved c =
    let fs = c.args.fields.now in
    let count = entry_count (fields_of fs) in
    let i = c.loop-field.field-index in
    let f = c.field-item.result in
    let w = c.args.width in
    let inside = c.loop-field-test.true in
    let wide = c.width.ensures.value in
    elim c.if-width.branch [
      | then-width+in_ok-lay_field b ↦ record {
        grown = omega (arith, c.loop-field.invariant.grown, b.in_ok-lay_field.ensures.grown, ap (λ out. length out.items) b.out-is);
        laid = λ front middle before at long fresh is.
            let same = sym wide ∙ b.if-width.true in
            let earlier = before ++ of_width w (blanks (take i fs)) in
            let lacks = lacks_earlier fs i w f before c.field-item.is inside c.requires.ascends same fresh in
            let own = id_inside fs i f c.field-item.is c.requires.ascends inside in
            ap (λ out. out.items) b.out-is
            ∙ b.in_ok-lay_field.ensures.laid front middle count earlier at long own lacks (c.loop-field.invariant.laid front middle before at long fresh is)
            ∙ ap (begun front count middle (c.args.table + 4)) (took_more fs i w f before c.field-item.is inside same);
      }
      | else-width b ↦ record {
        grown = omega (arith, c.loop-field.invariant.grown, ap (λ out. length out.items) b.out-is);
        laid = λ front middle before at long fresh is.
            ap (λ out. out.items) b.out-is
            ∙ c.loop-field.invariant.laid front middle before at long fresh is
            ∙ ap (begun front count middle (c.args.table + 4)) (left_out fs i w f before c.field-item.is inside (λ same. b.if-width.false (wide ∙ same)));
      }
    ]
