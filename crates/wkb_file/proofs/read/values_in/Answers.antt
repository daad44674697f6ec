use Rattle.std.proofs.Common.{◌+◌, ◌≤◌, length, take, sym, ap, subst, arith}
use Rattle.std.proofs.lemmas.List.{length-drop}
use Rattle.flat_layout.proofs.Judging.{exit}
use Rattle.wkb_grammar.specs.Wkb.{Wkb}
use Rattle.wkb_reader.specs.Broken.{BreaksFront}
use Rattle.wkb_reader.specs.Refusals.{Refuses}
use Rattle.wkb_file.specs.Broken.{too_long}
use Rattle.wkb_file.specs.Values.{ValuesOf}
use Rattle.wkb_file.proofs.Reading.{all_read, named, next, sliced, step}
use Rattle.wkb_file.proofs.Spelled.{values_have_spellings}
use Rattle.wkb_file.proofs.read.values_in.Goals as goal

pub returns-then-bytes-gt-MOST-clause-refused : goal.returns-then-bytes-gt-MOST-clause-refused
returns-then-bytes-gt-MOST-clause-refused c = too_long (omega arith)

pub returns-in_err-shape-clause-refused : goal.returns-in_err-shape-clause-refused
returns-in_err-shape-clause-refused c =
    let so_far = c.loop-at.invariant in
    let e = c.in_err-shape.field-0.0 in
    let at = c.loop-at.at in
    let slice = sliced c.args.bytes.now at c.loop-at.shapes.items so_far.within so_far.values in
    exit _ _ _ e c.from_residual.ensures.1
    (named c.args.bytes.now at c.loop-at.shapes.items so_far.within so_far.values e so_far.small (omega arith)
    (subst (λ rest. Refuses at (BreaksFront rest) e) slice c.in_err-shape.ensures.refused))

pub returns-in_err-shape-clause-only_memory : goal.returns-in_err-shape-clause-only_memory
returns-in_err-shape-clause-only_memory c = λ all file.
    let so_far = c.loop-at.invariant in
    let first = next c.args.bytes.now c.loop-at.at c.loop-at.shapes.items so_far.within so_far.values all (omega arith) file.values in
    let slice = sliced c.args.bytes.now c.loop-at.at c.loop-at.shapes.items so_far.within so_far.values in
    exit _ _ _ c.in_err-shape.field-0.0 c.from_residual.ensures.1
    (c.in_err-shape.ensures.only_memory first.shape first.count (subst (λ rest. first.count ≤ length rest) (sym slice) first.inside) (subst (λ rest. Wkb first.shape (take first.count rest)) (sym slice) first.is))

pub loop-at-preserved : goal.loop-at-preserved
loop-at-preserved c =
    let so_far = c.loop-at.invariant in
    let at = c.loop-at.at in
    let bytes = c.args.bytes.now in
    let count = c.in_ok-shape.length in
    let slice = sliced bytes at c.loop-at.shapes.items so_far.within so_far.values in
    record {
      within = omega (arith, c.in_ok-shape.ensures.inside, ap length slice, length-drop at bytes, so_far.within);
      small = so_far.small;
      values = subst (λ shapes. ValuesOf shapes (take (at + count) bytes)) (sym c.in_ok-add.ensures)
          (step bytes at c.loop-at.shapes.items so_far.within so_far.values c.in_ok-shape.shape count
          (subst (λ rest. Wkb c.in_ok-shape.shape (take count rest)) slice c.in_ok-shape.ensures.value));
    }

pub returns-clause-spelled : goal.returns-clause-spelled
returns-clause-spelled c =
    let so_far = c.loop-at.invariant in
    values_have_spellings c.loop-at.shapes.items c.args.bytes.now (all_read c.args.bytes.now c.loop-at.at c.loop-at.shapes.items so_far.within so_far.values (omega arith))
