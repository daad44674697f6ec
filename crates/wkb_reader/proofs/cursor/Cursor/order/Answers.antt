use Rattle.std.proofs.Common.{arith}
use Rattle.std.proofs.lemmas.Bool.Decides.{nat_tests}
use Rattle.std.proofs.lemmas.List.{nil_from_length}
use Rattle.flat_layout.specs.declared.Rule.TheVariants.{WkbEnd, WkbOrder}
use Rattle.wkb_reader.specs.Broken.{BreaksHead, no_order}
use Rattle.wkb_reader.proofs.Passing.{names_here}
use Rattle.wkb_reader.proofs.Types.{other_byte}
use Rattle.wkb_reader.proofs.cursor.Cursor.order.Goals as goal

pub returns-then-is_at_end-clause-err : goal.returns-then-is_at_end-clause-err
returns-then-is_at_end-clause-err c dialect level standing =
    let b = c.args.self.now.rest.now in
    names_here c.refused.result c.args.self.now.at WkbEnd (BreaksHead dialect level standing b) c.refused.ensures
    (no_order (nil_from_length b (grind (arith, nat_tests))))

pub returns-then-byte-gt1-clause-err : goal.returns-then-byte-gt1-clause-err
returns-then-byte-gt1-clause-err c dialect level standing =
    let b = c.args.self.now.rest.now in
    names_here c.refused-then-byte-gt1.result c.args.self.now.at WkbOrder (BreaksHead dialect level standing b) c.refused-then-byte-gt1.ensures
    (other_byte dialect level standing b (omega arith))
