use Rattle.std.proofs.Common.{refl, sym, subst, ◌∙◌}
use Rattle.wkb_reader.specs.Broken.{BreaksFront}
use Rattle.wkb_reader.specs.Refusals.{Names}
use Rattle.wkb_reader.proofs.Fronts.{front_memory, front_refused, front_value, most_first}
use Rattle.wkb_reader.proofs.read.read_wkb_front.Goals as goal

pub returns-in-Ok-clause-value : goal.returns-in-Ok-clause-value
returns-in-Ok-clause-value c =
    front_value c.in-Ok.shape c.args.bytes.now _ c.take_value.new.cursor (most_first c.args.bytes.now c.min.result c.min.ensures) refl c.in-Ok.ensures.ok

pub returns-in-Err-clause-refused : goal.returns-in-Err-clause-refused
returns-in-Err-clause-refused c =
    let b = c.args.bytes.now in
    subst (Names (BreaksFront b)) (sym c.stop_within.ensures) (front_refused c.in-Err.stop 0 b _ refl (most_first b c.min.result c.min.ensures) c.in-Err.ensures.err)

pub returns-in-Err-clause-only_memory : goal.returns-in-Err-clause-only_memory
returns-in-Err-clause-only_memory c g n inside w =
    let b = c.args.bytes.now in
    c.stop_within.ensures ∙ front_memory c.in-Err.stop b _ n g (most_first b c.min.result c.min.ensures) inside w c.in-Err.ensures.err
