use Rattle.wkb_writer.specs.Laid.{record_laid}
use Rattle.wkb_writer.proofs.shows.Owned.of.Goals as goal

pub invariant_of-result : goal.invariant_of-result
invariant_of-result c = record { laid = record_laid c.args.shape.now c.kind.ensures.sound }
