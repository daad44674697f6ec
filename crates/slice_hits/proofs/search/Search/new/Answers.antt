use Rattle.std.proofs.Common.{refl}
use Rattle.level_bounds.specs.Shapes.{shape_of}
use Rattle.slice_hits.proofs.Stepping.{come_none}
use Rattle.slice_hits.proofs.search.Search.new.Goals as goal

pub returns : goal.returns
returns c = λ image over begins. record {
  over = record { over = over; begins = begins; sought = refl };
  come = come_none image (shape_of c.args.levels) c.args.levels.shaped.shaped c.args.boxes c.args.features.first over.begins;
}
