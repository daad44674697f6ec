use Rattle.loop_link.proofs.Pieces.{none_found, part_found, range_fits}
use Rattle.loop_link.proofs.asks.places_in.Goals as goal

pub returns-in-Part : goal.returns-in-Part
returns-in-Part c = λ a b is fits.
    part_found c.read_range.result c.in-Part.first c.in-Part.last a b c.in-Part.is (range_fits c.args.value.now c.args.size a b c.read_range.result c.requires c.read_range.ensures.spelled is fits)

pub returns-in-Whole : goal.returns-in-Whole
returns-in-Whole c = λ a b is fits.
    none_found c.read_range.result a b c.in-Whole.is (range_fits c.args.value.now c.args.size a b c.read_range.result c.requires c.read_range.ensures.spelled is fits)
