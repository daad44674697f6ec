use Rattle.range_text.proofs.Cuts.{cut_found}
use Rattle.range_text.proofs.reading.split_at_byte.Goals as goal

pub returns : goal.returns
returns c = cut_found c.args.byte c.args.bytes.now c.in_ok-at.at c.in_ok-at.ensures.first
