use Rattle.std.proofs.Common.{◌∙◌}
use Rattle.index_reader.proofs.Stored.{stored_first}
use Rattle.slice_hits.proofs.search.Search.item.Goals as goal

pub returns : goal.returns
returns c = c.read.ensures.front ∙ stored_first c.args.self.now.features.bytes.now c.args.self.now.place c.args.number
