use Rattle.std.proofs.Common.{◌∙◌}
use Rattle.index_reader.proofs.Stored.{stored_first}
use Rattle.index_reader.proofs.memory.node.Goals as goal

pub returns : goal.returns
returns c = c.read.ensures.front ∙ stored_first c.args.file.now c.args.place c.args.number
