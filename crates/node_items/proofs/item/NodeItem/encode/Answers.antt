use Rattle.std.proofs.Common.{ap, ◌∙◌, rules}
use Rattle.node_items.specs.Nodes.{node_of}
use Rattle.node_items.proofs.Bytes.{node_of-bytes_of}
use Rattle.node_items.proofs.item.NodeItem.encode.Goals as goal

pub returns-clause-bytes : goal.returns-clause-bytes
returns-clause-bytes c = search rules

pub returns-clause-back : goal.returns-clause-back
returns-clause-back c =
    ap node_of (returns-clause-bytes c)
    ∙ node_of-bytes_of c.args.self.now (record { min_x = search rules; min_y = search rules; max_x = search rules; max_y = search rules; offset = search rules })
