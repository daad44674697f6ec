use Rattle.std.proofs.Common.{ap, ◌∙◌}
use Rattle.node_items.specs.Nodes.{bytes_of}
use Rattle.node_items.proofs.Bytes.{bytes_of-node_of}
use Rattle.node_items.proofs.item.NodeItem.decode.Goals as goal

pub returns-clause-back : goal.returns-clause-back
returns-clause-back c = ap bytes_of c.read.ensures.value ∙ bytes_of-node_of c.args.bytes.now c.told-bytes c.fits-bytes
