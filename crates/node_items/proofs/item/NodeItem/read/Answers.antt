use Rattle.std.proofs.Common.{sym, ◌∙◌}
use Rattle.node_items.proofs.Bytes.{node_of-rest, node_of-take}
use Rattle.node_items.proofs.item.NodeItem.read.Goals as goal

pub returns-clause-value : goal.returns-clause-value
returns-clause-value c =
    node_of-rest c.args.bytes.now _ _ _ _ _ c.read_u64.ensures c.read_u64-2.ensures c.read_u64-3.ensures c.read_u64-4.ensures c.read_u64-5.ensures

pub returns-clause-front : goal.returns-clause-front
returns-clause-front c =
    node_of-rest c.args.bytes.now _ _ _ _ _ c.read_u64.ensures c.read_u64-2.ensures c.read_u64-3.ensures c.read_u64-4.ensures c.read_u64-5.ensures
    ∙ sym (node_of-take c.args.bytes.now)
