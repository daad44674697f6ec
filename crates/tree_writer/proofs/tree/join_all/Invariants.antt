use Rattle.std.proofs.Common.{◌≡◌, take}
use Rattle.tree_writer.specs.Packed.{joined}
use Rattle.tree_writer.proofs.tree.join_all.Given as goal

abbrev pub invariant-loop-node : goal.invariant-loop-node
invariant-loop-node l = l.bounds ≡ joined (take l.node-index l.nodes)
