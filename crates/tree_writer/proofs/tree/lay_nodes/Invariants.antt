use Rattle.std.proofs.Common.{◌≤◌, take}
use Rattle.std.specs.List.{flat_map}
use Rattle.node_items.specs.Nodes.{bytes_of}
use Rattle.tree_writer.specs.Pages.{Adds}
use Rattle.tree_writer.proofs.tree.lay_nodes.Given as goal

abbrev pub invariant-loop-node : goal.invariant-loop-node
invariant-loop-node g l = record {
  adds : Adds (g.W.Sink.shown l.fn.out) (g.W.Sink.shown l.out) l.fn.page.items l.page.items (flat_map bytes_of (take l.node-index l.nodes));
  later : (g.W.Sink.shown l.fn.out).faults ≤ (g.W.Sink.shown l.out).faults;
}
