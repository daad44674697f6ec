use Rattle.std.proofs.Common.{arith, subst, take, ◌++◌}
use Rattle.std.specs.List.{flat_map}
use Rattle.std.proofs.lemmas.List.{take_all}
use Rattle.fgb_outside.specs.Sink.{AppendsPart}
use Rattle.node_items.specs.Nodes.{bytes_of}
use Rattle.tree_writer.proofs.Paging.{adds_front, next_added, next_part}
use Rattle.tree_writer.proofs.tree.lay_nodes.Goals as goal

pub returns-in_err-lay_node-clause-part : goal.returns-in_err-lay_node-clause-part
returns-in_err-lay_node-clause-part g c =
    next_part (g.W.Sink.shown c.args.out.now) (g.W.Sink.shown c.loop-node.out) (g.W.Sink.shown c.lay_node.new.out) c.args.page.now.items c.loop-node.page.items c.args.nodes.now c.loop-node.node-index
    (omega arith) c.loop-node.invariant.adds c.lay_node.ensures.part

pub loop-node-preserved : goal.loop-node-preserved
loop-node-preserved g c = record {
  adds = next_added (g.W.Sink.shown c.args.out.now) (g.W.Sink.shown c.loop-node.out) (g.W.Sink.shown c.lay_node.new.out) c.args.page.now.items c.loop-node.page.items c.lay_node.new.page.items c.args.nodes.now c.loop-node.node-index
      (omega arith) c.loop-node.invariant.adds c.in_ok-lay_node.ensures.whole;
  later = omega (arith, c.loop-node.invariant.later, c.lay_node.ensures.later);
}

pub returns-clause-part : goal.returns-clause-part
returns-clause-part g c =
    subst (λ nodes. AppendsPart (g.W.Sink.shown c.args.out.now) (g.W.Sink.shown c.loop-node.out) (c.args.page.now.items ++ flat_map bytes_of nodes))
    (take_all c.loop-node.node-index c.args.nodes.now (omega arith))
    (adds_front (g.W.Sink.shown c.args.out.now) (g.W.Sink.shown c.loop-node.out) c.args.page.now.items c.loop-node.page.items (flat_map bytes_of (take c.loop-node.node-index c.args.nodes.now)) c.loop-node.invariant.adds)
