use Rattle.std.proofs.Common.{refl, subst}
use Rattle.fgb_outside.specs.Sink.{AppendsPart}
use Rattle.node_items.specs.Nodes.{bytes_of}
use Rattle.tree_writer.proofs.Paging.{laid, lent, written}
use Rattle.tree_writer.proofs.tree.lay_node.Goals as goal

pub returns-then-len-lt-FULL-clause-whole : goal.returns-then-len-lt-FULL-clause-whole
returns-then-len-lt-FULL-clause-whole g c =
    laid (g.W.Sink.shown c.args.out.now) c.args.page.now.items c.extend_from_slice.new.self.items (bytes_of c.args.node.now)
    (lent c.args.page.now.items c.extend_from_slice.new.self.items _ c.encode.result (bytes_of c.args.node.now) refl c.in_ok-extend_from_slice.ensures.items c.encode.ensures.bytes)

pub returns-in_err-write-clause-part : goal.returns-in_err-write-clause-part
returns-in_err-write-clause-part g c =
    subst (AppendsPart (g.W.Sink.shown c.args.out.now) (g.W.Sink.shown c.write.new.self))
    (lent c.args.page.now.items c.extend_from_slice.new.self.items c.deref.result.now c.encode.result (bytes_of c.args.node.now) c.deref.ensures.value c.in_ok-extend_from_slice.ensures.items c.encode.ensures.bytes)
    c.write.ensures.part

pub returns-clause-whole : goal.returns-clause-whole
returns-clause-whole g c =
    written (g.W.Sink.shown c.args.out.now) (g.W.Sink.shown c.write.new.self) c.args.page.now.items c.deref.result.now c.clear.new.self.items (bytes_of c.args.node.now)
    (lent c.args.page.now.items c.extend_from_slice.new.self.items c.deref.result.now c.encode.result (bytes_of c.args.node.now) c.deref.ensures.value c.in_ok-extend_from_slice.ensures.items c.encode.ensures.bytes)
    c.clear.ensures.items c.in_ok-write.ensures.written

pub returns-clause-part : goal.returns-clause-part
returns-clause-part g c =
    subst (AppendsPart (g.W.Sink.shown c.args.out.now) (g.W.Sink.shown c.write.new.self))
    (lent c.args.page.now.items c.extend_from_slice.new.self.items c.deref.result.now c.encode.result (bytes_of c.args.node.now) c.deref.ensures.value c.in_ok-extend_from_slice.ensures.items c.encode.ensures.bytes)
    c.write.ensures.part
