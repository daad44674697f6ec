use Rattle.std.proofs.Common.{◌+◌, ◌∙◌, take, ap}
use Rattle.std.specs.Prelude.{slice_range}
use Rattle.section_window.proofs.Showing.{shows_front, shows_passed}
use Rattle.node_items.specs.Nodes.{node_of}
use Rattle.index_reader.proofs.nodes.read_node.Goals as goal

pub returns-clause-node : goal.returns-clause-node
returns-clause-node g c = λ image told. let f = c.in_ok-fill.ensures in
    c.read-item.ensures.front ∙ ap (λ b. node_of (take 40 b)) c.bytes.ensures.value
    ∙ ap node_of (shows_front c.fill.new.self (g.S.RangeSource.seen c.fill.new.source) 40 f.enough f.shows image (f.keeps.image ∙ told)
    ∙ ap (λ n. slice_range image n (n + 40)) f.kept.0)

pub returns-clause-shows : goal.returns-clause-shows
returns-clause-shows g c = let f = c.in_ok-fill.ensures in
    rw c.pass.ensures (shows_passed c.fill.new.self (g.S.RangeSource.seen c.fill.new.source) 40 f.enough f.shows)
