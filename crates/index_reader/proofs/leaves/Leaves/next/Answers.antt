use Rattle.std.proofs.Common.{◌+◌, ◌*◌, ◌∙◌, refl, arith}
use Rattle.level_bounds.specs.Levels.{node_count, place}
use Rattle.index_reader.proofs.Going.{more_leaves}
use Rattle.index_reader.proofs.Standing.{asks_wider}
use Rattle.index_reader.proofs.Stored.{stored_read}
use Rattle.index_reader.proofs.leaves.Leaves.next.Goals as goal

pub returns-clause-leaf : goal.returns-clause-leaf
returns-clause-leaf g c = λ at t over. (
  more_leaves c.args.self.now at t over c.at.result c.end.result c.at.ensures.value c.end.ensures.value c.if-at-end.false,
  refl,
  λ image told.
      c.in_ok-item.ensures.node image told ∙ stored_read image c.args.self.now.window.at at (place t 0 c.args.self.now.given) over.stands,
)

pub returns-clause-asked : goal.returns-clause-asked
returns-clause-asked g c = λ at t over.
    asks_wider c.args.self.now.window.at c.args.self.now.window.end at (at + 40 * node_count t) (omega (arith, over.stands)) (omega (arith, over.ends)) c.read_node.ensures.asked
