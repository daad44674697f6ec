use Rattle.std.proofs.Common.{◌<◌, ◌-◌, arith}
use Rattle.level_bounds.specs.Levels.{place}
use Rattle.slice_hits.proofs.Exits.{err_exit}
use Rattle.slice_hits.proofs.Numbers.{node_there}
use Rattle.slice_hits.proofs.Visiting.{are_children, next_within, parent_is, root_at, visit_down, visit_leaf, visit_past, visit_refused}
use Rattle.slice_hits.specs.Searching.{at_root, nodes_of, tree_of}
use Rattle.slice_hits.proofs.search.Search.visit.Goals as goal

pub returns-in_err-judge_root-clause-refused : goal.returns-in_err-judge_root-clause-refused
returns-in_err-judge_root-clause-refused c = λ k i is here.
    let s = c.args.self.now in
    let refused = c.in_err-judge_root.ensures.refused in
    err_exit _ c.from_residual.result c.in_err-judge_root.field-0.0 c.from_residual.ensures.1
    (at_root (root_at (tree_of s) s.levels.shaped.shaped k i c.args.node is here refused.0) refused.1 refused.2)

pub returns-then-not-meets-clause-goes : goal.returns-then-not-meets-clause-goes
returns-then-not-meets-clause-goes c = λ k i is here.
    let s = c.args.self.now in
    visit_past (tree_of s) s.levels.shaped.shaped k i c.args.node is here (nodes_of s) s.place s.boxes c.item-item.result c.item-item.ensures c.next_behind.result c.if-not-meets.ensures (c.next_behind.ensures k i is here)

pub returns-then-not-meets-clause-next : goal.returns-then-not-meets-clause-next
returns-then-not-meets-clause-next c =
    let s = c.args.self.now in
    let there = node_there (tree_of s) s.levels.shaped.shaped c.args.node c.requires in
    next_within (tree_of s) there.level there.index c.next_behind.result (c.next_behind.ensures there.level there.index there.is there.stands)

pub returns-then-node-first-clause-goes : goal.returns-then-node-first-clause-goes
returns-then-node-first-clause-goes c = λ k i is here.
    let s = c.args.self.now in
    visit_leaf (tree_of s) s.levels.shaped.shaped k i c.args.node is here (nodes_of s) s.place s.boxes c.item-item.result c.item-item.ensures c.level-first.result.0 c.next_behind-then-node-first.result c.level-first.ensures.first c.if-node-first.true
    c.if-not-meets.ensures (c.next_behind-then-node-first.ensures k i is here)

pub returns-then-node-first-clause-next : goal.returns-then-node-first-clause-next
returns-then-node-first-clause-next c =
    let s = c.args.self.now in
    let there = node_there (tree_of s) s.levels.shaped.shaped c.args.node c.requires in
    next_within (tree_of s) there.level there.index c.next_behind-then-node-first.result (c.next_behind-then-node-first.ensures there.level there.index there.is there.stands)

pub returns-in_err-judge-clause-refused : goal.returns-in_err-judge-clause-refused
returns-in_err-judge-clause-refused c = λ k i is here.
    let s = c.args.self.now in
    let t = tree_of s in
    let shape = s.levels.shaped.shaped in
    let front : c.args.node < place t 0 0 = omega (arith, c.if-node-first.false, c.level-first.ensures.first) in
    let children = are_children t shape k i c.args.node is here (nodes_of s) s.place s.boxes c.item-item.result c.item-item.ensures front c.group-first.result.0 c.group-first.result.1 c.group-first.ensures.children in
    let parent = parent_is t shape k i c.args.node is here (nodes_of s) s.place s.boxes c.item-item.result c.item-item.ensures front c.group-first.result.0 c.group-first.result.1 c.group-first.ensures.children in
    err_exit _ c.from_residual-in_err-judge.result c.in_err-judge.field-0.0 c.from_residual-in_err-judge.ensures.1
    (visit_refused t shape k i c.args.node is here (nodes_of s) s.place s.boxes c.item-item.result c.item-item.ensures front c.group-first.result.0 c.group-first.result.1 c.group-first.ensures.children c.if-not-meets.ensures c.in_err-judge.field-0.0
    (c.in_err-judge.ensures.group (k - 1) i children parent))

pub returns-clause-goes : goal.returns-clause-goes
returns-clause-goes c = λ k i is here.
    let s = c.args.self.now in
    let t = tree_of s in
    let shape = s.levels.shaped.shaped in
    let front : c.args.node < place t 0 0 = omega (arith, c.if-node-first.false, c.level-first.ensures.first) in
    let children = are_children t shape k i c.args.node is here (nodes_of s) s.place s.boxes c.item-item.result c.item-item.ensures front c.group-first.result.0 c.group-first.result.1 c.group-first.ensures.children in
    let parent = parent_is t shape k i c.args.node is here (nodes_of s) s.place s.boxes c.item-item.result c.item-item.ensures front c.group-first.result.0 c.group-first.result.1 c.group-first.ensures.children in
    visit_down t shape k i c.args.node is here (nodes_of s) s.place s.boxes c.item-item.result c.item-item.ensures front c.group-first.result.0 c.group-first.result.1 c.group-first.ensures.children c.if-not-meets.ensures
    (c.in_ok-judge.ensures.group (k - 1) i children parent)
