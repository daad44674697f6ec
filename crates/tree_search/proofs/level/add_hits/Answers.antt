use Rattle.std.proofs.Common.{◌∙◌, sym}
use Rattle.tree_search.specs.Wanted.{meets_box}
use Rattle.tree_search.proofs.Pushing.{pushed, left_out}
use Rattle.tree_search.proofs.level.add_hits.Goals as goal
use Rattle.tree_search.proofs.level.add_hits.Goals.{then-meets+in_ok-push, else-meets}

pub loop-i-preserved : goal.loop-i-preserved
loop-i-preserved c = elim c.if-meets.branch [
  | then-meets+in_ok-push w ↦
      rw w.found-is (pushed c.args.group.now c.args.first (meets_box c.args.bounds) c.loop-i.i c.item-item.result c.item-item.ensures c.args.found.now.items c.loop-i.found.items w.push.new.self.items (sym c.meets.ensures.value ∙ w.if-meets.true) c.loop-i.invariant w.in_ok-push.ensures.items)
  | else-meets w ↦
      rw w.found-is (left_out c.args.group.now c.args.first (meets_box c.args.bounds) c.loop-i.i c.item-item.result c.item-item.ensures c.args.found.now.items c.loop-i.found.items (sym c.meets.ensures.value ∙ w.if-meets.false) c.loop-i.invariant)
]
