use Rattle.std.proofs.Common.{◌+◌, ◌*◌, ◌<◌, [], length, append-nil, rules, ◌∙◌, sym, subst}
use Rattle.node_items.specs.Groups.{bytes_in}
use Rattle.box_list.specs.Lists.{meets_any}
use Rattle.box_search.specs.Following.{HaveNext}
use Rattle.box_search.specs.Hits.{plains}
use Rattle.box_search.proofs.Following.{have_more}
use Rattle.box_search.proofs.Pushing.{pushed, left_out}
use Rattle.box_search.proofs.nodes.add_hits.Goals as goal
use Rattle.box_search.proofs.nodes.add_hits.Goals.{then-meets+in_ok-push, else-meets}

pub loop-i-init : goal.loop-i-init
loop-i-init c = (sym (append-nil (plains c.args.found.now.items)), λ next is all. all)

pub loop-i-preserved : goal.loop-i-preserved
loop-i-preserved c = elim c.if-meets.branch [
  | then-meets+in_ok-push w ↦
      let under : 40 * c.loop-i.i < length (bytes_in c.args.group.now) = search rules in
      rw w.found-is (
        pushed c.args.group.now c.args.first (meets_any c.args.boxes.now) c.loop-i.i c.item-item.result c.item-item.ensures c.args.found.now.items c.loop-i.found.items w.push.new.self.items _ (sym c.meets.ensures ∙ w.if-meets.true) c.loop-i.invariant.0 w.in_ok-push.ensures.items,
        λ next is all.
            subst (HaveNext next) (sym w.in_ok-push.ensures.items) (have_more next c.loop-i.found.items _ (c.loop-i.invariant.1 next is all) (w.offset_behind-next.ensures ∙ sym (is c.loop-i.i under))),
      )
  | else-meets w ↦
      rw w.found-is (left_out c.args.group.now c.args.first (meets_any c.args.boxes.now) c.loop-i.i c.item-item.result c.item-item.ensures c.args.found.now.items c.loop-i.found.items (sym c.meets.ensures ∙ w.if-meets.false) c.loop-i.invariant.0, c.loop-i.invariant.1)
]
