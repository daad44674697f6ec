use Rattle.std.proofs.Common.{arith, sym, ap, ◌∙◌, length}
use Rattle.range_reply.specs.Heads.{ends_at}
use Rattle.range_server.proofs.Nexts.{kept_more, ends_now, ends_not_yet, none_short}
use Rattle.range_server.proofs.kept.keep.Goals as goal

pub push-requires : goal.push-requires
push-requires c = let short = none_short c.loop-at.kept.items c.loop-at.invariant.unended in (omega arith, omega arith)

pub returns-then-ends_head-clause-ended : goal.returns-then-ends_head-clause-ended
returns-then-ends_head-clause-ended c = (
  omega arith,
  kept_more c.args.kept.now.items c.loop-at.kept.items c.push.new.self.items c.args.piece.now c.loop-at.at (omega arith) c.loop-at.invariant.bytes c.push.ensures.items,
  ends_now c.loop-at.kept.items _ c.push.new.self.items c.loop-at.invariant.unended c.push.ensures.items
      (ap (λ xs. ends_at xs (length xs)) (sym c.as_slice.ensures.value) ∙ sym c.ends_head.ensures ∙ c.if-ends_head.true),
)

pub loop-at-preserved : goal.loop-at-preserved
loop-at-preserved c = record {
  bytes = kept_more c.args.kept.now.items c.loop-at.kept.items c.push.new.self.items c.args.piece.now c.loop-at.at (omega arith) c.loop-at.invariant.bytes c.push.ensures.items;
  unended = ends_not_yet c.loop-at.kept.items _ c.push.new.self.items c.loop-at.invariant.unended c.push.ensures.items
      (ap (λ xs. ends_at xs (length xs)) (sym c.as_slice.ensures.value) ∙ sym c.ends_head.ensures ∙ c.if-ends_head.false);
}
