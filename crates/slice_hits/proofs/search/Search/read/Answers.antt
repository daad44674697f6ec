use Rattle.std.proofs.Common.{sym, arith}
use Rattle.slice_hits.proofs.AtLeaves.{breaks_box, breaks_feature, breaks_order, breaks_past, entry_is, is_met, shown_here}
use Rattle.slice_hits.proofs.Exits.{leaf_exit}
use Rattle.slice_hits.specs.Searching.{tree_of}
use Rattle.slice_hits.proofs.search.Search.read.Goals as goal

pub returns-in_err-target-clause-judged : goal.returns-in_err-target-clause-judged
returns-in_err-target-clause-judged c = λ image boxes k over is behind.
    let past = c.in_err-target.ensures.past in
    leaf_exit image (tree_of c.args.self.now) k c.from_residual.result c.in_err-target.field-0.0 c.from_residual.ensures.1
    (breaks_past image boxes c.args.self.now over c.args.leaf k is c.in_err-target.field-0.0 past.0 past.1)

pub returns-then-target-self-clause-judged : goal.returns-then-target-self-clause-judged
returns-then-target-self-clause-judged c = λ image boxes k over is behind.
    breaks_order image boxes c.args.self.now over c.args.leaf k is c.broken.result behind (omega (arith, c.in_ok-target.ensures.there, c.if-target-self.true)) c.broken.ensures

pub returns-in_err-bytes-clause-judged : goal.returns-in_err-bytes-clause-judged
returns-in_err-bytes-clause-judged c = λ image boxes k over is behind.
    leaf_exit image (tree_of c.args.self.now) k c.from_residual-in_err-bytes.result c.in_err-bytes.field-0.0 c.from_residual-in_err-bytes.ensures.1
    (breaks_feature image boxes c.args.self.now over c.args.leaf k is c.in_ok-target.target c.in_ok-target.ensures.there c.in_err-bytes.field-0.0 (c.in_err-bytes.ensures.judged (shown_here image boxes c.args.self.now over)))

pub returns-then-not-same-clause-judged : goal.returns-then-not-same-clause-judged
returns-then-not-same-clause-judged c = λ image boxes k over is behind.
    breaks_box image boxes c.args.self.now over c.args.leaf k is c.in_ok-target.target c.in_ok-target.ensures.there c.in_ok-bytes.bytes.now c.in_ok-bytes.bounds (c.in_ok-bytes.ensures.judged (shown_here image boxes c.args.self.now over))
    c.broken-then-not-same.result (sym c.if-not-same.ensures.value) c.broken-then-not-same.ensures

pub returns-clause-judged : goal.returns-clause-judged
returns-clause-judged c = λ image boxes k over is behind.
    let read = c.in_ok-bytes.ensures.judged (shown_here image boxes c.args.self.now over) in (
      is_met image boxes c.args.self.now over c.args.leaf k is c.in_ok-target.target c.in_ok-target.ensures.there c.in_ok-bytes.bytes.now c.in_ok-bytes.bounds read (sym c.if-not-same.ensures.value),
      entry_is image boxes c.args.self.now over c.args.leaf k is c.in_ok-target.target c.in_ok-target.ensures.there c.in_ok-bytes.bytes.now c.in_ok-bytes.bounds read,
    )
