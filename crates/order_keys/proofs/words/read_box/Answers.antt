use Rattle.std.proofs.Common.{rules, ◌≡◌, ap, subst, Ok, Err, Some, true}
use Rattle.order_keys.specs.declared.words.BoundFault.TheVariants.{Order}
use Rattle.order_keys.specs.Boxes.{IsOrdered}
use Rattle.order_keys.specs.Words.{corners_fault}
use Rattle.order_keys.proofs.Corners.{spelled_is_box, no_fault, not_order, only_corners}
use Rattle.order_keys.proofs.words.read_box.Goals as goal

pub returns-in_err-bounds-clause-only : goal.returns-in_err-bounds-clause-only
returns-in_err-bounds-clause-only c = λ b spelled.
    let fault = c.in_err-bounds.ensures.fault in
    let none = no_fault c.args.text.now b spelled.each in
    cc

pub returns-in_err-bounds-clause-order : goal.returns-in_err-bounds-clause-order
returns-in_err-bounds-clause-order c =
    let fault = c.in_err-bounds.ensures.fault in
    let gives : c.from_residual.result ≡ Err c.in_err-bounds.field-0.0 = search rules in (
      λ e.
          let is : corners_fault c.args.text.now ≡ Some Order = cc in
          absurd (not_order c.args.text.now is),
      λ crossed.
          let none = no_fault c.args.text.now crossed.bounds crossed.each in
          cc,
    )

pub returns-then-is_ordered-clause-only : goal.returns-then-is_ordered-clause-only
returns-then-is_ordered-clause-only c = λ b spelled.
    ap Ok (only_corners c.args.text.now c.in_ok-bounds.bounds b c.in_ok-bounds.ensures.ok spelled.each)

pub returns-then-is_ordered-clause-order : goal.returns-then-is_ordered-clause-order
returns-then-is_ordered-clause-order c = (
  λ e. cc,
  λ crossed.
      let same = only_corners c.args.text.now c.in_ok-bounds.bounds crossed.bounds c.in_ok-bounds.ensures.ok crossed.each in
      let ordered : IsOrdered c.in_ok-bounds.bounds = c.is_ordered.ensures.fact.0 c.if-is_ordered.true in
      absurd (crossed.crossed (subst IsOrdered same ordered)),
)

pub returns-else-is_ordered-clause-only : goal.returns-else-is_ordered-clause-only
returns-else-is_ordered-clause-only c = λ b spelled.
    let same = only_corners c.args.text.now b c.in_ok-bounds.bounds spelled.each c.in_ok-bounds.ensures.ok in
    let is : c.is_ordered.result ≡ true = c.is_ordered.ensures.fact.1 (subst IsOrdered same spelled.ordered) in
    let not = c.if-is_ordered.false in
    cc

pub returns-then-is_ordered-clause-valid : goal.returns-then-is_ordered-clause-valid
returns-then-is_ordered-clause-valid c =
    spelled_is_box c.args.text.now c.in_ok-bounds.bounds c.in_ok-bounds.ensures.ok (c.is_ordered.ensures.fact.0 c.if-is_ordered.true)
