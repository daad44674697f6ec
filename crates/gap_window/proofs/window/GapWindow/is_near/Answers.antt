use Rattle.std.proofs.Common.{◌≡◌, ◌+◌, ◌≤◌, ◌<◌, length, ◌∙◌, sym, ap, arith}
use Rattle.std.proofs.lemmas.Bool.{le-leb}
use Rattle.section_window.specs.Window.{ahead}
use Rattle.gap_window.proofs.Near.{near_within, near_told, near_never}
use Rattle.gap_window.proofs.window.GapWindow.is_near.Goals as goal

pub returns-then-to-ahead : goal.returns-then-to-ahead
returns-then-to-ahead c =
    let len = ap length c.bytes.ensures.value in
    let le : c.args.to ≤ ahead c.self.inside.window = omega (arith, len, c.at.ensures.value, c.if-to-ahead.true) in
    rw (← c.self.view_is) (le-leb _ _ c.if-to-ahead.true ∙ sym (near_within _ c.args.to le))

pub returns-then-self : goal.returns-then-self
returns-then-self c =
    let len = ap length c.bytes.ensures.value in
    let is : c.at.result + length c.bytes.result.now ≡ ahead c.self.inside.window = omega (arith, len, c.at.ensures.value) in
    let lt : ahead c.self.inside.window < c.args.to = omega (arith, is, c.if-to-ahead.false) in
    rw (← c.self.view_is) (near_told _ c.args.to _ is lt c.if-self.true)

pub returns-else-self : goal.returns-else-self
returns-else-self c =
    let len = ap length c.bytes.ensures.value in
    let is : c.at.result + length c.bytes.result.now ≡ ahead c.self.inside.window = omega (arith, len, c.at.ensures.value) in
    let lt : ahead c.self.inside.window < c.args.to = omega (arith, is, c.if-to-ahead.false) in
    rw (← c.self.view_is) (c.if-self.false ∙ near_never _ c.args.to lt c.if-self.false)
