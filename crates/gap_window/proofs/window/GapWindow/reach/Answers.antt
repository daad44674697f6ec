use Rattle.std.proofs.Common.{◌∙◌, sym, ap, arith}
use Rattle.std.proofs.lemmas.Result.{err_from_is_err_and}
use Rattle.section_window.specs.Window.{ahead}
use Rattle.gap_window.specs.Bridging.{Bridging}
use Rattle.gap_window.proofs.Near.{far_behind}
use Rattle.gap_window.proofs.Reaching.{reached_near, reached_far, part_near, part_far}
use Rattle.gap_window.proofs.window.GapWindow.reach.Goals as goal
use Rattle.gap_window.proofs.window.GapWindow.reach.Goals.{then-is_near+in_ok-read_on, else-is_near+in_ok-leap}

pub returns-in_err-read_on-clause-part : goal.returns-in_err-read_on-clause-part
returns-in_err-read_on-clause-part g c =
    let p = err_from_is_err_and c.from_residual.result c.from_residual.ensures.1 in
    let s = c.self.inside in
    rw (p.1) (part_near c.args.self.now s.window s.window s.gap s.begun c.self.view_is c.args.to c.args.want c.args.until (sym c.is_near.ensures ∙ c.if-is_near.true) c.in_err-read_on.ensures.front)

pub leap-requires-clause-far : goal.leap-requires-clause-far
leap-requires-clause-far g c =
    let e = ap (λ (w : Bridging). ahead w.held) c.self.view_is in
    omega (arith, e, far_behind c.args.self.now c.args.to (sym c.is_near.ensures ∙ c.if-is_near.false))

pub returns-in_err-leap-clause-part : goal.returns-in_err-leap-clause-part
returns-in_err-leap-clause-part g c =
    let p = err_from_is_err_and c.from_residual-in_err-leap.result c.from_residual-in_err-leap.ensures.1 in
    let s = c.self.inside in
    rw (p.1) (part_far c.args.self.now s.window s.window s.gap s.begun c.self.view_is c.args.to c.args.want c.args.until (sym c.is_near.ensures ∙ c.if-is_near.false) c.requires.onward c.in_err-leap.ensures.front)

pub returns-clause-reaches : goal.returns-clause-reaches
returns-clause-reaches g c =
    let s = c.self.inside in
    elim c.if-is_near.branch [
      | then-is_near+in_ok-read_on w ↦
          let r = w.in_ok-read_on.ensures in
          rw (w.self-inside-is, w.source-is) (reached_near c.args.self.now s.window w.read_on.new.window s.gap s.begun c.self.view_is c.args.to c.args.want c.args.until (sym c.is_near.ensures ∙ w.if-is_near.true) r.at r.end r.enough r.on r.reads r.idle r.before)
      | else-is_near+in_ok-leap w ↦
          let r = w.in_ok-leap.ensures in
          rw (w.self-inside-is, w.source-is) (reached_far c.args.self.now s.window w.leap.new.window s.gap s.begun c.self.view_is c.args.to c.args.want c.args.until (sym c.is_near.ensures ∙ w.if-is_near.false) c.requires.onward r.at r.end r.enough r.before r.reads)
    ]
