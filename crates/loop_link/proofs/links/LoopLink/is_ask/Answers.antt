use Rattle.std.proofs.Common.{◌≡◌, [], drop, length, ap, ◌∙◌, arith}
use Rattle.std.proofs.lemmas.Bool.{false≢true}
use Rattle.std.proofs.lemmas.List.{length-drop}
use Rattle.loop_link.specs.Looped.{Looped}
use Rattle.loop_link.proofs.links.LoopLink.is_ask.Goals as goal

pub returns-then-self-len : goal.returns-then-self-len
returns-then-self-len c = (
  λ e. absurd (false≢true e),
  λ asking.
      let none : drop c.self.inside.at c.self.inside.replies.items ≡ [] = ap (λ (s : Looped). s.coming) c.self.view_is ∙ asking.nothing in
      let len = ap length none in
      absurd (omega (arith, length-drop c.self.inside.at c.self.inside.replies.items, len)),
)
