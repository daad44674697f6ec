use Rattle.std.proofs.Common.{◌≡◌, ℕ, ◌+◌, ◌-◌, Bool, List, [], length, take, drop, refl, ap, ◌∙◌, arith}
use Rattle.std.proofs.lemmas.List.{take_all}
use Rattle.byte_links.proofs.Fronts.{placed}
use Rattle.range_server.specs.Core.{Core}
use Rattle.loop_link.specs.Looped.{Looped}
use Rattle.loop_link.proofs.Turns.{receives_looped}
use Rattle.loop_link.proofs.links.LoopLinkLink.read.Goals as goal

-- a link whose replies were read so far
read_to : List ℕ → ℕ → Core → List ℕ → ℕ → ℕ → Bool → ℕ → Looped
read_to image piece core replies at asks in_step ends = record { image = image; piece = piece; core = core; coming = drop at replies; asks = asks; is_in_step = in_step; ends = ends }

pub returns-clause-receives : goal.returns-clause-receives
unfolding read_to
returns-clause-receives c =
    let l = c.self.inside in
    let n = c.place-count.result in
    let bytes : take n c.place-count.new.into ≡ take n (take (length l.replies.items - l.at) (drop l.at l.replies.items)) =
    c.place-count.ensures.bytes ∙ ap (λ (b : List ℕ). take n (take (length b - l.at) (drop l.at b))) c.deref.ensures.value in
    let parts = placed l.replies.items c.place-count.new.into l.at n bytes in
    rw (← c.self.view_is)
    (receives_looped (read_to l.image.now l.piece l.core l.replies.items l.at l.asks l.is_in_step l.ends) (read_to l.image.now l.piece l.core l.replies.items (l.at + n) l.asks l.is_in_step l.ends)
    c.place-count.new.into n c.self.invariant.small c.place-count.ensures.fits.2 refl (λ none. absurd (c.if-count-eq0.false none)) (λ some. refl) (omega arith) parts.0 (
      λ none. absurd (c.if-count-eq0.false none),
      λ e. c.place-count.ensures.nothing.1
          (ap (λ (b : List ℕ). take (length b - l.at) (drop l.at b)) c.deref.ensures.value ∙ ap (take (length l.replies.items - l.at)) e
          ∙ take_all (length l.replies.items - l.at) [] (omega arith)),
    )
    refl refl)
