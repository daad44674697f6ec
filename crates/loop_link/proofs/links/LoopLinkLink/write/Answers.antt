use Rattle.std.proofs.Common.{◌≡◌, ℕ, ◌+◌, Bool, true, List, drop, refl, sym, subst, ◌∙◌, arith}
use Rattle.range_server.specs.Core.{Core}
use Rattle.loop_link.specs.Looped.{IsAsking, IsInTurn, Looped}
use Rattle.loop_link.proofs.Turns.{asked_turn, sends_ask}
use Rattle.loop_link.proofs.links.LoopLinkLink.write.Goals as goal

-- a link with these replies
with_replies : List ℕ → ℕ → Core → List ℕ → ℕ → ℕ → Bool → ℕ → Looped
with_replies image piece core replies at asks in_step ends =
    record { image = image; piece = piece; core = core; coming = drop at replies; asks = asks; is_in_step = in_step; ends = ends }

pub invariant_of-self-2 : goal.invariant_of-self-2
invariant_of-self-2 c =
    let l = c.self.inside in
    let asking = subst (λ (s : Looped). IsAsking s c.args.bytes.now) (sym c.self.view_is) (c.is_ask-is_ask.ensures.0 c.if-not-is_ask.false) in
    let cleared = c.forget_read.ensures.all asking.nothing in
    let turn = asked_turn l.image.now c.args.bytes.now l.core c.feed.new.core l.asks asking.first asking.last c.forget_read.new.at c.forget_read.new.replies.items c.feed.new.coming.items
    c.self.invariant.small (c.self.invariant.turn asking.in_step) asking.asks_for cleared.0 cleared.1 c.in_ok-feed.ensures.closed c.in_ok-feed.ensures.answers in
    let count : c.in-Some.asks ≡ l.asks + 1 = omega (arith, c.in-Some.ensures) in
    record {
      some = c.self.invariant.some;
      small = c.self.invariant.small;
      size = c.feed.ensures.size ∙ c.self.invariant.size;
      place = omega (arith, c.forget_read.ensures.order, c.feed.ensures.longer);
      turn = λ _. subst (λ (n : ℕ). IsInTurn c.feed.new.core n) (sym count) turn.0;
    }

pub returns : goal.returns
unfolding with_replies
returns c =
    let l = c.self.inside in
    let asking = subst (λ (s : Looped). IsAsking s c.args.bytes.now) (sym c.self.view_is) (c.is_ask-is_ask.ensures.0 c.if-not-is_ask.false) in
    let cleared = c.forget_read.ensures.all asking.nothing in
    let turn = asked_turn l.image.now c.args.bytes.now l.core c.feed.new.core l.asks asking.first asking.last c.forget_read.new.at c.forget_read.new.replies.items c.feed.new.coming.items
    c.self.invariant.small (c.self.invariant.turn asking.in_step) asking.asks_for cleared.0 cleared.1 c.in_ok-feed.ensures.closed c.in_ok-feed.ensures.answers in
    let count : c.in-Some.asks ≡ l.asks + 1 = omega (arith, c.in-Some.ensures) in
    rw (← c.self.view_is)
    (sends_ask (with_replies l.image.now l.piece l.core l.replies.items l.at l.asks l.is_in_step l.ends)
    (with_replies l.image.now l.piece c.feed.new.core c.feed.new.coming.items c.forget_read.new.at c.in-Some.asks true l.ends)
    c.args.bytes.now c.self.invariant.small refl refl asking refl count turn.1)
