-- What a link shows, and what a read and a write do to it.
use Rattle.std.specs.Prelude.{◌≡◌, ◌↔◌, ◌≤◌, ◌<◌, ℕ, ◌+◌, ◌-◌, ◌^◌, nat_lt, if◌then◌else◌, List, [], ◌++◌, length, take, Option, Some, None, is_some, Result, Ok, IfOk, OnOk, OnErr, IsErrOf}
use Rattle.fgb_outside.specs.Source.{Rose, added}
use Rattle.byte_links.specs.declared.links.LinkError.{LinkError}
use Rattle.byte_links.specs.declared.links.LinkError.TheVariants.{Failed}
use Rattle.byte_links.specs.Exchange.{ask, give, IsWithin, most_asks}

-- a link that serves an image, while its two ends are in step: the bytes that are coming, and how often it was asked
pub record Step : Type 0 where
  pub coming : List ℕ
  pub asks : ℕ

-- the bytes received and those sent, each if they are told; how often a call has failed; how often a read has met the end
-- of input; the image that is served, if it is told; and the step, if the link is in step
pub record LinkState : Type 0 where
  pub received : Option (List ℕ)
  pub sent : Option (List ℕ)
  pub faults : ℕ
  pub ends : ℕ
  pub image : Option (List ℕ)
  pub step : Option Step

-- P of the image that is served, where it is told
abbrev pub IfServes : LinkState → (List ℕ → Type 0) → Type 0
IfServes link P = (image : List ℕ) → link.image ≡ Some image → P image

-- an image that is told has at most 2^48 bytes, and then the count of faults is below its last value
abbrev pub IsSoundLink : LinkState → Type 0
IsSoundLink link = IfServes link (λ image. (length image ≤ 2 ^ 48) × (link.faults < 2 ^ 64 - 1))

-- no call changes what is told or lowers a count, and none counts a fault where an image is told
pub record KeepsLink (old new : LinkState) : Type 0 where
  pub received : is_some new.received ≡ is_some old.received
  pub sent : is_some new.sent ≡ is_some old.sent
  pub image : new.image ≡ old.image
  pub faults : old.faults ≤ new.faults
  pub ends : old.ends ≤ new.ends
  pub faultless : IfServes old (λ _. new.faults ≡ old.faults)

-- a read in step gives the front of what is coming, and nothing just where nothing is coming
pub record TakesFront (step : Step) (after : Option Step) (into : List ℕ) (n : ℕ) : Type 0 where
  pub rest : List ℕ
  pub front : step.coming ≡ take n into ++ rest
  pub still : after ≡ Some (record { coming = rest; asks = step.asks })
  pub nothing : (n ≡ 0) ↔ (step.coming ≡ [])

-- a read into a place with these bytes behind it: a front of them was received
pub record Receives (old new : LinkState) (into : List ℕ) (result : Result ℕ LinkError) : Type 0 where
  pub sound : IsSoundLink old
  pub keeps : KeepsLink old new
  pub count : IfOk result (λ n. n ≤ length into)
  pub received : IfOk result (λ n. new.received ≡ added old.received (take n into))
  pub received_nothing : OnErr result (new.received ≡ old.received)
  pub sent : new.sent ≡ old.sent
  pub failed : IsErrOf result Failed → Rose old.faults new.faults
  pub unfailing : IfServes old (λ _. ¬ IsErrOf result Failed)
  pub ended : result ≡ Ok 0 → Rose old.ends new.ends
  pub goes_on : ¬ (result ≡ Ok 0) → new.ends ≡ old.ends
  pub in_step : IfServes old (λ _. (step : Step) → old.step ≡ Some step → IfOk result (TakesFront step new.step into))
  pub out_of_step : IfServes old (λ _. OnErr result (new.step ≡ None))

-- the link is in step with nothing coming, and the piece asks for the bytes from place a to place b
pub record IsAsk (link : LinkState) (image piece : List ℕ) (a b asks : ℕ) : Type 0 where
  pub step : link.step ≡ Some (record { coming = []; asks = asks })
  pub text : piece ≡ ask a b
  pub within : IsWithin image a b

-- the step behind such an ask
abbrev pub asked : List ℕ → ℕ → ℕ → ℕ → Step
asked image a b asks = record { coming = (if nat_lt asks most_asks then give image a b else []); asks = asks + 1 }

-- a write of a piece
pub record Sends {T : Type 0} (old new : LinkState) (piece : List ℕ) (result : Result T LinkError) : Type 0 where
  pub sound : IsSoundLink old
  pub keeps : KeepsLink old new
  pub sent : OnOk result (new.sent ≡ added old.sent piece)
  pub part : (n : ℕ) × (new.sent ≡ added old.sent (take n piece))
  pub received : new.received ≡ old.received
  pub failed : IsErrOf result Failed → Rose old.faults new.faults
  pub unfailing : IfServes old (λ _. ¬ IsErrOf result Failed)
  pub ends : new.ends ≡ old.ends
  pub asks : IfServes old (λ image. (a b asks : ℕ) → IsAsk old image piece a b asks → OnOk result (new.step ≡ Some (asked image a b asks)))
  pub asks_nothing : IfServes old (λ image. ((a b asks : ℕ) → ¬ IsAsk old image piece a b asks) → new.step ≡ None)
  pub out_of_step : IfServes old (λ _. OnErr result (new.step ≡ None))
