-- A request, and what came for it.
use Rattle.std.specs.Prelude.{◌≡◌, ◌≤◌, ◌^◌, ℕ, ◌+◌, List, [], ◌++◌, length, take, Some}
use Rattle.fgb_outside.specs.Source.{Rose, added}
use Rattle.byte_links.specs.Link.{IfServes, IsAsk, KeepsLink, LinkState, asked}
use Rattle.range_client.specs.declared.demands.Demand.{Demand}
use Rattle.range_client.specs.declared.faults.BadKind.{BadKind}
use Rattle.range_client.specs.declared.faults.BadKind.TheVariants.{Ended}
use Rattle.range_client.specs.declared.faults.Fault.{Fault}
use Rattle.range_client.specs.declared.faults.Fault.TheVariants.{Memory, LinkFailed, Bad}
use Rattle.range_client.specs.Replies.{IsBad, IsReply}

-- the path that is asked for, and the head of the last reply
pub record Spoken : Type 0 where
  pub path : List ℕ
  pub head : List ℕ

-- where the request is an ask of an image, which has at most 2^48 bytes, P of what was coming then and of the number of asks before it
abbrev pub IfAsks : List ℕ → LinkState → (List ℕ → ℕ → Type 0) → Type 0
IfAsks request link P = IfServes link (λ image. (a b asks : ℕ) → IsAsk link image request a b asks → (length image ≤ 2 ^ 48) × P (asked image a b asks).coming asks)

-- the request was sent, and a reply that is wanted was received, with its body at the front of `into`
pub record Exchanged (demand : Demand) (request : List ℕ) (old new : LinkState) (head into : List ℕ) (size : ℕ) : Type 0 where
  pub count : ℕ
  pub room : count ≤ length into
  pub reply : IsReply demand head (take count into) size
  pub keeps : KeepsLink old new
  pub sent : new.sent ≡ added old.sent request
  pub received : new.received ≡ added old.received (head ++ take count into)
  pub ends : new.ends ≡ old.ends
  pub in_step : IfAsks request old (λ coming asks.
      (rest : List ℕ) × (coming ≡ (head ++ take count into) ++ rest) × (new.step ≡ Some (record { coming = rest; asks = asks + 1 })))

-- the count of ends rose where the reply is cut off, and only there
abbrev pub EndsBy : BadKind → ℕ → ℕ → Type 0
EndsBy Ended before now = Rose before now
EndsBy kind before now = now ≡ before

-- what was received is a bad reply of this kind, whose head is kept
pub record CameBad (demand : Demand) (old new : LinkState) (got head : List ℕ) (kind : BadKind) : Type 0 where
  pub received : new.received ≡ added old.received got
  pub bad : IsBad demand got head kind
  pub ends : EndsBy kind old.ends new.ends

-- a reply that is cut off was all that came
abbrev pub LeavesNothing : BadKind → List ℕ → Type 0
LeavesNothing Ended rest = rest ≡ []
LeavesNothing kind rest = Unit {0}

-- what stopped the request or its reply
abbrev pub Cause : Demand → List ℕ → LinkState → LinkState → List ℕ → Fault → Type 0
Cause demand request old new head Memory = Unit {0}
Cause demand request old new head LinkFailed = Rose old.faults new.faults × IfServes old (λ _. ⊥)
Cause demand request old new head (Bad kind) =
    (got : List ℕ) × CameBad demand old new got head kind
    × IfAsks request old (λ coming asks. (rest : List ℕ) × (coming ≡ got ++ rest) × LeavesNothing kind rest)

-- a front of the request was sent
abbrev pub SendsPart : List ℕ → LinkState → LinkState → Type 0
SendsPart request old new = (n : ℕ) × (new.sent ≡ added old.sent (take n request))

pub record Broke (demand : Demand) (request : List ℕ) (old new : LinkState) (head : List ℕ) (fault : Fault) : Type 0 where
  pub keeps : KeepsLink old new
  pub part : SendsPart request old new
  pub cause : Cause demand request old new head fault
