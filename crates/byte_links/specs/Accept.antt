-- What an accept shows, and what its calls do to it.
use Rattle.std.specs.Prelude.{◌≡◌, ◌≤◌, ℕ, nat_lt, Bool, List, [], ◌∷◌, Option, Some, is_some, IsSome, IfSome, Result, IfOk, OnOk, IsErrOf}
use Rattle.fgb_outside.specs.Source.{Rose, added}
use Rattle.byte_links.specs.declared.links.LinkError.{LinkError}
use Rattle.byte_links.specs.declared.links.LinkError.TheVariants.{Failed, Memory}
use Rattle.byte_links.specs.Link.{LinkState}

-- a link that was served: what it has received and sent, whether a call on it has failed, and whether its input has ended
pub record Served : Type 0 where
  pub received : List ℕ
  pub sent : List ℕ
  pub failed : Bool
  pub ended : Bool

-- how often a call has failed, and the links that were taken back, if they are told
pub record AcceptState : Type 0 where
  pub faults : ℕ
  pub ended : Option (List Served)

-- the entry of a link that tells what it has received and sent
abbrev pub served : LinkState → List ℕ → List ℕ → Served
served link received sent = record { received = received; sent = sent; failed = nat_lt 0 link.faults; ended = nat_lt 0 link.ends }

-- nothing has happened on the link yet
pub record IsFresh (link : LinkState) : Type 0 where
  pub faults : link.faults ≡ 0
  pub ends : link.ends ≡ 0
  pub received : IfSome link.received (λ bytes. bytes ≡ [])
  pub sent : IfSome link.sent (λ bytes. bytes ≡ [])

-- the link tells what it has received and sent, and that is nothing
abbrev pub TellsNothing : LinkState → Type 0
TellsNothing link = (link.received ≡ Some []) × (link.sent ≡ Some [])

-- a link is handed out
pub record Accepts {L : Type 0} (shown : L → LinkState) (old new : AcceptState) (result : Result L LinkError) : Type 0 where
  pub faults : old.faults ≤ new.faults
  pub ended : new.ended ≡ old.ended
  pub fresh : IfOk result (λ link. IsFresh (shown link))
  pub tells : IsSome old.ended → IfOk result (λ link. TellsNothing (shown link))
  pub failed : IsErrOf result Failed → Rose old.faults new.faults

-- a link is taken back
pub record TakesBack {T : Type 0} (link : LinkState) (old new : AcceptState) (result : Result T LinkError) : Type 0 where
  pub faults : old.faults ≤ new.faults
  pub told : is_some new.ended ≡ is_some old.ended
  pub ended : (received sent : List ℕ) → link.received ≡ Some received → link.sent ≡ Some sent → OnOk result (new.ended ≡ added old.ended (served link received sent ∷ []))
  pub memory : (received sent : List ℕ) → link.received ≡ Some received → link.sent ≡ Some sent → IsErrOf result Memory → new.ended ≡ old.ended
  pub never_failed : ¬ IsErrOf result Failed
