-- What several reads of a link do to it.
use Rattle.std.specs.Prelude.{◌≡◌, List, ℕ, ◌++◌, Some}
use Rattle.fgb_outside.specs.Source.{Rose, added}
use Rattle.byte_links.specs.Link.{IfServes, KeepsLink, LinkState, Step}
use Rattle.range_client.specs.declared.faults.BadKind.TheVariants.{Ended, Head, Status, ContentRange, Length}
use Rattle.range_client.specs.declared.faults.Fault.{Fault}
use Rattle.range_client.specs.declared.faults.Fault.TheVariants.{Memory, LinkFailed, Bad}

-- in step, these bytes are a front of what was coming
abbrev pub Follows : LinkState → LinkState → List ℕ → Type 0
Follows old new got =
    IfServes old (λ _. (step : Step) → old.step ≡ Some step
    → (rest : List ℕ) × (step.coming ≡ got ++ rest) × (new.step ≡ Some (record { coming = rest; asks = step.asks })))

-- these bytes were received in all
pub record Takes (old new : LinkState) (got : List ℕ) : Type 0 where
  pub keeps : KeepsLink old new
  pub received : new.received ≡ added old.received got
  pub sent : new.sent ≡ old.sent
  pub ends : new.ends ≡ old.ends
  pub follows : Follows old new got

-- why the last read gave nothing
abbrev pub Stopped : LinkState → LinkState → List ℕ → Fault → Type 0
Stopped old new got Memory = Unit {0}
Stopped old new got LinkFailed = Rose old.faults new.faults × IfServes old (λ _. ⊥)
Stopped old new got (Bad Ended) = Rose old.ends new.ends × IfServes old (λ _. (step : Step) → old.step ≡ Some step → step.coming ≡ got)
Stopped old new got (Bad Head) = ⊥
Stopped old new got (Bad Status) = ⊥
Stopped old new got (Bad ContentRange) = ⊥
Stopped old new got (Bad Length) = ⊥

-- these bytes were received in all, and then a read gave nothing
pub record Stops (old new : LinkState) (got : List ℕ) (fault : Fault) : Type 0 where
  pub keeps : KeepsLink old new
  pub received : new.received ≡ added old.received got
  pub sent : new.sent ≡ old.sent
  pub cause : Stopped old new got fault
