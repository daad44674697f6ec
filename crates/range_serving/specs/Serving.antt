-- Connections that are served one after another.
use Rattle.std.specs.Prelude.{◌≡◌, ◌≤◌, ℕ, List, length, Result, Ok, Err, IfOk, IsErrOf}
use Rattle.std.specs.List.{AllByRecursion}
use Rattle.fgb_outside.specs.Source.{Rose, added}
use Rattle.byte_links.specs.Accept.{AcceptState, Served}
use Rattle.byte_links.specs.Link.{LinkState}
use Rattle.byte_links.specs.declared.links.LinkError.{LinkError}
use Rattle.byte_links.specs.declared.links.LinkError.TheVariants as link
use Rattle.range_server.specs.declared.receipts.Receipt.{Receipt}
use Rattle.range_server.specs.declared.receipts.ServeError.{ServeError}
use Rattle.range_server.specs.declared.receipts.ServeError.TheVariants as serve
use Rattle.range_server.specs.Serving.{Serves}
use Rattle.range_serving.specs.declared.refusals.ServingError.{ServingError}
use Rattle.range_serving.specs.declared.refusals.ServingError.TheVariants.{AcceptFailed, Memory}
use Rattle.range_serving.specs.Entries.{IsServed, SendsFront, Sums}

-- so many connections are served. The links that were given back are the entries, which stand in order at the end of the
-- listener's list, where it tells that
pub record ServesConnections (image : List ℕ) (count : ℕ) (old new : AcceptState) (result : Result Receipt ServingError) : Type 0 where
  pub entries : List Served
  pub ended : new.ended ≡ added old.ended entries
  pub fronts : AllByRecursion (SendsFront image) entries
  pub within : length entries ≤ count
  pub ok : IfOk result (λ receipt. (length entries ≡ count) × AllByRecursion (IsServed image) entries × Sums entries receipt)
  pub faults : old.faults ≤ new.faults
  pub failed : IsErrOf result AcceptFailed → Rose old.faults new.faults

-- the refusal behind an error of the listener
abbrev pub error_of : LinkError → ServingError
error_of link.Failed = AcceptFailed
error_of link.Memory = Memory

-- a link that failed counts with its receipt, and want of memory is a refusal
abbrev pub outcome_of : Result Receipt ServeError → Result Receipt ServingError
outcome_of (Ok receipt) = Ok receipt
outcome_of (Err (serve.LinkFailed receipt)) = Ok receipt
outcome_of (Err (serve.Memory receipt)) = Err Memory

-- one link is served
pub record ServesLink (image : List ℕ) (old new : LinkState) (result : Result Receipt ServingError) : Type 0 where
  pub outcome : Result Receipt ServeError
  pub serves : Serves image old new outcome
  pub result_is : result ≡ outcome_of outcome
