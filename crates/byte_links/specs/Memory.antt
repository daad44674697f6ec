-- What the forms in memory hold, as a contract sees them.
use Rattle.std.specs.Prelude.{ℕ, nat_lt, List, [], map, Some, None}
use Rattle.byte_links.specs.Link.{LinkState}
use Rattle.byte_links.specs.Accept.{AcceptState, Served}

-- a link in memory: the front of its input that was received and what is left of it, what was sent, the most bytes of a
-- read, the numbers of the calls that fail, and how many calls, faults and ends there were
pub record Talk : Type 0 where
  pub received : List ℕ
  pub left : List ℕ
  pub sent : List ℕ
  pub piece : ℕ
  pub fail : List ℕ
  pub calls : ℕ
  pub faults : ℕ
  pub ends : ℕ

-- one on which nothing has happened yet
abbrev pub new_talk : List ℕ → ℕ → List ℕ → Talk
new_talk input piece fail = record { received = []; left = input; sent = []; piece = piece; fail = fail; calls = 0; faults = 0; ends = 0 }

abbrev pub link_of : Talk → LinkState
link_of t = record { received = Some t.received; sent = Some t.sent; faults = t.faults; ends = t.ends; image = None; step = None }

-- an accept in memory: the inputs of the links to come, the most bytes of a read, the numbers of the calls that fail, how
-- many calls and faults there were, and the links that were taken back
pub record Offer : Type 0 where
  pub inputs : List (List ℕ)
  pub piece : ℕ
  pub fail : List ℕ
  pub calls : ℕ
  pub faults : ℕ
  pub ended : List Talk

abbrev pub entry_of : Talk → Served
entry_of t = record { received = t.received; sent = t.sent; failed = nat_lt 0 t.faults; ended = nat_lt 0 t.ends }

abbrev pub accept_of : Offer → AcceptState
accept_of o = record { faults = o.faults; ended = Some (map entry_of o.ended) }
