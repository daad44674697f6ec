-- Links that were served and given back.
use Rattle.std.specs.Prelude.{◌≡◌, ◌≤◌, ◌+◌, ◌-◌, ◌^◌, ◌⊎◌, not, min, ℕ, IsTrue, IsFalse, List, length, filter, sum_by}
use Rattle.std.specs.Io.{StartsWith}
use Rattle.std.specs.List.{AllByRecursion}
use Rattle.byte_links.specs.Accept.{Served}
use Rattle.range_reply.specs.Heads.{heads, replies}
use Rattle.range_server.specs.declared.receipts.Receipt.{Receipt}
use Rattle.range_server.specs.Serving.{IsFinished}

-- what was sent is a front of the replies to what was received
abbrev pub SendsFront : List ℕ → Served → Type 0
SendsFront image entry = StartsWith (replies image entry.received) entry.sent

-- where the link did not fail, all replies were sent, and there is no more to answer
pub record IsServed (image : List ℕ) (entry : Served) : Type 0 where
  pub sent_is : IsFalse entry.failed → entry.sent ≡ replies image entry.received
  pub over : IsFalse entry.failed → IsTrue entry.ended ⊎ IsFinished entry.received

-- a number that would pass the last value of 64 bits stays there
abbrev pub capped : ℕ → ℕ
capped n = min n (2 ^ 64 - 1)

-- the heads that were received over all of them, and the bytes that were sent
abbrev pub totals : List Served → Receipt
totals entries = record {
  requests = capped (sum_by (λ (entry : Served). length (heads entry.received)) entries);
  sent = capped (sum_by (λ (entry : Served). length entry.sent) entries);
}

-- both numbers of one receipt are at most those of the other
abbrev pub IsAtMost : Receipt → Receipt → Type 0
IsAtMost a b = (a.requests ≤ b.requests) × (a.sent ≤ b.sent)

abbrev pub unfailed : List Served → List Served
unfailed entries = filter (λ (entry : Served). not entry.failed) entries

-- the receipt counts the links that did not fail wholly, and the others as far as they came
pub record Sums (entries : List Served) (receipt : Receipt) : Type 0 where
  pub exact : AllByRecursion (λ (entry : Served). IsFalse entry.failed) entries → receipt ≡ totals entries
  pub least : IsAtMost (totals (unfailed entries)) receipt
  pub most : IsAtMost receipt (totals entries)

-- two receipts together, and that of no link
abbrev pub plus : Receipt → Receipt → Receipt
plus a b = record { requests = capped (a.requests + b.requests); sent = capped (a.sent + b.sent) }

abbrev pub nothing : Receipt
nothing = record { requests = 0; sent = 0 }
