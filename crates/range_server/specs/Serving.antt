-- What one connection is served.
use Rattle.std.specs.Prelude.{◌≡◌, ◌≤◌, ◌⊎◌, ◌-◌, ◌^◌, min, ℕ, IsTrue, List, [], ◌∷◌, ◌++◌, length, flat_map, Result, Err, IfOk, IfErr, OnOk, OnErr}
use Rattle.std.specs.Io.{StartsWith}
use Rattle.std.specs.List.{list_any}
use Rattle.fgb_outside.specs.Source.{Rose, added}
use Rattle.byte_links.specs.Link.{LinkState}
use Rattle.range_reply.specs.Replies.{closes_after, reply_of}
use Rattle.range_reply.specs.Heads.{heads, most_heads, replies}
use Rattle.range_server.specs.declared.receipts.Receipt.{Receipt}
use Rattle.range_server.specs.declared.receipts.ServeError.{ServeError}
use Rattle.range_server.specs.declared.receipts.ServeError.TheVariants.{LinkFailed, Memory}

-- what goes over a link between two of its states: the bytes received, and those sent
pub record Talked (old new : LinkState) (received sent : List ℕ) : Type 0 where
  pub faults : old.faults ≤ new.faults
  pub ends : old.ends ≤ new.ends
  pub received_is : new.received ≡ added old.received received
  pub sent_is : new.sent ≡ added old.sent sent

-- the receipt of the replies to these heads; a number of bytes past 64 bits stays at their last value
abbrev pub receipt_of : List ℕ → List (List ℕ) → Receipt
receipt_of image answered = record {
  requests = length answered;
  sent = min (length (flat_map (reply_of image) answered)) (2 ^ 64 - 1);
}

-- the heads in the bytes ended: at one whose reply closes, or at the last that is answered
abbrev pub IsFinished : List ℕ → Type 0
IsFinished bytes = IsTrue (list_any closes_after (heads bytes)) ⊎ (length (heads bytes) ≡ most_heads)

-- every head that was received was answered
pub record ServesAll (image received sent : List ℕ) (receipt : Receipt) : Type 0 where
  pub sent_is : sent ≡ replies image received
  pub receipt_is : receipt ≡ receipt_of image (heads received)

-- a front of the reply to the first of these heads, or nothing
abbrev pub IsPartOfNext : List ℕ → List ℕ → List (List ℕ) → Type 0
IsPartOfNext image part [] = part ≡ []
IsPartOfNext image part (head ∷ heads) = StartsWith (reply_of image head) part

-- the first heads that were received were answered, and the next one in part
pub record ServesFront (image received sent : List ℕ) (receipt : Receipt) : Type 0 where
  pub answered : List (List ℕ)
  pub others : List (List ℕ)
  pub part : List ℕ
  pub heads_are : heads received ≡ answered ++ others
  pub sent_is : sent ≡ flat_map (reply_of image) answered ++ part
  pub part_is : IsPartOfNext image part others
  pub receipt_is : receipt ≡ receipt_of image answered

-- the receipt beside a refusal
abbrev pub receipt_in : ServeError → Receipt
receipt_in (Memory receipt) = receipt
receipt_in (LinkFailed receipt) = receipt

-- one connection is served
pub record Serves (image : List ℕ) (old new : LinkState) (result : Result Receipt ServeError) : Type 0 where
  pub received : List ℕ
  pub sent : List ℕ
  pub talked : Talked old new received sent
  pub ok : IfOk result (ServesAll image received sent)
  pub over : OnOk result (Rose old.ends new.ends ⊎ IsFinished received)
  pub err : IfErr result (λ error. ServesFront image received sent (receipt_in error))
  pub front : OnErr result (StartsWith (replies image received) sent)
  pub failed : (receipt : Receipt) → result ≡ Err (LinkFailed receipt) → Rose old.faults new.faults
