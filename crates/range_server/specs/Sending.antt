-- What is sent while input is served.
use Rattle.std.specs.Prelude.{◌≡◌, ◌≤◌, ◌<◌, ◌⊎◌, ◌+◌, ◌-◌, ◌^◌, min, true, ℕ, List, [], ◌∷◌, ◌++◌, length, drop, flat_map, Result, IfOk, OnOk, OnErr, IsErrOf}
use Rattle.std.specs.Io.{StartsWith}
use Rattle.fgb_outside.specs.Source.{Rose}
use Rattle.byte_links.specs.Link.{LinkState}
use Rattle.byte_links.specs.declared.links.LinkError.{LinkError}
use Rattle.byte_links.specs.declared.links.LinkError.TheVariants.{Failed, Memory}
use Rattle.range_reply.specs.Replies.{reply_of}
use Rattle.range_server.specs.declared.receipts.Receipt.{Receipt}
use Rattle.range_server.specs.declared.receipts.ServeError.{ServeError}
use Rattle.range_server.specs.declared.receipts.ServeError.TheVariants as serve
use Rattle.range_server.specs.Core.{Core}
use Rattle.range_server.specs.Paths.{Path}
use Rattle.range_server.specs.Serving.{Talked}

-- the refusal behind an error of the link
abbrev pub error_of : LinkError → Receipt → ServeError
error_of Memory receipt = serve.Memory receipt
error_of Failed receipt = serve.LinkFailed receipt

-- the receipt of no reply, and one with the replies to more heads
abbrev pub no_receipt : Receipt
no_receipt = record { requests = 0; sent = 0 }

abbrev pub counted : List ℕ → Receipt → List (List ℕ) → Receipt
counted image receipt answered = record {
  requests = receipt.requests + length answered;
  sent = min (receipt.sent + length (flat_map (reply_of image) answered)) (2 ^ 64 - 1);
}

-- the receipt counts what the core has answered, in 64 bits
pub record Counts (core : Core) (receipt : Receipt) : Type 0 where
  pub requests : receipt.requests ≡ core.answered
  pub sent : receipt.sent ≤ 2 ^ 64 - 1

-- a reply is sent, or a front of it
pub record SendsReply {T : Type 0} (old new : LinkState) (text : List ℕ) (result : Result T LinkError) : Type 0 where
  pub sent : List ℕ
  pub talked : Talked old new [] sent
  pub ok : OnOk result (sent ≡ text)
  pub err : OnErr result (StartsWith text sent)
  pub failed : IsErrOf result Failed → Rose old.faults new.faults

-- the heads in a front of the input were answered, and the rest is left
pub record AnswersAll (image : List ℕ) (start end : Core) (input rest sent : List ℕ) (before now : Receipt) : Type 0 where
  pub used : List ℕ
  pub heads : List (List ℕ)
  pub whole : input ≡ used ++ rest
  pub path : Path start used heads end
  pub sent_is : sent ≡ flat_map (reply_of image) heads
  pub counts : now ≡ counted image before heads

-- they were answered, and one more in part
pub record AnswersPart (image : List ℕ) (start end : Core) (input sent : List ℕ) (before now : Receipt) : Type 0 where
  pub used : List ℕ
  pub rest : List ℕ
  pub heads : List (List ℕ)
  pub head : List ℕ
  pub part : List ℕ
  pub whole : input ≡ used ++ rest
  pub path : Path start used (heads ++ head ∷ []) end
  pub sent_is : sent ≡ flat_map (reply_of image) heads ++ part
  pub part_is : StartsWith (reply_of image head) part
  pub counts : now ≡ counted image before heads

-- a front of so many bytes of a piece was used
pub record AnswersNext (image : List ℕ) (start end : Core) (piece : List ℕ) (old new : LinkState) (before now : Receipt) (result : Result ℕ LinkError) : Type 0 where
  pub sent : List ℕ
  pub talked : Talked old new [] sent
  pub ok : IfOk result (λ n. (0 < n) × (n ≤ length piece) × AnswersAll image start end piece (drop n piece) sent before now)
  pub err : OnErr result (AnswersPart image start end piece sent before now)
  pub failed : IsErrOf result Failed → Rose old.faults new.faults

-- a piece was used, or its front until the core was closed
pub record ServesPiece {T : Type 0} (image : List ℕ) (start end : Core) (piece : List ℕ) (old new : LinkState) (before now : Receipt) (result : Result T LinkError) : Type 0 where
  pub sent : List ℕ
  pub talked : Talked old new [] sent
  pub ok : OnOk result ((rest : List ℕ) × AnswersAll image start end piece rest sent before now × ((rest ≡ []) ⊎ (end.closed ≡ true)))
  pub err : OnErr result (AnswersPart image start end piece sent before now)
  pub failed : IsErrOf result Failed → Rose old.faults new.faults
