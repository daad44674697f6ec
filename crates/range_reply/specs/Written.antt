-- A reply, and what it answers.
use Rattle.std.specs.Prelude.{◌≡◌, ◌≤◌, ◌+◌, ℕ, Bool, List, ◌++◌, length, slice_range}
use Rattle.range_reply.specs.declared.rows.Answer.{Answer}
use Rattle.range_reply.specs.declared.written.Reply.{Reply}
use Rattle.range_reply.specs.Replies.{closes_after, head_text, reply_of}
use Rattle.range_reply.specs.Parts.{IsWithin, part_of}

-- the bytes of its head, the first byte and the length of its body, and whether the connection closes
abbrev pub head_of : Reply → List ℕ
head_of reply = reply.head.items

abbrev pub body_of : Reply → ℕ × ℕ
body_of reply = (reply.first, reply.count)

abbrev pub closes_of : Reply → Bool
closes_of reply = reply.closes

-- its bytes, the body taken from the image
abbrev pub bytes_of : List ℕ → Reply → List ℕ
bytes_of image reply = head_of reply ++ slice_range image (body_of reply).0 ((body_of reply).0 + (body_of reply).1)

-- it is the reply to this head, whatever the image of this size
pub record Answers (size : ℕ) (head : List ℕ) (reply : Reply) : Type 0 where
  pub bytes : (image : List ℕ) → length image ≡ size → bytes_of image reply ≡ reply_of image head
  pub within : (body_of reply).0 + (body_of reply).1 ≤ size
  pub closes : closes_of reply ≡ closes_after head

-- it gives this answer, whose part lies in the image
pub record Gives (size : ℕ) (answer : Answer) (closes : Bool) (reply : Reply) : Type 0 where
  pub head : head_of reply ≡ head_text size answer closes
  pub body : body_of reply ≡ part_of size answer
  pub fits : IsWithin size answer
  pub closing : closes_of reply ≡ closes
