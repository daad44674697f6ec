-- What has come when a head was read.
use Rattle.std.specs.Prelude.{◌≡◌, ◌<◌, ◌≤◌, ◌+◌, ℕ, nat_eq, true, false, List, [], ◌++◌, length, take}
use Rattle.std.specs.List.{ends_with}
use Rattle.request_head.specs.Requests.{empty_line}
use Rattle.byte_links.specs.Link.{LinkState}
use Rattle.range_client.specs.declared.faults.BadKind.TheVariants.{Head}
use Rattle.range_client.specs.declared.faults.Fault.{Fault}
use Rattle.range_client.specs.declared.faults.Fault.TheVariants.{Bad}
use Rattle.range_client.specs.Replies.{IsEndless, IsHead}
use Rattle.range_client.specs.Steps.{Stops, Takes}

-- no front that is longer than `from` and shorter than `till` ends in an empty line
abbrev pub IsEndlessBetween : List ℕ → ℕ → ℕ → Type 0
IsEndlessBetween bytes from till = (n : ℕ) → from < n → n < till → ends_with nat_eq (take n bytes) empty_line ≡ false

-- the first front that is longer than `from` and ends in an empty line has this length
pub record EndsFirst (bytes : List ℕ) (from end : ℕ) : Type 0 where
  pub behind : from < end
  pub within : end ≤ length bytes
  pub ended : ends_with nat_eq (take end bytes) empty_line ≡ true
  pub first : IsEndlessBetween bytes from end

-- a head has come to the front of a buffer, and some bytes behind it
pub record HeadCame (old new : LinkState) (bytes : List ℕ) (end len ahead : ℕ) : Type 0 where
  pub head : IsHead (take end bytes)
  pub order : end ≤ len
  pub within : len ≤ length bytes
  pub few : len ≤ end + ahead
  pub takes : Takes old new (take len bytes)

-- why none has come: the buffer is full, or a read gave nothing
abbrev pub HeadStopped : LinkState → LinkState → List ℕ → ℕ → Fault → Type 0
HeadStopped old new bytes len (Bad Head) = IsEndless (take len bytes) × (len ≡ length bytes) × Takes old new (take len bytes)
HeadStopped old new bytes len fault = IsEndless (take len bytes) × (len < length bytes) × Stops old new (take len bytes) fault

-- the bytes of a head, and those that came behind it
pub record Fronted : Type 0 where
  pub head : List ℕ
  pub rest : List ℕ

abbrev pub no_front : Fronted
no_front = record { head = []; rest = [] }

-- a head has come
pub record Begun (old new : LinkState) (front : Fronted) (ahead : ℕ) : Type 0 where
  pub head : IsHead front.head
  pub short : length front.head ≤ 8192
  pub few : length front.rest ≤ ahead
  pub takes : Takes old new (front.head ++ front.rest)

-- none has come
abbrev pub Halted : LinkState → LinkState → List ℕ → Fault → Type 0
Halted old new head (Bad Head) = IsEndless head × (length head ≡ 8192) × Takes old new head
Halted old new head fault = IsEndless head × (length head < 8192) × Stops old new head fault
