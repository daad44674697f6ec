-- Received bytes, as a reply.
use Rattle.std.specs.Prelude.{◌≡◌, ◌<◌, ◌≤◌, ◌⊎◌, ℕ, nat_eq, true, false, List, ◌++◌, length, take}
use Rattle.std.specs.List.{ends_with}
use Rattle.request_head.specs.Requests.{empty_line}
use Rattle.range_client.specs.declared.demands.Demand.{Demand}
use Rattle.range_client.specs.declared.faults.BadKind.{BadKind}
use Rattle.range_client.specs.declared.faults.BadKind.TheVariants.{Ended, Head}
use Rattle.range_client.specs.declared.judge.Told.{Told}
use Rattle.range_client.specs.Judged.{IsGood, IsWrong}

-- no front of the bytes ends in an empty line
abbrev pub IsEndless : List ℕ → Type 0
IsEndless bytes = (n : ℕ) → n ≤ length bytes → ends_with nat_eq (take n bytes) empty_line ≡ false

-- they end in an empty line, and no shorter front of them does
pub record IsHead (head : List ℕ) : Type 0 where
  pub ended : ends_with nat_eq head empty_line ≡ true
  pub first : (n : ℕ) → n < length head → ends_with nat_eq (take n head) empty_line ≡ false

-- a reply that is wanted, of a file of this size; its head has at most 8,192 bytes
pub record IsReply (demand : Demand) (head body : List ℕ) (size : ℕ) : Type 0 where
  pub ends : IsHead head
  pub short : length head ≤ 8192
  pub good : IsGood demand head (record { size = size; count = length body })

-- the bytes begin with this head, of at most 8,192 bytes
abbrev pub BeginsWith : List ℕ → List ℕ → Type 0
BeginsWith bytes head = (rest : List ℕ) × (bytes ≡ head ++ rest) × IsHead head × (length head ≤ 8192)

-- a reply that is cut off, in its head or in the body of a wanted one
abbrev pub IsCut : Demand → List ℕ → List ℕ → Type 0
IsCut demand bytes head =
    ((bytes ≡ head) × IsEndless head × (length head < 8192))
    ⊎ ((front : BeginsWith bytes head) × (told : Told) × IsGood demand head told × (length front.0 < told.count))

-- a bad reply of this kind, which has come as far as that is known, and its head
abbrev pub IsBad : Demand → List ℕ → List ℕ → BadKind → Type 0
IsBad demand bytes head Ended = IsCut demand bytes head
IsBad demand bytes head Head =
    ((bytes ≡ head) × IsEndless head × (length head ≡ 8192)) ⊎ (BeginsWith bytes head × IsWrong demand head Head)
IsBad demand bytes head kind = BeginsWith bytes head × IsWrong demand head kind
