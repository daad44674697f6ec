-- What a client is seen as, and what its calls do.
use Rattle.std.specs.Prelude.{◌≡◌, ◌≤◌, ◌<◌, ◌⊎◌, ◌+◌, ◌-◌, ◌^◌, ℕ, List, [], ◌++◌, length, codes, Option, Some, None, IsSome, unwrap_or, Result, Ok, Err, IfErr, IsErrOf, OnOk}
use Rattle.fgb_outside.specs.declared.sources.SourceError.{SourceError}
use Rattle.fgb_outside.specs.declared.sources.SourceError.TheVariants.{Failed, Memory}
use Rattle.fgb_outside.specs.Memory.{counted}
use Rattle.fgb_outside.specs.Source.{Rose, Source, added}
use Rattle.byte_links.specs.Exchange.{most_asks}
use Rattle.byte_links.specs.Link.{IfServes, KeepsLink, LinkState}
use Rattle.range_client.specs.declared.demands.Demand.{Demand}
use Rattle.range_client.specs.declared.demands.Demand.TheVariants.{FirstByte, Part}
use Rattle.range_client.specs.declared.faults.BadKind.{BadKind}
use Rattle.range_client.specs.declared.faults.ConnectError.{ConnectError}
use Rattle.range_client.specs.declared.faults.ConnectError.TheVariants as connect
use Rattle.range_client.specs.Exchanges.{CameBad, SendsPart}
use Rattle.range_client.specs.Replies.{IsReply}
use Rattle.range_client.specs.Requests.{request}

-- its link, the path and the size of the file, what it was asked for, if that is still told, the error that it answers
-- from now on, its count of faults, and the head of the last reply
pub record ClientState : Type 0 where
  pub link : LinkState
  pub path : List ℕ
  pub size : ℕ
  pub asked : Option (List (ℕ × ℕ))
  pub spent : Option SourceError
  pub faults : ℕ
  pub head : List ℕ

-- it tells the image where its link tells it
abbrev pub source_of : ClientState → Source
source_of client = record { image = client.link.image; asked = client.asked; size = client.size; faults = client.faults }

-- the link is in step with nothing coming, after so many asks
abbrev pub IsInStep : LinkState → ℕ → Type 0
IsInStep link asks = link.step ≡ Some (record { coming = []; asks = asks })

-- a link that serves its image serves it as the file that is asked for, and is in step until an error
pub record IsHonest (link : LinkState) (path : List ℕ) (size : ℕ) (spent : Option SourceError) (image : List ℕ) : Type 0 where
  pub size_is : length image ≡ size
  pub path_is : path ≡ codes "/map.fgb"
  pub in_step : spent ≡ None → (asks : ℕ) × IsInStep link asks

pub record IsSound (link : LinkState) (path : List ℕ) (size : ℕ) (spent : Option SourceError) : Type 0 where
  pub small : size ≤ 2 ^ 48
  pub honest : IfServes link (IsHonest link path size spent)

-- a link that serves its image is asked for the first time, by its path
abbrev pub IsStart : LinkState → List ℕ → Type 0
IsStart link path = IsInStep link 0 × (path ≡ codes "/map.fgb")

-- a reply that is wanted was received since then, and its head is kept
pub record Replied (demand : Demand) (path : List ℕ) (old new : LinkState) (head body : List ℕ) (size : ℕ) (first last : ℕ) : Type 0 where
  pub sent : new.sent ≡ added old.sent (request path first last)
  pub received : new.received ≡ added old.received (head ++ body)
  pub ends : new.ends ≡ old.ends
  pub reply : IsReply demand head body size

-- there is a client of the file at this path
pub record Connected (link : LinkState) (path : List ℕ) (client : ClientState) : Type 0 where
  pub keeps : KeepsLink link client.link
  pub path_is : client.path ≡ path
  pub body : List ℕ
  pub reply : Replied FirstByte path link client.link client.head body client.size 0 0
  pub asked : client.asked ≡ Some []
  pub spent : client.spent ≡ None
  pub faults : client.faults ≡ 0
  pub served : IfServes link (λ image. (length image ≡ client.size) × IsInStep client.link 1)

-- why there is none
abbrev pub WhyRefused : LinkState → LinkState → ConnectError → Type 0
WhyRefused old new connect.Memory = Unit {0}
WhyRefused old new connect.LinkFailed = Rose old.faults new.faults
WhyRefused old new (connect.BadReply kind head) = (got : List ℕ) × CameBad FirstByte old new got head.items kind

-- there is no client; a link that serves its image is refused for want of memory alone
pub record Refused (path : List ℕ) (old new : LinkState) (error : ConnectError) : Type 0 where
  pub keeps : KeepsLink old new
  pub part : SendsPart (request path 0 0) old new
  pub why : WhyRefused old new error
  pub served : IfServes old (λ _. error ≡ connect.Memory)

-- the last of so many places
abbrev pub last_place : ℕ → ℕ → ℕ
last_place at len = at + (len - 1)

abbrev pub demand_at : ClientState → ℕ → ℕ → Demand
demand_at client at len = Part at (last_place at len) client.size

-- the bytes were asked for, and are the body of a reply that is wanted
abbrev pub Answers : ClientState → ClientState → ℕ → List ℕ → Type 0
Answers old new at into =
    (old.spent ≡ None)
    × Replied (demand_at old at (length into)) old.path old.link new.link new.head into old.size at (last_place at (length into))

-- a front of the request was sent
abbrev pub PartSent : ClientState → ClientState → ℕ → ℕ → Type 0
PartSent old new at len = SendsPart (request old.path at (last_place at len)) old.link new.link

-- why it failed
abbrev pub Fails : ClientState → ClientState → ℕ → ℕ → Type 0
Fails old new at len =
    (old.spent ≡ Some Failed) ⊎ Rose old.link.faults new.link.faults
    ⊎ ((kind : BadKind) × (got : List ℕ) × CameBad (demand_at old at len) old.link new.link got new.head kind)

-- an error is answered again, and nothing is sent
pub record Repeats {T : Type 0} (old new : ClientState) (result : Result T SourceError) (error : SourceError) : Type 0 where
  pub link : new.link ≡ old.link
  pub head : new.head ≡ old.head
  pub again : (result ≡ Err error) ⊎ ((result ≡ Err Memory) × IsSome old.asked × (new.asked ≡ None))

-- each answer of Failed is a fault
abbrev pub Counts : {T : Type 0} → ℕ → ℕ → Result T SourceError → Type 0
Counts before now (Ok value) = now ≡ before
Counts before now (Err Failed) = now ≡ counted before
Counts before now (Err Memory) = now ≡ before

-- after an error it is spent, if it was not already
pub record Settles {T : Type 0} (old new : ClientState) (result : Result T SourceError) : Type 0 where
  pub still : OnOk result (new.spent ≡ None)
  pub spent : IfErr result (λ error. new.spent ≡ Some (unwrap_or old.spent error))
  pub counts : Counts old.faults new.faults result

-- over a link that serves its image it doesn't fail while there are asks left
abbrev pub StaysInStep : {T : Type 0} → ClientState → ClientState → Result T SourceError → Type 0
StaysInStep old new result =
    IfServes old.link (λ _. (asks : ℕ) → old.spent ≡ None → IsInStep old.link asks
    → (asks < most_asks → ¬ IsErrOf result Failed) × OnOk result (IsInStep new.link (asks + 1)))
