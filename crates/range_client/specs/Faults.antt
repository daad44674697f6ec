-- How what went wrong is answered.
use Rattle.std.specs.Prelude.{◌≡◌, ℕ, List, []}
use Rattle.fgb_outside.specs.declared.sources.SourceError.{SourceError}
use Rattle.fgb_outside.specs.declared.sources.SourceError.TheVariants as source
use Rattle.byte_links.specs.declared.links.LinkError.{LinkError}
use Rattle.byte_links.specs.declared.links.LinkError.TheVariants as link
use Rattle.range_client.specs.declared.faults.ConnectError.{ConnectError}
use Rattle.range_client.specs.declared.faults.ConnectError.TheVariants as connect
use Rattle.range_client.specs.declared.faults.Fault.{Fault}
use Rattle.range_client.specs.declared.faults.Fault.TheVariants.{Memory, LinkFailed, Bad}

-- of a call of the link
abbrev pub fault_of : LinkError → Fault
fault_of link.Failed = LinkFailed
fault_of link.Memory = Memory

-- by a source
abbrev pub source_error : Fault → SourceError
source_error Memory = source.Memory
source_error LinkFailed = source.Failed
source_error (Bad kind) = source.Failed

-- where there is no client: the fault, and the head of a bad reply
abbrev pub fault_in : ConnectError → Fault
fault_in connect.Memory = Memory
fault_in connect.LinkFailed = LinkFailed
fault_in (connect.BadReply kind text) = Bad kind

abbrev pub head_in : ConnectError → List ℕ
head_in connect.Memory = []
head_in connect.LinkFailed = []
head_in (connect.BadReply kind text) = text.items

-- the error tells the fault, and this head where the reply is bad
abbrev pub IsRefusal : List ℕ → Fault → ConnectError → Type 0
IsRefusal head Memory error = fault_in error ≡ Memory
IsRefusal head LinkFailed error = fault_in error ≡ LinkFailed
IsRefusal head (Bad kind) error = (fault_in error ≡ Bad kind) × (head_in error ≡ head)
