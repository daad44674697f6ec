-- Why a query stops.
use Rattle.std.specs.Prelude.{◌≡◌, ⊤, Result, IfErr}
use Rattle.flat_layout.specs.declared.Broken.{Broken}
use Rattle.fgb_outside.specs.declared.sources.SourceError.{SourceError}
use Rattle.fgb_outside.specs.declared.sources.SourceError.TheVariants as source_error
use Rattle.read_stop.specs.declared.stop.ReadStop.{ReadStop}
use Rattle.read_stop.specs.declared.stop.ReadStop.TheVariants as read_stop
use Rattle.found_features.specs.declared.visitor.VisitError.{VisitError}
use Rattle.found_features.specs.declared.visitor.VisitError.TheVariants as visit_error
use Rattle.found_features.specs.declared.stop.QueryError.{QueryError}
use Rattle.found_features.specs.declared.stop.QueryError.TheVariants.{Refused, SourceFailed, VisitorStopped, Memory}

-- what an error of a source, of reading and of a visitor stops it as
abbrev pub IsSourceCause : SourceError → QueryError → Type 0
IsSourceCause source_error.Failed stop = stop ≡ SourceFailed
IsSourceCause source_error.Memory stop = stop ≡ Memory

abbrev pub IsReadCause : ReadStop → QueryError → Type 0
IsReadCause (read_stop.Refused broken) stop = stop ≡ Refused broken
IsReadCause read_stop.SourceFailed stop = stop ≡ SourceFailed
IsReadCause read_stop.Memory stop = stop ≡ Memory

abbrev pub IsVisitCause : VisitError → QueryError → Type 0
IsVisitCause visit_error.Stopped stop = stop ≡ VisitorStopped
IsVisitCause visit_error.Memory stop = stop ≡ Memory

-- P of the refusal, where it was refused
abbrev pub AtRefusal : QueryError → (Broken → Type 0) → Type 0
AtRefusal (Refused broken) P = P broken
AtRefusal SourceFailed P = ⊤
AtRefusal VisitorStopped P = ⊤
AtRefusal Memory P = ⊤

abbrev pub IfRefused : {T : Type 0} → Result T QueryError → (Broken → Type 0) → Type 0
IfRefused result P = IfErr result (λ stop. AtRefusal stop P)
