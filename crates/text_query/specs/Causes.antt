-- Why a text is not written to its end.
use Rattle.std.specs.Prelude.{◌≡◌, ⊤, Result, IfErr}
use Rattle.flat_layout.specs.declared.Broken.{Broken}
use Rattle.fgb_outside.specs.declared.sinks.SinkError.{SinkError}
use Rattle.fgb_outside.specs.declared.sinks.SinkError.TheVariants as sink_error
use Rattle.found_features.specs.declared.stop.QueryError.{QueryError}
use Rattle.found_features.specs.declared.stop.QueryError.TheVariants as query_error
use Rattle.text_query.specs.declared.error.TextError.{TextError}
use Rattle.text_query.specs.declared.error.TextError.TheVariants.{Refused, SourceFailed, SinkFailed, TooLarge, Memory}

-- what an error of a query ends a text as: its visitor stops where the sink fails
abbrev pub IsQueryCause : QueryError → TextError → Type 0
IsQueryCause (query_error.Refused broken) error = error ≡ Refused broken
IsQueryCause query_error.SourceFailed error = error ≡ SourceFailed
IsQueryCause query_error.VisitorStopped error = error ≡ SinkFailed
IsQueryCause query_error.Memory error = error ≡ Memory

-- what an error of a sink ends it as
abbrev pub IsSinkCause : SinkError → TextError → Type 0
IsSinkCause sink_error.Failed error = error ≡ SinkFailed
IsSinkCause sink_error.Memory error = error ≡ Memory

-- P of the refusal, where the file was refused
abbrev pub AtRefusal : TextError → (Broken → Type 0) → Type 0
AtRefusal (Refused broken) P = P broken
AtRefusal SourceFailed P = ⊤
AtRefusal SinkFailed P = ⊤
AtRefusal TooLarge P = ⊤
AtRefusal Memory P = ⊤

abbrev pub IfRefused : {T : Type 0} → Result T TextError → (Broken → Type 0) → Type 0
IfRefused result P = IfErr result (λ error. AtRefusal error P)
