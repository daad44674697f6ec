-- The statuses of the program.
use Rattle.std.specs.Prelude.{◌≡◌, ⊤, ℕ, Result, Ok, Err, IfErr}
use Rattle.flat_layout.specs.declared.Broken.{Broken}
use Rattle.fgb_outside.specs.Sink.{Sink}
use Rattle.command_words.specs.declared.stop.Stop.{Stop}
use Rattle.command_words.specs.declared.stop.Stop.TheVariants.{Refused, SourceFailed, SinkFailed, Memory, TooLarge}
use Rattle.command_words.specs.Texts.{Tells, refusal_text, source_text, sink_text, memory_text, too_large_text}

-- the status of a result, and what it leaves on the error sink
abbrev pub IsStatus : {T : Type 0} → Result T Stop → Sink → Sink → ℕ → Type 0
IsStatus (Ok done) e e' status = (status ≡ 0) × (e' ≡ e)
IsStatus (Err (Refused broken)) e e' status = (status ≡ 1) × Tells e e' (refusal_text broken)
IsStatus (Err SourceFailed) e e' status = (status ≡ 3) × Tells e e' source_text
IsStatus (Err SinkFailed) e e' status = (status ≡ 4) × Tells e e' sink_text
IsStatus (Err Memory) e e' status = (status ≡ 5) × Tells e e' memory_text
IsStatus (Err TooLarge) e e' status = (status ≡ 6) × Tells e e' too_large_text

-- P of the refusal, where the work was refused
abbrev pub AtRefusal : Stop → (Broken → Type 0) → Type 0
AtRefusal (Refused broken) P = P broken
AtRefusal SourceFailed P = ⊤
AtRefusal SinkFailed P = ⊤
AtRefusal Memory P = ⊤
AtRefusal TooLarge P = ⊤

abbrev pub IfRefused : {T : Type 0} → Result T Stop → (Broken → Type 0) → Type 0
IfRefused result P = IfErr result (λ stop. AtRefusal stop P)
