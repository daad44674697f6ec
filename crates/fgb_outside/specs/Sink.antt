-- What a sink shows, and what a write does to it.
use Rattle.std.specs.Prelude.{◌≡◌, ℕ, ◌≤◌, List, take, Option, Result, OnOk, IsErrOf}
use Rattle.fgb_outside.specs.Source.{Rose, added}
use Rattle.fgb_outside.specs.declared.sinks.SinkError.{SinkError}
use Rattle.fgb_outside.specs.declared.sinks.SinkError.TheVariants.{Failed, Memory}

-- the bytes written, if they are told; how often a write has failed; and how often one found no memory
pub record Sink : Type 0 where
  pub written : Option (List ℕ)
  pub faults : ℕ
  pub wants : ℕ

-- all of the bytes were appended
abbrev pub Appends : Sink → Sink → List ℕ → Type 0
Appends old new bytes = new.written ≡ added old.written bytes

-- a front of the bytes was appended
abbrev pub AppendsPart : Sink → Sink → List ℕ → Type 0
AppendsPart old new bytes = (n : ℕ) × (new.written ≡ added old.written (take n bytes))

-- a write of a piece
pub record Writes {T : Type 0} (old new : Sink) (piece : List ℕ) (result : Result T SinkError) : Type 0 where
  pub written : OnOk result (Appends old new piece)
  pub part : AppendsPart old new piece
  pub later : old.faults ≤ new.faults
  pub later_wants : old.wants ≤ new.wants
  pub failed : IsErrOf result Failed → Rose old.faults new.faults
  pub wanted : IsErrOf result Memory → Rose old.wants new.wants
