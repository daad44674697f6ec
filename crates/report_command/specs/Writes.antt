-- The lines of reporters, and what they are written on.
use Rattle.std.specs.Prelude.{◌≡◌, ◌⊎◌, ℕ, List, Result, Err, OnOk, OnErr, IsErrOf}
use Rattle.std.specs.List.{flat_map}
use Rattle.fgb_outside.specs.Source.{Rose}
use Rattle.fgb_outside.specs.Sink.{Sink, Appends, AppendsPart}
use Rattle.fgb_reports.specs.States.{State}
use Rattle.fgb_reports.specs.Texts.{text_of}
use Rattle.command_words.specs.declared.stop.Stop.{Stop}
use Rattle.command_words.specs.declared.stop.Stop.TheVariants.{SinkFailed, Memory}

-- the lines of these reporters, in order
abbrev pub lines_of : List State → List ℕ
lines_of reports = flat_map text_of reports

-- what a call that writes them leaves
pub record WritesLines {T : Type 0} (o o' : Sink) (reports : List State) (result : Result T Stop) : Type 0 where
  pub whole : OnOk result (Appends o o' (lines_of reports))
  pub part : AppendsPart o o' (lines_of reports)
  pub failed : IsErrOf result SinkFailed → Rose o.faults o'.faults
  pub causes : OnErr result ((result ≡ Err SinkFailed) ⊎ (result ≡ Err Memory))
