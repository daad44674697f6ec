use Rattle.fgb_outside.specs.Memory.{source_of}
use Rattle.section_window.specs.Window.{Shows}
use Rattle.section_window.proofs.tests.a_section_is_walked.Given as goal

abbrev pub invariant-loop : goal.invariant-loop
invariant-loop g l = Shows l.window (source_of l.source)
