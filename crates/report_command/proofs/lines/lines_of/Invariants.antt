use Rattle.std.proofs.Common.{◌≡◌, map, take}
use Rattle.report_command.specs.Writes.{lines_of}
use Rattle.report_command.proofs.lines.lines_of.Given as goal

abbrev pub invariant-loop-report : goal.invariant-loop-report
invariant-loop-report g l = l.lines.items ≡ lines_of (map (λ r. (goal.Reporter-dyn g (r.vtable, r.value)).shown r.value) (take l.report-index l.reports))
