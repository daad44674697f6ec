use Rattle.std.proofs.Common.{map, subst}
use Rattle.report_command.specs.Writes.{WritesLines}
use Rattle.report_command.proofs.Reporting.{wrote}
use Rattle.report_command.proofs.top.report_found.Goals as goal

pub returns : goal.returns
returns g c = wrote c.args.boxes.now c.args.gap _ _ _ _ _ _ c.in_ok-feed_found.field-0 c.write_lines.result c.in_ok-feed_found.ensures
    (subst (λ reports. WritesLines (g.W.Sink.shown c.args.out.now) (g.W.Sink.shown c.write_lines.new.out) (map (λ r. (goal.Reporter-dyn g (r.vtable, r.value)).shown r.value) reports) c.write_lines.result) c.deref.ensures.value c.write_lines.ensures)
