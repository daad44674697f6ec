use Rattle.std.proofs.Common.{sym, ◌∙◌}
use Rattle.fgb_header.proofs.Entries.{listed_length}
use Rattle.fgb_header.proofs.columns.Columns.len.Goals as goal

pub returns-in-Some : goal.returns-in-Some
returns-in-Some c = c.len.ensures ∙ sym (listed_length c.args.self.list c.in-Some.tables c.in-Some.is)
