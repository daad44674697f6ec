use Rattle.std.proofs.Common.{◌<◌, Some, subst, sym, ap, ◌∙◌}
use Rattle.fgb_header.proofs.Entries.{listed_length, listed_at}
use Rattle.fgb_header.proofs.columns.Columns.get.Goals as goal

pub sound_column-requires-clause-early : goal.sound_column-requires-clause-early
sound_column-requires-clause-early c = subst (λ n. c.args.i < n) (listed_length c.args.self.list c.in-Some.tables c.in-Some.is) c.requires

pub sound_column-requires-clause-clean : goal.sound_column-requires-clause-clean
sound_column-requires-clause-clean c = c.args.self.clean c.in-Some.tables c.in-Some.is

pub returns : goal.returns
returns c =
    listed_at c.args.self.list c.in-Some.tables c.args.i c.in-Some.is (subst (λ n. c.args.i < n) (listed_length c.args.self.list c.in-Some.tables c.in-Some.is) c.requires)
    ∙ ap (λ x. Some x) (sym c.sound_column.ensures)
