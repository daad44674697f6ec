use Rattle.std.proofs.Common.{◌<◌, Some, subst, sym, ap, ◌∙◌}
use Rattle.std.specs.Option.{option_map}
use Rattle.std.proofs.lemmas.Option.{slice_get-map}
use Rattle.fgb_schema.specs.Headers.{Column}
use Rattle.fgb_header.specs.Parts.{listed}
use Rattle.fgb_header.proofs.Entries.{listed_length, listed_at}
use Rattle.fgb_header.proofs.columns.Columns.kind.Goals as goal

pub sound_kind-requires-clause-early : goal.sound_kind-requires-clause-early
sound_kind-requires-clause-early c = subst (λ n. c.args.i < n) (listed_length c.args.self.list c.in-Some.tables c.in-Some.is) c.requires

pub sound_kind-requires-clause-clean : goal.sound_kind-requires-clause-clean
sound_kind-requires-clause-clean c = c.args.self.clean c.in-Some.tables c.in-Some.is

pub returns-clause-value : goal.returns-clause-value
returns-clause-value c =
    slice_get-map (λ (k : Column). k.kind) (listed c.args.self.list) c.args.i
    ∙ ap (option_map (λ (k : Column). k.kind)) (listed_at c.args.self.list c.in-Some.tables c.args.i c.in-Some.is (subst (λ n. c.args.i < n) (listed_length c.args.self.list c.in-Some.tables c.in-Some.is) c.requires))
    ∙ ap (λ x. Some x) (sym c.sound_kind.ensures.value)
