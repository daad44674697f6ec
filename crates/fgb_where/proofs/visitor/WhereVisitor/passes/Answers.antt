use Rattle.std.proofs.Common.{ap, sym, ◌∙◌}
use Rattle.std.specs.Option.{option_map}
use Rattle.fgb_schema.specs.Headers.{header_of}
use Rattle.fgb_where.specs.Filtering.{State, Under}
use Rattle.fgb_where.specs.Keeping.{under_in}
use Rattle.fgb_where.proofs.visitor.WhereVisitor.passes.Goals as goal

pub passes-requires : goal.passes-requires
passes-requires g c =
    c.requires (header_of c.in-Some.kept.bytes.items)
    (ap (λ (s : State _). option_map (λ (under : Under). under.header) s.kept) (sym c.self.view_is)
    ∙ ap (λ kept. option_map (λ (under : Under). under.header) (option_map under_in kept)) c.in-Some.is)
