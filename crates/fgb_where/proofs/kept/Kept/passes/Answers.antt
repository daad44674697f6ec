use Rattle.std.proofs.Common.{◌≡◌, ap, ◌∙◌, subst}
use Rattle.fgb_schema.specs.Headers.{header_of}
use Rattle.fgb_schema.specs.Paths.{feature_root}
use Rattle.fgb_schema.specs.Weights.{BreaksBuffer}
use Rattle.fgb_header.specs.Views.{header_shown}
use Rattle.fgb_where.proofs.kept.Kept.passes.Goals as goal

pub unreachable-requires-in-Err : goal.unreachable-requires-in-Err
unreachable-requires-in-Err c =
    let same : header_shown c.in-Ok.header ≡ header_of c.args.self.now.bytes.items = c.in-Ok.ensures.judged.0 ∙ ap header_of c.deref.ensures.value in
    let e = c.in-Err.field-0 in let named = c.in-Err.ensures in
    c.requires.clean named.0 e.rule (subst (λ h. BreaksBuffer c.args.found.now.bytes.now (feature_root h) named.0 e.rule) same named.2)
