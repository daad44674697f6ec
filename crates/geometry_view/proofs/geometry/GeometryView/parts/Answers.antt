use Rattle.std.proofs.Common.{◌-◌, length, ap, sym, ◌∙◌}
use Rattle.fgb_schema.specs.Tables.{part_type}
use Rattle.geometry_view.specs.Kinds.{number_of}
use Rattle.geometry_view.proofs.OwnNumbers.{parts_count}
use Rattle.geometry_view.proofs.geometry.GeometryView.parts.Goals as goal

pub returns-in-Some : goal.returns-in-Some
returns-in-Some c =
    let g = c.args.self.now in
    c.len.ensures ∙ sym (parts_count (15 - g.depth) (part_type (number_of g.kind)) c.in-Some.tables) ∙ sym (ap length c.in-Some.ensures.parts)
