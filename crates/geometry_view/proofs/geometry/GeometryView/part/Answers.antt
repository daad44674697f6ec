use Rattle.std.proofs.Common.{◌≡◌, ℕ, ◌+◌, ◌-◌, ◌<◌, ◌≤◌, Some, length, ap, refl, subst, sym, ◌∙◌, arith}
use Rattle.std.specs.Prelude.{slice_get}
use Rattle.flat_layout.specs.Layout.{count, entry_place, target}
use Rattle.flat_layout.specs.Promises.{IsClean}
use Rattle.flat_views.specs.TableVecs.{tables_bytes, tables_place}
use Rattle.fgb_schema.specs.Paths.{Breaks, thing}
use Rattle.fgb_schema.specs.Shapes.{parts_in, shape_at}
use Rattle.fgb_schema.specs.Tables.{geometry, part_type, tables}
use Rattle.flat_views.specs.declared.vectors.TableVec.{TableVec}
use Rattle.geometry_view.specs.declared.geometry.GeometryView.{GeometryView}
use Rattle.geometry_view.specs.Kinds.{number_of}
use Rattle.geometry_view.specs.Views.{geometry_shown, parts_shown}
use Rattle.geometry_view.specs.Weights.{shape_weight}
use Rattle.geometry_view.proofs.Light.{part_lighter}
use Rattle.geometry_view.proofs.OwnNumbers.{parts_count, part_shown, part_some}
use Rattle.geometry_view.proofs.geometry.GeometryView.part.Goals as goal

-- the i-th part, by the list that was read
part_listed : (g : GeometryView) (list : TableVec) (i outer deeper : ℕ) → parts_in (geometry_shown g) ≡ parts_shown (15 - g.depth) (part_type (number_of g.kind)) (Some list)
    → i < count (tables_bytes list) (tables_place list) → outer ≡ part_type (number_of g.kind) → deeper ≡ g.depth + 1
    → slice_get (parts_in (geometry_shown g)) i ≡ Some (shape_at (16 - deeper) outer (tables_bytes list) (target (tables_bytes list) (entry_place (tables_bytes list) (tables_place list) i)))
part_listed g list i outer deeper listed early type below =
    let levels : 15 - g.depth ≡ 16 - deeper = omega (arith, below) in
    ap (λ xs. slice_get xs i) listed ∙ part_some (15 - g.depth) (part_type (number_of g.kind)) list i early
    ∙ ap (λ n. Some (part_shown n (part_type (number_of g.kind)) list i)) levels ∙ ap (λ o. Some (part_shown (16 - deeper) o list i)) (sym type)

part_early : (g : GeometryView) (list : TableVec) (i : ℕ) → parts_in (geometry_shown g) ≡ parts_shown (15 - g.depth) (part_type (number_of g.kind)) (Some list)
    → i < length (parts_in (geometry_shown g)) → i < count (tables_bytes list) (tables_place list)
part_early g list i listed early = subst (λ n. i < n) (ap length listed ∙ parts_count (15 - g.depth) (part_type (number_of g.kind)) list) early

pub sound_part-requires-clause-early : goal.sound_part-requires-clause-early
sound_part-requires-clause-early c = part_early c.args.self.now c.in-Some.tables c.args.i c.in-Some.ensures.parts c.requires

pub sound_part-requires-clause-clean : goal.sound_part-requires-clause-clean
sound_part-requires-clause-clean c =
    let list = c.in-Some.tables in
    subst (λ outer. IsClean (Breaks (tables_bytes list) (thing (tables (geometry outer (c.args.self.now.depth + 1))) (tables_place list)))) (sym c.type_of_parts.ensures)
    (c.in-Some.ensures.clean list refl)

pub sound_part-requires-clause-light : goal.sound_part-requires-clause-light
sound_part-requires-clause-light c =
    let g = c.args.self.now in let list = c.in-Some.tables in
    let b = tables_bytes list in
    let part = shape_at (16 - (g.depth + 1)) c.type_of_parts.result b (target b (entry_place b (tables_place list) c.args.i)) in
    let lighter : 4 + shape_weight part ≤ shape_weight (geometry_shown g) = part_lighter (geometry_shown g) part c.args.i
    (part_listed g list c.args.i c.type_of_parts.result (g.depth + 1) c.in-Some.ensures.parts (part_early g list c.args.i c.in-Some.ensures.parts c.requires) c.type_of_parts.ensures refl) in
    omega (arith, lighter, g.light)

pub unreachable-requires : goal.unreachable-requires
unreachable-requires c = omega (arith, ap length c.in-None.ensures.parts, c.requires)

pub returns-clause-shape : goal.returns-clause-shape
returns-clause-shape c =
    let g = c.args.self.now in let list = c.in-Some.tables in
    part_listed g list c.args.i c.type_of_parts.result (g.depth + 1) c.in-Some.ensures.parts (part_early g list c.args.i c.in-Some.ensures.parts c.requires) c.type_of_parts.ensures refl
    ∙ ap Some (sym c.sound_part.ensures.shape)
