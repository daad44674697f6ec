use Rattle.std.proofs.Common.{◌-◌, ◌≤◌, inl, subst, sym}
use Rattle.flat_views.specs.Tables.{bytes_of, place_of}
use Rattle.geometry_view.specs.Kinds.{number_of}
use Rattle.geometry_view.specs.Weights.{shape_weight}
use Rattle.geometry_view.proofs.OwnType.{breaks_under, clean_shallow, kind_breaks, shape_under, some_kind}
use Rattle.geometry_view.proofs.geometry.GeometryView.sound_geometry.Goals as goal

pub unreachable-requires : goal.unreachable-requires
unreachable-requires c =
    let named = c.in-Err.ensures in
    c.requires.clean named.0 c.in-Err.field-0.rule (kind_breaks c.args.outer c.args.depth (bytes_of c.args.table) (place_of c.args.table) c.args.table.sound named.0 c.in-Err.field-0.rule named.2)

pub invariant_of-result : goal.invariant_of-result
invariant_of-result c =
    let b = bytes_of c.args.table in let p = place_of c.args.table in let kind = c.in-Ok.kind in
    record {
      deep = c.requires.deep;
      shallow = clean_shallow c.args.outer c.args.depth b p c.args.table.sound c.requires.clean;
      clean = λ q r broken. c.requires.clean q r
          (breaks_under b p c.args.outer (number_of kind) c.args.depth c.args.table.sound c.in-Ok.ensures.0 (some_kind kind) (λ q r broken. c.in-Ok.ensures.1 q r (inl broken)) q r broken);
      light = subst (λ s. shape_weight s ≤ 1073741824)
          (shape_under b p c.args.outer (number_of kind) c.args.depth c.args.table.sound c.in-Ok.ensures.0 (some_kind kind) (λ q r broken. c.in-Ok.ensures.1 q r (inl broken)) (16 - c.args.depth)) c.requires.light;
    }

pub returns-clause-shape : goal.returns-clause-shape
returns-clause-shape c =
    let kind = c.in-Ok.kind in
    sym (shape_under (bytes_of c.args.table) (place_of c.args.table) c.args.outer (number_of kind) c.args.depth c.args.table.sound c.in-Ok.ensures.0 (some_kind kind) (λ q r broken. c.in-Ok.ensures.1 q r (inl broken)) (16 - c.args.depth))
