use Rattle.std.proofs.Common.{◌≡◌, inl, ◌+◌, ◌-◌, ◌*◌, refl, subst, ◌∙◌, arith}
use Rattle.flat_layout.specs.Layout.{count, entry_place, target}
use Rattle.flat_layout.specs.Promises.{IsClean}
use Rattle.flat_layout.proofs.Judging.{exit, names-weaker}
use Rattle.flat_views.specs.Meters.{left_of, meter_place}
use Rattle.flat_views.specs.TableVecs.{tables_base, tables_bytes, tables_place}
use Rattle.flat_views.specs.Tables.{base_of, bytes_of, place_of}
use Rattle.flat_views.proofs.Placed.{at_table, sound_list}
use Rattle.fgb_schema.specs.Tables.{Name, geometry as geometry_name, part_type}
use Rattle.fgb_schema.specs.Paths.{Breaks, geometry_part}
use Rattle.fgb_schema.specs.Weights.{IsPaid}
use Rattle.fgb_schema.proofs.TablesParts.{entry_part}
use Rattle.fgb_schema.proofs.TablesRead.{Refuses, AreRead, one_read, refuse_entry, all_read, refuse_table, refuse_behind, behind_clean, behind_paid}
use Rattle.geometry_view.specs.Kinds.{number_of}
use Rattle.geometry_view.proofs.Levels.{goes_alone, goes_with, refuse_own}
use Rattle.geometry_view.proofs.Light.{light_paid}
use Rattle.geometry_view.proofs.OwnType.{known_kind, some_kind, goes_under, kind_breaks, deep_breaks}
use Rattle.geometry_view.proofs.geometry.GeometryView.+tree.Goals as goal

pub read-returns-in_err-read_tree-clause-goes : goal.read-returns-in_err-read_tree-clause-goes
read-returns-in_err-read_tree-clause-goes t c = exit _ _ _ _ c.from_residual.ensures.1 c.in_err-read_tree.ensures.goes

pub read-returns-clause-goes : goal.read-returns-clause-goes
read-returns-clause-goes t c = let read = c.in_ok-read_tree.ensures.goes in (refl, read.1, read.2)

pub read-invariant_of-result : goal.read-invariant_of-result
read-invariant_of-result t c =
    let read = c.in_ok-read_tree.ensures.goes in record {
      deep = c.requires.deep;
      shallow = c.requires.shallow;
      clean = read.1;
      light = light_paid (bytes_of c.args.table) (16 - c.args.depth) (number_of c.args.kind) c.args.depth (place_of c.args.table) (left_of c.args.meter.now) (left_of c.read_tree.new.meter) 1073741824
          c.args.table.sound read.1 read.2 c.args.meter.now.small;
    }

pub read_tree-returns-in_err-parts-clause-goes : goal.read_tree-returns-in_err-parts-clause-goes
read_tree-returns-in_err-parts-clause-goes t c = exit _ _ _ _ c.from_residual.ensures.1
    (refuse_own (number_of c.args.kind) c.args.depth (base_of c.args.table) (bytes_of c.args.table) (place_of c.args.table) c.args.table.sound (known_kind c.args.kind)
    (meter_place c.args.meter.now) (left_of c.args.meter.now) (left_of c.own_level.new.meter) _ c.in_err-parts.ensures.goes)

pub read_tree-returns-in-Some-clause-goes : goal.read_tree-returns-in-Some-clause-goes
read_tree-returns-in-Some-clause-goes t c =
    let own = c.in_ok-parts.ensures.goes in
    goes_with (number_of c.args.kind) c.args.depth (base_of c.args.table) (bytes_of c.args.table) (place_of c.args.table) c.args.table.sound (known_kind c.args.kind) c.requires
    c.in_ok-parts.field-0 own.0 own.1 c.in-Some.parts c.in-Some.is (left_of c.args.meter.now) (left_of c.own_level.new.meter) (left_of c.read_parts.new.meter) own.2
    (meter_place c.own_level.new.meter) (meter_place c.args.meter.now) c.in_ok-parts.ensures.place c.read_parts.result c.read_parts.ensures.goes

pub read_tree-returns-in-None-clause-goes : goal.read_tree-returns-in-None-clause-goes
read_tree-returns-in-None-clause-goes t c =
    let own = c.in_ok-parts.ensures.goes in
    goes_alone (number_of c.args.kind) c.args.depth (base_of c.args.table) (bytes_of c.args.table) (place_of c.args.table) c.args.table.sound (known_kind c.args.kind) c.requires
    c.in_ok-parts.field-0 own.0 own.1 (meter_place c.args.meter.now) (left_of c.args.meter.now) (left_of c.own_level.new.meter) own.2 c.in-None.is

pub read_parts-returns-in_err-read_part-clause-goes : goal.read_parts-returns-in_err-read_part-clause-goes
read_parts-returns-in_err-read_part-clause-goes t c =
    let b = tables_bytes c.args.parts in let v = tables_place c.args.parts in
    exit _ _ _ _ c.from_residual.ensures.1
    (refuse_entry b (geometry_name (part_type (number_of c.args.kind)) (c.args.depth + 1)) v (sound_list c.args.parts) (tables_base c.args.parts) (meter_place c.loop-i.meter) (meter_place c.args.meter.now)
    (4 * count b v + left_of c.args.meter.now) (left_of c.loop-i.meter) (left_of c.read_part.new.meter) c.loop-i.i _ c.loop-i.invariant.1 (omega arith) c.loop-i.invariant.0
    (subst (λ o. Refuses (tables_base c.args.parts) b (entry_part b (geometry_name o (c.args.depth + 1)) v c.loop-i.i) (meter_place c.loop-i.meter) (left_of c.loop-i.meter) (left_of c.read_part.new.meter) c.in_err-read_part.field-0.0) c.type_of_parts.ensures c.in_err-read_part.ensures.goes))

pub read_parts-loop-i-preserved : goal.read_parts-loop-i-preserved
read_parts-loop-i-preserved t c =
    let b = tables_bytes c.args.parts in let v = tables_place c.args.parts in
    let read = c.in_ok-read_part.ensures in
    let name : Name = geometry_name (part_type (number_of c.args.kind)) (c.args.depth + 1) in (
      one_read b name v (4 * count b v + left_of c.args.meter.now) (left_of c.loop-i.meter) (left_of c.read_part.new.meter) c.loop-i.i c.loop-i.invariant.0
          (subst (λ o. IsClean (Breaks b (entry_part b (geometry_name o (c.args.depth + 1)) v c.loop-i.i))) c.type_of_parts.ensures read.goes.1)
          (subst (λ o. IsPaid b (entry_part b (geometry_name o (c.args.depth + 1)) v c.loop-i.i) (left_of c.loop-i.meter) (left_of c.read_part.new.meter)) c.type_of_parts.ensures read.goes.2),
      read.place ∙ c.loop-i.invariant.1,
    )

pub read_parts-returns-clause-goes : goal.read_parts-returns-clause-goes
read_parts-returns-clause-goes t c =
    let b = tables_bytes c.args.parts in let v = tables_place c.args.parts in
    let name : Name = geometry_name (part_type (number_of c.args.kind)) (c.args.depth + 1) in
    let whole : c.loop-i.i ≡ count b v = omega arith in
    let before = 4 * count b v + left_of c.args.meter.now in
    let all = all_read b name v (sound_list c.args.parts) before (left_of c.loop-i.meter) refl (subst (AreRead b name v before (left_of c.loop-i.meter)) whole c.loop-i.invariant.0) in
    (tt, all.0, all.1)

pub read_part-returns-in_err-get-clause-goes : goal.read_part-returns-in_err-get-clause-goes
read_part-returns-in_err-get-clause-goes t c =
    let b = tables_bytes c.args.parts in let p = entry_place b (tables_place c.args.parts) c.args.i in
    exit _ _ _ _ c.from_residual.ensures.1 (inl (refuse_table b (geometry_name c.args.outer (c.args.depth + 1)) p (tables_base c.args.parts) _ c.in_err-get.ensures), omega arith)

pub read_part-returns-in_err-read_under-clause-goes :
    goal.read_part-returns-in_err-read_under-clause-goes
read_part-returns-in_err-read_under-clause-goes t c =
    let base = tables_base c.args.parts in let b = tables_bytes c.args.parts in let p = entry_place b (tables_place c.args.parts) c.args.i in
    let table = c.in_ok-get.ensures in
    let refusal = c.in_err-read_under.field-0.0 in
    exit _ _ _ _ c.from_residual-in_err-read_under.ensures.1
    (refuse_behind b (geometry_name c.args.outer (c.args.depth + 1)) p table.1 base (meter_place c.args.meter.now) (left_of c.args.meter.now) (left_of c.read_under.new.meter) refusal
    (at_table base b (target b p) c.in_ok-get.field-0 table.0 (λ k s t. Refuses k s (geometry_part c.args.outer (c.args.depth + 1) t) (meter_place c.args.meter.now) (left_of c.args.meter.now) (left_of c.read_under.new.meter) refusal) c.in_err-read_under.ensures.goes))

pub read_part-returns-clause-goes : goal.read_part-returns-clause-goes
read_part-returns-clause-goes t c =
    let base = tables_base c.args.parts in let b = tables_bytes c.args.parts in let p = entry_place b (tables_place c.args.parts) c.args.i in
    let name : Name = geometry_name c.args.outer (c.args.depth + 1) in
    let table = c.in_ok-get.ensures in let read = c.in_ok-read_under.ensures.goes in (
      tt,
      behind_clean b name p table.1 (at_table base b (target b p) c.in_ok-get.field-0 table.0 (λ _ s t. IsClean (Breaks s (geometry_part c.args.outer (c.args.depth + 1) t))) read.1),
      behind_paid b name p table.1 (left_of c.args.meter.now) (left_of c.read_under.new.meter)
          (at_table base b (target b p) c.in_ok-get.field-0 table.0 (λ _ s t. IsPaid s (geometry_part c.args.outer (c.args.depth + 1) t) (left_of c.args.meter.now) (left_of c.read_under.new.meter)) read.2),
    )

pub read_under-returns-then-depth-gt-MAX_DEPTH-clause-goes :
    goal.read_under-returns-then-depth-gt-MAX_DEPTH-clause-goes
read_under-returns-then-depth-gt-MAX_DEPTH-clause-goes t c =
    let p = place_of c.args.table in
    (inl (p, c.place.ensures, deep_breaks c.args.outer c.args.depth (bytes_of c.args.table) p c.args.table.sound c.if-depth-gt-MAX_DEPTH.true), omega arith)

pub read_under-returns-in_err-kind-clause-goes : goal.read_under-returns-in_err-kind-clause-goes
read_under-returns-in_err-kind-clause-goes t c =
    exit _ _ _ _ c.from_residual.ensures.1
    (inl (names-weaker _ _ _ _ (kind_breaks c.args.outer c.args.depth (bytes_of c.args.table) (place_of c.args.table) c.args.table.sound) c.in_err-kind.ensures), omega arith)

pub read_under-returns-clause-goes : goal.read_under-returns-clause-goes
read_under-returns-clause-goes t c =
    let b = bytes_of c.args.table in let p = place_of c.args.table in let kind = c.in_ok-kind.kind in
    goes_under b p c.args.outer (number_of kind) c.args.depth c.args.table.sound c.in_ok-kind.ensures.0 (some_kind kind) (λ q r broken. c.in_ok-kind.ensures.1 q r (inl broken))
    (base_of c.args.table) (meter_place c.args.meter.now) (left_of c.args.meter.now) (left_of c.read.new.meter) _ _ c.read.result c.read.ensures.goes
