use Rattle.std.proofs.Common.{◌≡◌, inl, arith}
use Rattle.flat_layout.specs.Layout.{led_to}
use Rattle.flat_layout.specs.Promises.{IsClean}
use Rattle.flat_layout.proofs.Judging.{exit}
use Rattle.flat_views.specs.Meters.{left_of, meter_place}
use Rattle.flat_views.specs.Tables.{base_of, bytes_of, place_of}
use Rattle.flat_views.proofs.Placed.{at_table}
use Rattle.fgb_schema.specs.Paths.{Breaks, geometry_part}
use Rattle.fgb_schema.specs.Shapes.{shape_at}
use Rattle.fgb_schema.specs.Weights.{IsPaid}
use Rattle.fgb_schema.proofs.TablesRead.{Refuses}
use Rattle.geometry_view.specs.Views.{geometry_shown}
use Rattle.fgb_feature.proofs.FeatureFields.{refuse_table, no_geometry, refuse_geometry, one_geometry}
use Rattle.fgb_feature.proofs.feature.geometry_in.Goals as goal

pub returns-in_err-geometry-clause-goes : goal.returns-in_err-geometry-clause-goes
returns-in_err-geometry-clause-goes c =
    exit _ _ _ _ c.from_residual.ensures.1 (inl (refuse_table c.args.outer (bytes_of c.args.table) (place_of c.args.table) _ _ c.in_err-geometry.ensures), omega arith)

pub returns-in_err-read_under-in-Some-clause-goes : goal.returns-in_err-read_under-in-Some-clause-goes
returns-in_err-read_under-in-Some-clause-goes c =
    let b = bytes_of c.args.table in let t = place_of c.args.table in
    let there = rw c.in-Some.is at c.in_ok-geometry.ensures in
    exit _ _ _ _ c.from_residual-in_err-read_under-in-Some.ensures.1
    (refuse_geometry c.args.outer b t there.1 there.0.0 (base_of c.args.table) _ _ _ _
    (at_table (base_of c.args.table) b (led_to b t 0) c.in-Some.geometry there.0.1
    (λ k s p. Refuses k s (geometry_part c.args.outer 1 p) (meter_place c.args.meter.now) (left_of c.args.meter.now) (left_of c.read_under.new.meter) c.in_err-read_under-in-Some.field-0.0)
    c.in_err-read_under-in-Some.ensures.goes))

pub returns-in_ok-read_under-in-Some-clause-goes : goal.returns-in_ok-read_under-in-Some-clause-goes
returns-in_ok-read_under-in-Some-clause-goes c =
    let b = bytes_of c.args.table in let t = place_of c.args.table in
    let there = rw c.in-Some.is at c.in_ok-geometry.ensures in
    let view = c.in_ok-read_under-in-Some.field-0 in
    let read = at_table (base_of c.args.table) b (led_to b t 0) c.in-Some.geometry there.0.1
    (λ k s p. (geometry_shown view ≡ shape_at 15 c.args.outer s p) × IsClean (Breaks s (geometry_part c.args.outer 1 p)) × IsPaid s (geometry_part c.args.outer 1 p) (left_of c.args.meter.now) (left_of c.read_under.new.meter))
    c.in_ok-read_under-in-Some.ensures.goes in
    one_geometry c.args.outer b t there.1 there.0.0 _ _ (geometry_shown view) read.0 read.1 read.2

pub returns-in-None-clause-goes : goal.returns-in-None-clause-goes
returns-in-None-clause-goes c =
    let b = bytes_of c.args.table in let t = place_of c.args.table in
    let missing = rw c.in-None.is at c.in_ok-geometry.ensures in
    no_geometry c.args.outer b t missing.1 (left_of c.args.meter.now) missing.0
