use Rattle.std.proofs.Common.{ap}
use Rattle.flat_layout.proofs.Judging.{exit}
use Rattle.flat_views.specs.Meters.{left_of}
use Rattle.fgb_schema.specs.Tables.{feature}
use Rattle.fgb_schema.specs.Headers.{types}
use Rattle.fgb_header.proofs.RootTables.{refuse_root}
use Rattle.fgb_feature.proofs.GeometryUnder.{shown_under, table_refused, refused_under}
use Rattle.fgb_feature.proofs.feature.geometry_under.Goals as goal

pub returns-in_err-table-clause-refused : goal.returns-in_err-table-clause-refused
returns-in_err-table-clause-refused c =
    exit _ _ _ _ c.from_residual.ensures.1 (λ h same. refuse_root (feature h.geometry_type (types h.columns)) _ _ _ _ _ c.new.ensures.base c.new.ensures.bytes c.in_err-table.ensures)

pub returns-in_err-spend-clause-refused : goal.returns-in_err-spend-clause-refused
returns-in_err-spend-clause-refused c =
    exit _ _ _ _ c.from_residual-in_err-spend.ensures.1
    (λ h same. table_refused _ _ _ _ c.in_ok-table.table c.new.ensures.base c.new.ensures.bytes c.in_ok-table.ensures.0 c.in_ok-table.ensures.1
    c.meter_for-meter.result c.meter_for-meter.ensures.place c.meter_for-meter.ensures.left (left_of c.spend.new.self) _ c.in_err-spend.ensures.too_heavy (ap left_of c.in_err-spend.ensures.unchanged) h)

pub returns-clause-shown : goal.returns-clause-shown
returns-clause-shown c =
    shown_under _ _ _ _ c.in_ok-table.table c.new.ensures.base c.new.ensures.bytes c.in_ok-table.ensures.0 _ _ _ _ c.geometry_in.result c.geometry_in.ensures.goes

pub returns-clause-refused : goal.returns-clause-refused
returns-clause-refused c =
    refused_under _ _ _ _ c.in_ok-table.table c.new.ensures.base c.new.ensures.bytes c.in_ok-table.ensures.0 c.in_ok-table.ensures.1
    c.meter_for-meter.result c.meter_for-meter.ensures.place c.meter_for-meter.ensures.left _ _ c.spend.new.self c.in_ok-spend.ensures.ok c.geometry_in.result c.geometry_in.ensures.goes
