use Rattle.flat_layout.proofs.Judging.{exit}
use Rattle.fgb_schema.specs.Tables.{feature}
use Rattle.fgb_schema.specs.Headers.{types}
use Rattle.fgb_header.specs.Views.{header_shown}
use Rattle.fgb_header.proofs.RootTables.{refuse_root, judge_root}
use Rattle.fgb_feature.specs.Views.{ShowsFeature}
use Rattle.fgb_feature.proofs.feature.FeatureView.read.Goals as goal

pub returns-in_err-table : goal.returns-in_err-table
returns-in_err-table c =
    let h = header_shown c.args.header.now in
    exit _ _ _ _ c.from_residual.ensures.1 (refuse_root (feature h.geometry_type (types h.columns)) _ _ _ _ _ c.new.ensures.base c.new.ensures.bytes c.in_err-table.ensures)

pub returns : goal.returns
returns c =
    let h = header_shown c.args.header.now in
    judge_root (feature h.geometry_type (types h.columns)) _ _ _ _ _ _ _ c.in_ok-table.table (ShowsFeature h) _
    c.new.ensures.base c.new.ensures.bytes c.in_ok-table.ensures.0 c.in_ok-table.ensures.1 c.meter_for-meter.ensures.place c.meter_for-meter.ensures.left c.in_table.ensures
