use Rattle.std.proofs.Common.{Err, Ok}
use Rattle.flat_layout.proofs.Judging.{exit}
use Rattle.fgb_schema.specs.Tables.{header}
use Rattle.fgb_header.specs.GroupViews.{ShowsFields}
use Rattle.fgb_header.proofs.RootTables.{refuse_root, judge_root}
use Rattle.fgb_header.proofs.header.HeaderView.read.Goals as goal

pub returns-in_err-table-clause-judged : goal.returns-in_err-table-clause-judged
returns-in_err-table-clause-judged c = exit _ _ _ _ c.from_residual.ensures.1 (refuse_root header _ _ _ _ _ c.new.ensures.base c.new.ensures.bytes c.in_err-table.ensures)

pub returns-in_err-own-clause-judged : goal.returns-in_err-own-clause-judged
returns-in_err-own-clause-judged c =
    exit _ _ _ _ c.from_residual-in_err-own.ensures.1
    (judge_root header _ _ _ _ _ _ _ c.in_ok-table.table ShowsFields (Err c.in_err-own.field-0.0) c.new.ensures.base c.new.ensures.bytes c.in_ok-table.ensures.0 c.in_ok-table.ensures.1 c.new-meter.ensures.place c.new-meter.ensures.left c.in_err-own.ensures)

pub invariant_of-result-clause-clean : goal.invariant_of-result-clause-clean
invariant_of-result-clause-clean c =
    (judge_root header _ _ _ _ _ _ _ c.in_ok-table.table ShowsFields (Ok (c.in_ok-own.own, c.in_ok-own.columns)) c.new.ensures.base c.new.ensures.bytes c.in_ok-table.ensures.0 c.in_ok-table.ensures.1 c.new-meter.ensures.place c.new-meter.ensures.left c.in_ok-own.ensures).1

pub invariant_of-result-clause-same : goal.invariant_of-result-clause-same
invariant_of-result-clause-same c =
    (judge_root header _ _ _ _ _ _ _ c.in_ok-table.table ShowsFields (Ok (c.in_ok-own.own, c.in_ok-own.columns)) c.new.ensures.base c.new.ensures.bytes c.in_ok-table.ensures.0 c.in_ok-table.ensures.1 c.new-meter.ensures.place c.new-meter.ensures.left c.in_ok-own.ensures).0
