use Rattle.header_info.proofs.Lists.{tables_none, tables_next}
use Rattle.header_info.proofs.column.tables_for.Goals as goal

pub loop-column-init : goal.loop-column-init
loop-column-init c = tables_none _ c.new-all.ensures.items

pub loop-column-preserved : goal.loop-column-preserved
loop-column-preserved c =
    tables_next c.loop-column.all.items _ c.args.columns.now c.loop-column.column-index c.column-item.result c.in_ok-table.field-0 c.loop-column.invariant
    c.loop-column-test.true c.column-item.is c.in_ok-table.ensures.ok c.in_ok-push.ensures.items
