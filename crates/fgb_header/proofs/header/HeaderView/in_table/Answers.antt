use Rattle.std.proofs.Common.{inl, inr, ap, arith}
use Rattle.flat_layout.proofs.Judging.{exit, names-weaker}
use Rattle.flat_views.specs.Meters.{left_of}
use Rattle.flat_views.specs.Tables.{bytes_of, place_of}
use Rattle.fgb_header.proofs.HeaderGroups.{own_broken, header_clean, header_is}
use Rattle.fgb_header.proofs.HeaderWeights.{own_refused, columns_refused, header_paid}
use Rattle.fgb_header.proofs.header.HeaderView.in_table.Goals as goal

pub returns-in_err-own : goal.returns-in_err-own
returns-in_err-own c = exit _ _ _ _ c.from_residual.ensures.1 (inl (names-weaker _ _ _ _ (own_broken (bytes_of c.args.table) (place_of c.args.table) c.args.table.sound) c.in_err-own.ensures), omega arith)

pub returns-in_err-spend : goal.returns-in_err-spend
returns-in_err-spend c =
    let own = c.in_ok-own.own in let read = c.in_ok-own.ensures in
    exit _ _ _ _ c.from_residual-in_err-spend.ensures.1 (
      inr (own_refused (bytes_of c.args.table) (place_of c.args.table) read.1 c.args.table.sound own read.0 c.args.meter.now _ c.weight.result c.weight.ensures c.in_err-spend.ensures.too_heavy),
      omega (arith, ap left_of c.in_err-spend.ensures.unchanged),
    )

pub returns-in_err-columns : goal.returns-in_err-columns
returns-in_err-columns c =
    let own = c.in_ok-own.own in let read = c.in_ok-own.ensures in let spent = c.in_ok-spend.ensures.ok in
    exit _ _ _ _ c.from_residual-in_err-columns.ensures.1
    (columns_refused (bytes_of c.args.table) (place_of c.args.table) read.1 c.args.table.sound own read.0 _ _ _ _ (left_of c.spend.new.self) _ _ spent.same_place (omega (arith, spent.taken, c.weight.ensures)) c.in_err-columns.ensures.goes)

pub returns : goal.returns
returns c =
    let b = bytes_of c.args.table in let t = place_of c.args.table in
    let own = c.in_ok-own.own in let read = c.in_ok-own.ensures in
    let columns = c.in_ok-columns.ensures.goes in (
      header_is b t own c.in_ok-columns.columns read.0 columns.0,
      header_clean b t c.args.table.sound read.1 columns.1,
      header_paid b t read.1 c.args.table.sound own read.0 _ (left_of c.spend.new.self) _ (omega (arith, c.in_ok-spend.ensures.ok.taken, c.weight.ensures)) columns.2,
    )
