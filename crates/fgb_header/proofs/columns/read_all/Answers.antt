use Rattle.std.proofs.Common.{◌≡◌, ◌≤◌, ◌<◌, nat_le, true, false, refl, subst, ◌∙◌, arith}
use Rattle.std.proofs.lemmas.Bool.Decides.{nat_tests}
use Rattle.flat_layout.specs.Layout.{count}
use Rattle.flat_layout.proofs.Judging.{exit}
use Rattle.flat_views.specs.Meters.{left_of, meter_place}
use Rattle.flat_views.specs.TableVecs.{tables_base, tables_bytes, tables_place}
use Rattle.flat_views.proofs.Placed.{sound_list}
use Rattle.fgb_schema.specs.Tables.{column}
use Rattle.fgb_schema.proofs.TablesRead.{AreRead, one_read, all_read, refuse_entry, refuse_many}
use Rattle.fgb_header.proofs.Entries.{refuse_list}
use Rattle.fgb_header.proofs.columns.read_all.Goals as goal

pub returns-then-len-gt-MAX_COLUMNS-clause-goes : goal.returns-then-len-gt-MAX_COLUMNS-clause-goes
returns-then-len-gt-MAX_COLUMNS-clause-goes c =
    let b = tables_bytes c.args.tables in let v = tables_place c.args.tables in
    let more : 65536 < count b v = omega arith in
    let over : nat_le (count b v) 65536 ≡ false = grind (arith, nat_tests) in
    refuse_many b column v (sound_list c.args.tables) (tables_base c.args.tables) (meter_place c.args.meter.now) (left_of c.args.meter.now) _ over c.place.ensures refl

pub returns-in_err-spend-clause-goes : goal.returns-in_err-spend-clause-goes
returns-in_err-spend-clause-goes c = exit _ _ _ _ c.from_residual.ensures.1
    (refuse_list (tables_bytes c.args.tables) (tables_place c.args.tables) (sound_list c.args.tables) (tables_base c.args.tables) _ c.args.meter.now c.spend.new.self _ (omega arith) c.in_err-spend.ensures.too_heavy c.in_err-spend.ensures.unchanged)

pub returns-in_err-read_entry-clause-goes : goal.returns-in_err-read_entry-clause-goes
returns-in_err-read_entry-clause-goes c = exit _ _ _ _ c.from_residual-in_err-read_entry.ensures.1
    (refuse_entry (tables_bytes c.args.tables) column (tables_place c.args.tables) (sound_list c.args.tables) (tables_base c.args.tables) (meter_place c.loop-i.meter) (meter_place c.args.meter.now) (left_of c.args.meter.now) (left_of c.loop-i.meter) (left_of c.read_entry.new.meter) c.loop-i.i _
    c.loop-i.invariant.1 (omega arith) c.loop-i.invariant.0 c.in_err-read_entry.ensures.goes)

pub loop-i-preserved : goal.loop-i-preserved
loop-i-preserved c =
    let read = c.in_ok-read_entry.ensures in (
      one_read (tables_bytes c.args.tables) column (tables_place c.args.tables) (left_of c.args.meter.now) (left_of c.loop-i.meter) (left_of c.read_entry.new.meter) c.loop-i.i c.loop-i.invariant.0 read.goes.1 read.goes.2,
      read.place ∙ c.loop-i.invariant.1,
    )

pub returns-clause-goes : goal.returns-clause-goes
returns-clause-goes c =
    let b = tables_bytes c.args.tables in let v = tables_place c.args.tables in
    let whole : c.loop-i.i ≡ count b v = omega arith in
    let few : count b v ≤ 65536 = omega arith in
    let under : nat_le (count b v) 65536 ≡ true = grind (arith, nat_tests) in
    let all = all_read b column v (sound_list c.args.tables) (left_of c.args.meter.now) (left_of c.loop-i.meter) under (subst (AreRead b column v (left_of c.args.meter.now) (left_of c.loop-i.meter)) whole c.loop-i.invariant.0) in
    (tt, all.0, all.1)
