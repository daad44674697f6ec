use Rattle.std.proofs.Common.{◌+◌, Ok, Err, ap}
use Rattle.read_stop.proofs.Stopping.{refused_exit, on_err}
use Rattle.fgb_reader.proofs.Framing.{judged_window}
use Rattle.fgb_reader.proofs.Filling.{fills_one, fills_on, fills_part, fills_whole}
use Rattle.fgb_reader.proofs.pieces.next_piece.Goals as goal

pub returns-in_err-size-clause-refused : goal.returns-in_err-size-clause-refused
returns-in_err-size-clause-refused g c = let f = c.in_ok-fill_prefix.ensures in
    refused_exit c.from_residual-in_err-size.result c.in_err-size.field-0.0 _ c.from_residual-in_err-size.ensures.1
    (judged_window (Err c.in_err-size.field-0.0) c.args.window.now c.fill_prefix.new.window (g.S.RangeSource.seen c.args.source.now) (g.S.RangeSource.seen c.fill_prefix.new.source) _ _ _ f.kept.0 f.kept.1 c.at-at.ensures.value c.end.ensures.value c.bytes.ensures.value f.fills.reads.keeps.image f.shows f.enough c.in_err-size.ensures.judged)

pub returns-in_err-size-clause-part : goal.returns-in_err-size-clause-part
returns-in_err-size-clause-part g c = let f = c.in_ok-fill_prefix.ensures in
    on_err _ _ (fills_whole c.args.window.now c.fill_prefix.new.window _ _ f.kept.0 f.kept.1 f.shows.within f.fills)

pub returns-in_err-fill-clause-part : goal.returns-in_err-fill-clause-part
returns-in_err-fill-clause-part g c = let f = c.in_ok-fill_prefix.ensures in
    on_err _ _ (fills_part c.args.window.now c.fill_prefix.new.window _ _ _ f.kept.0 f.kept.1 f.shows.within f.fills c.in_err-fill.ensures.front_pieces)

pub returns-clause-framed : goal.returns-clause-framed
returns-clause-framed g c = λ image told whole. let f = c.in_ok-fill_prefix.ensures in
    let judged = judged_window (Ok c.in_ok-size.size) c.args.window.now c.fill_prefix.new.window (g.S.RangeSource.seen c.args.source.now) (g.S.RangeSource.seen c.fill_prefix.new.source) _ _ _ f.kept.0 f.kept.1 c.at-at.ensures.value c.end.ensures.value c.bytes.ensures.value f.fills.reads.keeps.image f.shows f.enough c.in_ok-size.ensures.judged image told whole in
    (judged.0, ap (λ n. 4 + n) judged.1)

pub returns-clause-fills : goal.returns-clause-fills
returns-clause-fills g c = let f = c.in_ok-fill_prefix.ensures in let h = c.in_ok-fill.ensures in
    fills_on c.args.window.now c.fill_prefix.new.window c.fill.new.self _ _ _ f.kept.0 f.kept.1 f.fills (fills_one _ _ _ _ h.kept.0 h.grows h.pieces)
