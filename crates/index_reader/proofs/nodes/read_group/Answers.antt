use Rattle.std.proofs.Common.{◌-◌, ◌*◌, ◌∙◌, arith}
use Rattle.section_window.proofs.Showing.{shows_passed}
use Rattle.index_reader.proofs.Stored.{stored_front}
use Rattle.index_reader.proofs.Stops.{first_exit}
use Rattle.index_reader.proofs.nodes.read_group.Goals as goal

pub returns-in_err-judge_group-clause-group : goal.returns-in_err-judge_group-clause-group
returns-in_err-judge_group-clause-group g c = λ k i children image told parent. let f = c.in_ok-fill.ensures in
    let front = stored_front c.fill.new.self (g.S.RangeSource.seen c.fill.new.source) image c.args.place c.args.first c.args.end (40 * (c.args.end - c.args.first)) (omega (arith, f.kept)) (omega arith) (omega arith) f.enough f.shows (f.keeps.image ∙ told) in
    first_exit c.from_residual-in_err-judge_group.result c.in_err-judge_group.field-0.0 _ c.from_residual-in_err-judge_group.ensures.1
    (c.in_err-judge_group.ensures.group image c.args.end k i (rw c.bytes.ensures.value front) children parent)

pub returns-in_err-judge_group-clause-root : goal.returns-in_err-judge_group-clause-root
returns-in_err-judge_group-clause-root g c = λ first end none image told. let f = c.in_ok-fill.ensures in
    let front = stored_front c.fill.new.self (g.S.RangeSource.seen c.fill.new.source) image c.args.place 0 1 (40 * (c.args.end - c.args.first)) (omega (arith, f.kept)) (omega arith) (omega arith) f.enough f.shows (f.keeps.image ∙ told) in
    first_exit c.from_residual-in_err-judge_group.result c.in_err-judge_group.field-0.0 _ c.from_residual-in_err-judge_group.ensures.1
    (c.in_err-judge_group.ensures.root image (rw c.bytes.ensures.value front) first none)

pub returns-clause-group : goal.returns-clause-group
returns-clause-group g c = λ k i children image told parent. let f = c.in_ok-fill.ensures in
    let front = stored_front c.fill.new.self (g.S.RangeSource.seen c.fill.new.source) image c.args.place c.args.first c.args.end (40 * (c.args.end - c.args.first)) (omega (arith, f.kept)) (omega arith) (omega arith) f.enough f.shows (f.keeps.image ∙ told) in
    c.in_ok-judge_group.ensures.group image c.args.end k i (rw c.bytes.ensures.value front) children parent

pub returns-clause-root : goal.returns-clause-root
returns-clause-root g c = λ first end none image told. let f = c.in_ok-fill.ensures in
    let front = stored_front c.fill.new.self (g.S.RangeSource.seen c.fill.new.source) image c.args.place 0 1 (40 * (c.args.end - c.args.first)) (omega (arith, f.kept)) (omega arith) (omega arith) f.enough f.shows (f.keeps.image ∙ told) in
    c.in_ok-judge_group.ensures.root image (rw c.bytes.ensures.value front) first none

pub returns-clause-shows : goal.returns-clause-shows
returns-clause-shows g c = let f = c.in_ok-fill.ensures in
    rw c.pass.ensures (shows_passed c.fill.new.self (g.S.RangeSource.seen c.fill.new.source) (40 * (c.args.end - c.args.first)) f.enough f.shows)
