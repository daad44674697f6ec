use Rattle.std.proofs.Common.{◌≡◌, ◌+◌, ◌-◌, length, ap, arith}
use Rattle.fgb_file.specs.File.{size_at}
use Rattle.read_stop.proofs.Stopping.{on_err}
use Rattle.hit_reader.proofs.Filling.{fills_one, fills_on, part_one, part_on, part_longer, part_whole, part_told, front_bytes, near_bound}
use Rattle.hit_reader.proofs.Refusing.{refused_exit}
use Rattle.hit_reader.proofs.feature.fill_feature.Goals as goal

pub returns-in_err-fill_until-clause-part : goal.returns-in_err-fill_until-clause-part
returns-in_err-fill_until-clause-part g c = on_err _ _ (part_longer c.args.window.now _ _ c.max.result c.args.window.now.end (omega arith) (part_one c.args.window.now _ _ c.max.result (omega arith) c.in_err-fill_until.ensures.front))

pub returns-in_err-fill_until-clause-front : goal.returns-in_err-fill_until-clause-front
returns-in_err-fill_until-clause-front g c = part_told c.from_residual.result c.args.window.now _ _ c.args.until
    (λ image told whole. part_longer c.args.window.now _ _ c.max.result _ (omega arith) (part_one c.args.window.now _ _ c.max.result (omega arith) c.in_err-fill_until.ensures.front))

pub returns-in_err-size-clause-refused : goal.returns-in_err-size-clause-refused
returns-in_err-size-clause-refused g c = let f = c.in_ok-fill_until.ensures in
    refused_exit c.from_residual-in_err-size.result c.in_err-size.field-0.0 _ c.from_residual-in_err-size.ensures.1
    (λ image told whole. let judged = c.in_err-size.ensures.judged image (omega arith) (λ many. front_bytes c.fill_until.new.self (g.S.RangeSource.seen c.args.source.now) (g.S.RangeSource.seen c.fill_until.new.source) _ c.at-at.result f.keeps.image c.bytes.ensures.value (omega arith) f.enough f.shows image told) in
    rw c.at-at.ensures.value at judged)

pub returns-in_err-size-clause-part : goal.returns-in_err-size-clause-part
returns-in_err-size-clause-part g c = let f = c.in_ok-fill_until.ensures in
    on_err _ _ (part_whole c.args.window.now c.fill_until.new.self _ _ c.args.window.now.end f.kept.0 f.kept.1 (omega (arith, f.shows.within)) (fills_one _ _ _ _ c.max.result f.kept.0 (omega arith) f.grows f.reads))

pub returns-in_err-size-clause-front : goal.returns-in_err-size-clause-front
returns-in_err-size-clause-front g c = let f = c.in_ok-fill_until.ensures in
    part_told c.from_residual-in_err-size.result c.args.window.now _ _ c.args.until
    (λ image told whole. part_whole c.args.window.now c.fill_until.new.self _ _ _ f.kept.0 f.kept.1 (omega (arith, near_bound c.args.window.now c.fill_until.new.self 4 c.max.result f.held f.not_past)) (fills_one _ _ _ _ c.max.result f.kept.0 (omega arith) f.grows f.reads))

pub returns-in_err-fill_until-2-clause-part : goal.returns-in_err-fill_until-2-clause-part
returns-in_err-fill_until-2-clause-part g c = let f = c.in_ok-fill_until.ensures in let h = c.in_err-fill_until-2.ensures in
    on_err _ _ (part_on c.args.window.now c.fill_until.new.self _ _ _ f.kept.0 f.kept.1 (fills_one _ _ _ _ c.max.result f.kept.0 (omega arith) f.grows f.reads) c.args.window.now.end (omega (arith, f.shows.within))
    (part_longer c.fill_until.new.self _ _ c.max-2.result c.args.window.now.end (omega (arith, c.in_ok-size.ensures.sized.1)) (part_one c.fill_until.new.self _ _ c.max-2.result (omega (arith, c.in_ok-size.ensures.sized.1)) h.front)))

pub returns-in_err-fill_until-2-clause-front : goal.returns-in_err-fill_until-2-clause-front
returns-in_err-fill_until-2-clause-front g c = let f = c.in_ok-fill_until.ensures in let h = c.in_err-fill_until-2.ensures in
    part_told c.from_residual-in_err-fill_until-2.result c.args.window.now _ _ c.args.until
    (λ image told whole. let judged = c.in_ok-size.ensures.judged image (omega arith) (λ many. front_bytes c.fill_until.new.self (g.S.RangeSource.seen c.args.source.now) (g.S.RangeSource.seen c.fill_until.new.source) _ c.at-at.result f.keeps.image c.bytes.ensures.value (omega arith) f.enough f.shows image told) in
    let size : c.in_ok-size.size ≡ size_at image c.args.window.now.at = (rw c.at-at.ensures.value at judged).1 in
    part_on c.args.window.now c.fill_until.new.self _ _ _ f.kept.0 f.kept.1 (fills_one _ _ _ _ c.max.result f.kept.0 (omega arith) f.grows f.reads) _ (omega (arith, near_bound c.args.window.now c.fill_until.new.self 4 c.max.result f.held f.not_past))
    (part_longer c.fill_until.new.self _ _ c.max-2.result _ (omega (arith, size)) (part_one c.fill_until.new.self _ _ c.max-2.result (omega (arith, c.in_ok-size.ensures.sized.1)) h.front)))

pub returns-clause-framed : goal.returns-clause-framed
returns-clause-framed g c = λ image told whole. let f = c.in_ok-fill_until.ensures in
    let at : c.args.window.now.at + (c.end.result - c.at-at.result) ≡ length image = omega arith in
    let judged = c.in_ok-size.ensures.judged image (omega arith) (λ many. front_bytes c.fill_until.new.self (g.S.RangeSource.seen c.args.source.now) (g.S.RangeSource.seen c.fill_until.new.source) _ c.at-at.result f.keeps.image c.bytes.ensures.value (omega arith) f.enough f.shows image told) in
    let here = rw c.at-at.ensures.value at judged in
    (here.0, ap (λ n. 4 + n) here.1)

pub returns-clause-fills : goal.returns-clause-fills
returns-clause-fills g c = let f = c.in_ok-fill_until.ensures in let h = c.in_ok-fill_until-2.ensures in
    fills_on c.args.window.now c.fill_until.new.self _ _ _ f.kept.0 f.kept.1 (fills_one _ _ _ _ c.max.result f.kept.0 (omega arith) f.grows f.reads) c.fill_until-2.new.self
    (fills_one c.fill_until.new.self _ _ _ c.max-2.result h.kept.0 (omega (arith, c.in_ok-size.ensures.sized.1)) h.grows h.reads)
