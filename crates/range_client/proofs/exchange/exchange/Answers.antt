use Rattle.std.proofs.Common.{ℕ, List, length, drop, ap, subst, arith}
use Rattle.std.proofs.lemmas.List.{length-take-le}
use Rattle.std.proofs.lemmas.Result.{err_from_is_err_and}
use Rattle.range_client.specs.Judged.{IsGood, IsWrong}
use Rattle.range_client.proofs.Exchanging.{broke_in_body, broke_in_head, broke_in_judging, count_fits, exchanged_at}
use Rattle.range_client.proofs.exchange.exchange.Goals as goal

pub returns-in_err-read-clause-err : goal.returns-in_err-read-clause-err
returns-in_err-read-clause-err g c =
    let p = err_from_is_err_and c.from_residual-in_err-read.result c.from_residual-in_err-read.ensures.1 in
    rw (p.1, p.2)
    (broke_in_head c.args.demand c.args.request.now (g.L.Link.shown c.args.link.now) (g.L.Link.shown c.write.new.self) c.in_ok-write.ensures
    (g.L.Link.shown c.read.new.link) c.read.new.self.head c.in_err-read.field-0.0 c.in_err-read.ensures.stopped)

pub returns-in_err-told-clause-err : goal.returns-in_err-told-clause-err
returns-in_err-told-clause-err g c =
    let p = err_from_is_err_and c.from_residual-in_err-told.result c.from_residual-in_err-told.ensures.1 in
    rw (p.1, p.2)
    (broke_in_judging c.args.demand c.args.request.now (g.L.Link.shown c.args.link.now) (g.L.Link.shown c.write.new.self) c.in_ok-write.ensures
    (g.L.Link.shown c.read.new.link) c.read.new.self c.least.result c.in_err-told.field-0.0 c.in_ok-read.ensures.begun
    (subst (λ (h : List ℕ). IsWrong c.args.demand h c.in_err-told.field-0.0) c.head.ensures c.in_err-told.ensures.wrong))

pub returns-in_err-read_body-clause-err : goal.returns-in_err-read_body-clause-err
returns-in_err-read_body-clause-err g c =
    let p = err_from_is_err_and c.from_residual-in_err-read_body.result c.from_residual-in_err-read_body.ensures.1 in
    let good = subst (λ (h : List ℕ). IsGood c.args.demand h c.in_ok-told.told) c.head.ensures c.in_ok-told.ensures.good in
    let room = count_fits c.args.demand c.read.new.self.head c.in_ok-told.told (length c.args.into.now) c.requires good in
    let part = length-take-le c.in_ok-told.told.count c.args.into.now room in
    let stop = c.in_err-read_body.ensures.stops in
    let rest = ap length c.rest.ensures in
    rw (p.1, p.2)
    (broke_in_body c.args.demand c.args.request.now (g.L.Link.shown c.args.link.now) (g.L.Link.shown c.write.new.self) c.in_ok-write.ensures
    (g.L.Link.shown c.read.new.link) (g.L.Link.shown c.read_body.new.link) c.read.new.self c.least.result c.in_ok-told.told stop.0 c.in_err-read_body.field-0.0
    c.in_ok-read.ensures.begun good (omega (arith, stop.1, rest, part)) stop.2)

pub returns-clause-ok : goal.returns-clause-ok
returns-clause-ok g c =
    let good = subst (λ (h : List ℕ). IsGood c.args.demand h c.in_ok-told.told) c.head.ensures c.in_ok-told.ensures.good in
    let room = count_fits c.args.demand c.read.new.self.head c.in_ok-told.told (length c.args.into.now) c.requires good in
    let part = length-take-le c.in_ok-told.told.count c.args.into.now room in
    let body = c.in_ok-read_body.ensures.takes in
    exchanged_at c.args.demand c.args.request.now (g.L.Link.shown c.args.link.now) (g.L.Link.shown c.write.new.self) c.in_ok-write.ensures
    (g.L.Link.shown c.read.new.link) (g.L.Link.shown c.read_body.new.link) c.read.new.self c.least.result c.in_ok-told.told c.rest.result.now body.0 c.read_body.new.into
    (drop c.in_ok-told.told.count c.args.into.now) c.in_ok-read.ensures.begun good (omega (arith, part)) c.rest.ensures body.1 body.2
