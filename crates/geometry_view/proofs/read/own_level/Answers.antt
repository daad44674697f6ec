use Rattle.std.proofs.Common.{⊎_elim, arith}
use Rattle.flat_layout.proofs.Judging.{exit}
use Rattle.flat_views.specs.Tables.{base_of, bytes_of, place_of}
use Rattle.geometry_view.specs.Kinds.{number_of}
use Rattle.geometry_view.proofs.ReadLists.{too_heavy, weight_same}
use Rattle.geometry_view.proofs.read.own_level.Goals as goal

pub returns-in_err-spend-clause-goes : goal.returns-in_err-spend-clause-goes
returns-in_err-spend-clause-goes c =
    exit _ _ _ _ c.from_residual-in_err-spend.ensures.1
    (too_heavy (number_of c.args.kind) (bytes_of c.args.table) (base_of c.args.table) (place_of c.args.table) c.in_ok-lists.lists c.in_ok-lists.ensures.0 c.in_ok-lists.ensures.1 c.weight.result c.args.meter.now c.spend.new.self _
    c.weight.ensures c.in_err-spend.ensures.too_heavy c.in_err-spend.ensures.unchanged)

pub returns-clause-goes : goal.returns-clause-goes
returns-clause-goes c =
    let read = c.in_ok-lists.ensures in
    let judged = c.in_ok-judge.ensures in
    let weight = weight_same (number_of c.args.kind) (bytes_of c.args.table) (base_of c.args.table) (place_of c.args.table) c.in_ok-lists.lists read.0 in
    let taken = c.in_ok-spend.ensures.ok in (
      read.0.parts,
      (λ q r broken. ⊎_elim (read.1 q r) (judged.fit.1 q r) broken),
      omega (arith, weight, taken.taken, c.weight.ensures),
    )
