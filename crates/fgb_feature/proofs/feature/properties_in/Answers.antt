use Rattle.std.proofs.Common.{◌≡◌, inl, ℕ, List, ap, arith}
use Rattle.flat_layout.specs.Layout.{led_to, count}
use Rattle.flat_layout.proofs.Judging.{exit}
use Rattle.flat_views.specs.declared.vectors.VecView.{VecView}
use Rattle.flat_views.specs.Meters.{left_of}
use Rattle.flat_views.specs.Tables.{base_of, bytes_of, place_of}
use Rattle.flat_views.specs.Vectors.{IsVectorAt, vector_bytes, vector_place}
use Rattle.flat_views.proofs.Placed.{at_vector}
use Rattle.fgb_feature.proofs.FeatureFields.{refuse_vector, properties_clean, no_properties, properties_paid, refuse_properties}
use Rattle.fgb_feature.proofs.feature.properties_in.Goals as goal

-- how many bytes there are
counted : (base : ℕ) (b : List ℕ) (p : ℕ) (list : VecView) → IsVectorAt b base p 1 list → (n : ℕ) → n ≡ count (vector_bytes list) (vector_place list) → n ≡ count b p
counted base b p list at n same = at_vector base b p 1 list at (λ k s v. n ≡ count s v) same

pub returns-in_err-list-clause-goes : goal.returns-in_err-list-clause-goes
returns-in_err-list-clause-goes c =
    exit _ _ _ _ c.from_residual.ensures.1 (inl (refuse_vector (bytes_of c.args.table) (place_of c.args.table) _ _ c.in_err-list.ensures), omega arith)

pub returns-in_err-spend-in-Some-clause-goes : goal.returns-in_err-spend-in-Some-clause-goes
returns-in_err-spend-in-Some-clause-goes c =
    let b = bytes_of c.args.table in let t = place_of c.args.table in
    let there = rw c.in-Some.is at c.in_ok-list.ensures in
    exit _ _ _ _ c.from_residual-in_err-spend-in-Some.ensures.1
    (refuse_properties b t there.1 there.0.0 c.len.result (counted (base_of c.args.table) b (led_to b t 1) c.in-Some.list there.0.1 c.len.result c.len.ensures)
    (base_of c.args.table) (left_of c.spend.new.self) c.args.meter.now _ c.in_err-spend-in-Some.ensures.too_heavy (ap left_of c.in_err-spend-in-Some.ensures.unchanged))

pub returns-in_ok-spend-in-Some-clause-goes : goal.returns-in_ok-spend-in-Some-clause-goes
returns-in_ok-spend-in-Some-clause-goes c =
    let b = bytes_of c.args.table in let t = place_of c.args.table in
    let there = rw c.in-Some.is at c.in_ok-list.ensures in (
      there.0,
      properties_clean b t there.1,
      properties_paid b t there.1 there.0.0 c.len.result (counted (base_of c.args.table) b (led_to b t 1) c.in-Some.list there.0.1 c.len.result c.len.ensures)
          (left_of c.args.meter.now) (left_of c.spend.new.self) c.in_ok-spend-in-Some.ensures.ok.taken,
    )

pub returns-in-None-clause-goes : goal.returns-in-None-clause-goes
returns-in-None-clause-goes c =
    let b = bytes_of c.args.table in let t = place_of c.args.table in
    let missing = rw c.in-None.is at c.in_ok-list.ensures in
    (missing.0, properties_clean b t missing.1, no_properties b t missing.1 (left_of c.args.meter.now) missing.0)
