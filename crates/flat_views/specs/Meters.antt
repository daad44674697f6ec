-- What clauses see of a meter: how much of a buffer's weight may still be visited.
use Rattle.std.specs.Prelude.{◌≡◌, ℕ, ◌+◌, ◌<◌}
use Rattle.flat_layout.specs.declared.Rule.TheVariants.{Weight}
use Rattle.flat_layout.specs.declared.Broken.{Broken}
use Rattle.flat_views.specs.declared.meter.Meter.{Meter}

-- how much may still be spent
abbrev pub left_of : Meter → ℕ
left_of meter = meter.left

-- the place that a refusal names
abbrev pub meter_place : Meter → ℕ
meter_place meter = meter.place

-- the amount is taken off what was left
pub record TakesOff (amount : ℕ) (before after : Meter) : Type 0 where
  pub taken : left_of after + amount ≡ left_of before
  pub same_place : meter_place after ≡ meter_place before

-- the refusal names Weight and the meter's place, and less than the amount is left
pub record IsTooHeavy (amount : ℕ) (meter : Meter) (refusal : Broken) : Type 0 where
  pub less : left_of meter < amount
  pub at_place : refusal.place ≡ meter_place meter
  pub by_weight : refusal.rule ≡ Weight
