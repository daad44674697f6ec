-- What the visitor inside has done, by what one with a condition has.
use Rattle.std.proofs.Common.{◌≡◌, Some, None, sym, ap, ◌∙◌}
use Rattle.fgb_schema.specs.Headers.{Header}
use Rattle.found_features.specs.Entries.{Entry}
use Rattle.found_features.specs.Visits.{HeaderBytes, Visits, untouched, no_start, begun}
use Rattle.fgb_where.specs.declared.words.Condition.{Condition}
use Rattle.fgb_where.specs.Filtering.{Under, State, Starts, FailsStart, at_condition, at_memory, inside, Steps, FailsStep, chosen}
use Rattle.fgb_where.proofs.Choosing.{begun_part}

module _ {V : Type 0} (start : V → Header → V → Type 0) (failed_start : V → HeaderBytes → V → Type 0) (step failed_step : V → Entry → V → Type 0) (v w : State V) where
  abbrev Outside : Type 0
  Outside = Visits (Starts start) (FailsStart failed_start) (Steps step) (FailsStep failed_step) v w

  abbrev Within : Type 0
  Within = Visits start failed_start step failed_step v.inner w.inner

  start_inside : (header : HeaderBytes) → FailsStart failed_start v header w → Within
  start_inside header (at_condition none is) = untouched is.inner
  start_inside header (at_memory none is same) = untouched same
  start_inside header (inside none is fails) = no_start {header = header} fails

  pub visits_inside : Outside → Within
  visits_inside (untouched same) = untouched (ap (λ (s : State V). s.inner) same)
  visits_inside (no_start {header = header} fails) = start_inside header fails
  visits_inside (begun {header = header} begins) =
      let due = begins.on.0 in
      let here = begun_part start step failed_step v w header due (record { begun = begins.begun; starts = begins.starts; on = begins.on.1 }) in
      let under : Under = record { header = header; bounded = here.bounded } in
      begun {header = header} (record { begun = here.begins.begun; starts = here.begins.starts; on = (chosen under due, here.begins.on) })

  start_refusals : (header : HeaderBytes) → FailsStart failed_start v header w → w.refused ≡ None → w.refusals ≡ v.refusals
  start_refusals header (at_condition none is) unrefused = absurd (let e : Some is.broken ≡ None = sym is.refused ∙ unrefused in cc)
  start_refusals header (at_memory none is same) unrefused = is.stays.refusals
  start_refusals header (inside none is fails) unrefused = is.stays.refusals

  -- where the condition was never refused, no refusal was counted
  pub same_refusals : Outside → w.refused ≡ None → w.refusals ≡ v.refusals
  same_refusals (untouched same) unrefused = ap (λ (s : State V). s.refusals) same
  same_refusals (no_start {header = header} fails) unrefused = start_refusals header fails unrefused
  same_refusals (begun {header = header} begins) unrefused =
      (begun_part start step failed_step v w header begins.on.0 (record { begun = begins.begun; starts = begins.starts; on = begins.on.1 })).stays.refusals

-- it was never refused, and this is its condition and the visitor inside
pub record IsNew {V : Type 0} (v : State V) (c : Condition) (i : V) : Type 0 where
  pub condition : v.condition ≡ c
  pub refused : v.refused ≡ None
  pub refusals : v.refusals ≡ 0
  pub inner : v.inner ≡ i

pub is_new : {V : Type 0} (v : State V) (c : Condition) (i : V) → v ≡ record { condition = c; kept = None; refused = None; refusals = 0; inner = i } → IsNew v c i
is_new {V} v c i made = record {
  condition = ap (λ (s : State V). s.condition) made;
  refused = ap (λ (s : State V). s.refused) made;
  refusals = ap (λ (s : State V). s.refusals) made;
  inner = ap (λ (s : State V). s.inner) made;
}
