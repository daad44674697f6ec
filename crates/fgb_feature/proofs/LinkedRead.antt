-- A field that leads to a thing, from which was read on under a meter: what is broken or too heavy from the thing on is
-- so from the field on, and so much is spent.
use Rattle.std.proofs.Common.{◌≡◌, inl, inr, ⊎_elim, ℕ, ◌+◌, true, List, arith}
use Rattle.flat_layout.specs.declared.Rule.{Rule}
use Rattle.flat_layout.specs.declared.Broken.{Broken}
use Rattle.flat_layout.specs.Layout.{is_absent, led_to}
use Rattle.flat_layout.proofs.Judging.{names-weaker}
use Rattle.fgb_schema.specs.Tables.{Thing, link}
use Rattle.fgb_schema.specs.Paths.{Part, field, thing, Breaks}
use Rattle.fgb_schema.specs.Weights.{IsPaid}
use Rattle.fgb_schema.proofs.Links.{IsLink, from_linked}
use Rattle.fgb_schema.proofs.TablesRead.{Refuses}
use Rattle.fgb_schema.proofs.Weighing.{least_heavier, heavier, weigh_absent, weigh_link, least_link}

module _ (b : List ℕ) (x : Thing) (t id : ℕ) where
  abbrev at_field : Part
  at_field = field (link x) t id

  abbrev behind : Part
  behind = thing x (led_to b t id)

  pub absent_paid : (left : ℕ) → is_absent b t id ≡ true → IsPaid b at_field left left
  absent_paid left absent = record { amount = 0; weighs = weigh_absent b x t id absent; taken = omega arith }

  module _ (l : IsLink b t id) where
    pub linked_paid : (before after : ℕ) → IsPaid b behind before after → IsPaid b at_field before after
    linked_paid before after paid = record { amount = paid.amount; weighs = weigh_link b x t id paid.amount l paid.weighs; taken = paid.taken }

    -- Own: what the thing breaks by itself
    pub refuse_linked : (Own : List ℕ → ℕ → ℕ → Rule → Type 0) (base at before after : ℕ) (e : Broken) → Refuses base b behind at before after e → Refuses base b at_field at before after e
    refuse_linked Own base at before after e refused = (
      ⊎_elim
          (λ named. inl (names-weaker base (Breaks b behind) (Breaks b at_field) e (from_linked b x Own t id l) named))
          (λ over. inr (record {
            heavier = heavier b at_field (before + 1) before (least_link b x t id (before + 1) l (least_heavier b behind before over.heavier)) (omega arith);
            at_place = over.at_place;
            by_weight = over.by_weight;
          }))
          refused.0,
      refused.1,
    )
