-- What the visitor inside is handed: of the entries that are handed over those for which the condition holds.
use Rattle.std.proofs.Common.{◌≡◌, ℕ, Bool, true, false, List, [], ◌∷◌, ◌++◌, Some, refl, sym, ap, subst, ◌∙◌, inl, inr}
use Rattle.std.specs.Bool.{MatchBool}
use Rattle.std.proofs.lemmas.Bool.{cases_Bool}
use Rattle.std.proofs.lemmas.List.Elements.{filter-append}
use Rattle.fgb_schema.specs.Headers.{Header}
use Rattle.found_features.specs.Entries.{Entry}
use Rattle.found_features.specs.Visits.{Takes, TakesPart, some, some_and_failed, Begins}
use Rattle.fgb_where.specs.Binding.{Bounded, Binds}
use Rattle.fgb_where.specs.Filtering.{Under, State, Stays, Starts, Steps, FailsStep, passes, chosen}

-- an entry for which it holds is chosen in front of the others, another one is not
chosen_here : (under : Under) (e : Entry) (es : List Entry) → passes (Some under) e ≡ true → chosen under (e ∷ es) ≡ e ∷ chosen under es
chosen_here under e es holds = rw holds refl

chosen_past : (under : Under) (e : Entry) (es : List Entry) → passes (Some under) e ≡ false → chosen under (e ∷ es) ≡ chosen under es
chosen_past under e es fails = rw fails refl

stays_same : {V : Type 0} (a : State V) → Stays a a
stays_same a = record { condition = refl; refused = refl; refusals = refl }

stays_on : {V : Type 0} (a b c : State V) → Stays a b → Stays b c → Stays a c
stays_on a b c first second = record {
  condition = second.condition ∙ first.condition;
  refused = second.refused ∙ first.refused;
  refusals = second.refusals ∙ first.refusals;
}

-- the condition and its refusals stay, and so does what is kept
pub record StaysUnder {V : Type 0} (a b : State V) : Type 0 where
  pub stays : Stays a b
  pub kept : b.kept ≡ a.kept

module _ {V : Type 0} (step failed_step : V → Entry → V → Type 0) where
  -- after entries that were taken
  pub taken_stays : (v w : State V) (es : List Entry) → Takes (Steps step) v es w → StaysUnder v w
  taken_stays v w [] same = record { stays = subst (Stays v) same (stays_same v); kept = ap (λ (s : State V). s.kept) (sym same) }
  taken_stays v w (e ∷ es) takes =
      let u = takes.0 in let first = takes.1 in let on = taken_stays u w es takes.2 in
      record { stays = stays_on v u w first.stays on.stays; kept = on.kept ∙ first.kept }

  pub part_stays : (v w : State V) (due : List Entry) → TakesPart (Steps step) (FailsStep failed_step) v due w → StaysUnder v w
  part_stays v w due (some taken rest is takes) = taken_stays v w taken takes
  part_stays v w due (some_and_failed taken rest e u is takes fails) =
      let front = taken_stays v u taken takes in
      record { stays = stays_on v u w front.stays fails.stays; kept = fails.kept ∙ front.kept }

  module _ (under : Under) where
    -- the first of more is taken, or passed
    one_chosen : (v u : State V) (e : Entry) (es : List Entry) (end : V) → v.kept ≡ Some under → Steps step v e u
        → Takes step u.inner (chosen under es) end → Takes step v.inner (chosen under (e ∷ es)) end
    one_chosen v u e es end kept one rest = elim (cases_Bool (passes (Some under) e)) [
      | inl holds ↦
          let taken : step v.inner e u.inner =
          subst (λ (y : Bool). MatchBool y (step v.inner e u.inner) (u.inner ≡ v.inner)) (ap (λ k. passes k e) kept ∙ holds) one.inner in
          subst (λ cs. Takes step v.inner cs end) (sym (chosen_here under e es holds)) (u.inner, taken, rest)
      | inr fails ↦
          let same : u.inner ≡ v.inner =
          subst (λ (y : Bool). MatchBool y (step v.inner e u.inner) (u.inner ≡ v.inner)) (ap (λ k. passes k e) kept ∙ fails) one.inner in
          subst (λ cs. Takes step v.inner cs end) (sym (chosen_past under e es fails)) (subst (λ x. Takes step x (chosen under es) end) same rest)
    ]

    -- the visitor inside takes the chosen ones among those that are taken
    pub chosen_taken : (v w : State V) (es : List Entry) → v.kept ≡ Some under → Takes (Steps step) v es w → Takes step v.inner (chosen under es) w.inner
    chosen_taken v w [] kept same = ap (λ (s : State V). s.inner) same
    chosen_taken v w (e ∷ es) kept takes =
        let u = takes.0 in let one = takes.1 in
        one_chosen v u e es w.inner kept one (chosen_taken u w es (one.kept ∙ kept) takes.2)

    -- and a part of the chosen ones among those that are due
    pub chosen_part : (v w : State V) (due : List Entry) → v.kept ≡ Some under → TakesPart (Steps step) (FailsStep failed_step) v due w
        → TakesPart step failed_step v.inner (chosen under due) w.inner
    chosen_part v w due kept (some taken rest is takes) =
        some (chosen under taken) (chosen under rest) (sym (filter-append (passes (Some under)) taken rest) ∙ ap (chosen under) is) (chosen_taken v w taken kept takes)
    chosen_part v w due kept (some_and_failed taken rest e u is takes fails) =
        let there = taken_stays v u taken takes in
        let holds : passes (Some under) e ≡ true = ap (λ k. passes k e) (sym (there.kept ∙ kept)) ∙ fails.holds in
        let split : chosen under taken ++ e ∷ chosen under rest ≡ chosen under due =
        ap (λ cs. chosen under taken ++ cs) (sym (chosen_here under e rest holds)) ∙ sym (filter-append (passes (Some under)) taken (e ∷ rest)) ∙ ap (chosen under) is in
        some_and_failed (chosen under taken) (chosen under rest) e u.inner split (chosen_taken v u taken kept takes) fails.inner

-- it begins with a header, and what it does then is seen in the visitor inside
pub record BeginsInside {V : Type 0} (start : V → Header → V → Type 0) (a : State V) (h : Header) (b : State V) (P : Under → V → Type 0) : Type 0 where
  pub stays : Stays a b
  pub bounded : Bounded
  pub binds : Binds h a.condition bounded
  pub begins : Begins start a.inner h (P (record { header = h; bounded = bounded }))

module _ {V : Type 0} (start : V → Header → V → Type 0) (step failed_step : V → Entry → V → Type 0) (v w : State V) (h : Header) where
  -- it takes these
  pub begun_taken : (es : List Entry) → Begins (Starts start) v h (λ u. Takes (Steps step) u es w)
      → BeginsInside start v h w (λ under u. Takes step u (chosen under es) w.inner)
  begun_taken es begins =
      let u = begins.begun in let starts = begins.starts in
      let under : Under = record { header = h; bounded = starts.bounded } in
      record {
        stays = stays_on v u w starts.stays (taken_stays step failed_step u w es begins.on).stays;
        bounded = starts.bounded;
        binds = starts.binds;
        begins = record { begun = u.inner; starts = starts.inner; on = chosen_taken step failed_step under u w es starts.kept begins.on };
      }

  -- or a part of these
  pub begun_part : (due : List Entry) → Begins (Starts start) v h (λ u. TakesPart (Steps step) (FailsStep failed_step) u due w)
      → BeginsInside start v h w (λ under u. TakesPart step failed_step u (chosen under due) w.inner)
  begun_part due begins =
      let u = begins.begun in let starts = begins.starts in
      let under : Under = record { header = h; bounded = starts.bounded } in
      record {
        stays = stays_on v u w starts.stays (part_stays step failed_step u w due begins.on).stays;
        bounded = starts.bounded;
        binds = starts.binds;
        begins = record { begun = u.inner; starts = starts.inner; on = chosen_part step failed_step under u w due starts.kept begins.on };
      }
