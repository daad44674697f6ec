-- How a geometry by itself and its parts go together: what is broken, what both weigh, and what a refusal names.
use Rattle.std.proofs.Common.{◌≡◌, ◌⊎◌, inl, inr, ⊎_elim, ℕ, ◌+◌, ◌*◌, ◌<◌, ◌≤◌, true, false, List, Option, Some, None, Result, Ok, Err, sym, subst, ◌∙◌, arith}
use Rattle.std.specs.Prelude.{⊤}
use Rattle.std.proofs.lemmas.Bool.{cases_Bool, true≢false}
use Rattle.flat_layout.specs.declared.Rule.TheVariants.{Weight}
use Rattle.flat_layout.specs.declared.Broken.{Broken}
use Rattle.flat_layout.specs.Layout.{is_table, is_absent, is_vector, led_to, count}
use Rattle.flat_layout.specs.Promises.{IsClean, Names}
use Rattle.flat_layout.proofs.Judging.{names-weaker}
use Rattle.flat_views.specs.declared.vectors.TableVec.{TableVec}
use Rattle.flat_views.proofs.Placed.{at_list, sound_list}
use Rattle.flat_views.specs.TableVecs.{ShowsTables, IsTableVecAt, tables_base, tables_bytes, tables_place}
use Rattle.fgb_schema.specs.Tables.{geometry, tables as tables_thing, is_kind, has_parts, part_type}
use Rattle.fgb_schema.specs.Paths.{Part, thing, Breaks, geometry_part}
use Rattle.fgb_schema.specs.Weights.{Goes, IsPaid}
use Rattle.fgb_schema.proofs.TablesRead.{Refuses}
use Rattle.fgb_schema.proofs.Weighing.{heavier, entries_weigh, entries_heavier}
use Rattle.geometry_view.specs.Fits.{ShowsReadTables}
use Rattle.geometry_view.specs.Lists.{BreaksOwn, BreaksVectors, weight_of}
use Rattle.geometry_view.proofs.OwnLevel.{own_breaks, own_clean, parts_breaks, parts_link, own_weighs_alone, own_weighs_with, own_least, own_least_alone}

-- the list of parts at v of a geometry of this type at this depth
abbrev pub parts_at : ℕ → ℕ → ℕ → Part
parts_at k depth v = thing (tables_thing (geometry (part_type k) (depth + 1))) v

-- a list that is there is the one that the field leads to
module _ (k : ℕ) (b : List ℕ) (base t : ℕ) (parts : Option TableVec) (shows : ShowsReadTables (has_parts k) b base t 7 parts) where
  pub parts_there : (tables : TableVec) → parts ≡ Some tables → (has_parts k ≡ true) × (is_absent b t 7 ≡ false) × IsTableVecAt b base (led_to b t 7) tables
  parts_there tables is = elim (cases_Bool (has_parts k)) [
    | inl has ↦
        let list = rw has at shows in
        let there : ShowsTables b base t 7 (Some tables) = subst (ShowsTables b base t 7) is list in
        (has, there.0, there.1)
    | inr lacks ↦ let list = rw lacks at shows in let e : Some tables ≡ None = sym is ∙ list in cc
  ]

  -- and one that is not there is not read, or absent
  pub parts_missing : parts ≡ None → has_parts k ≡ true → is_absent b t 7 ≡ true
  parts_missing is has = let list = rw has at shows in subst (ShowsTables b base t 7) is list

-- a geometry of this type at this depth, and a meter that had so much before its own weight was taken off
module _ (k depth base : ℕ) (b : List ℕ) (t : ℕ) (sound : is_table b t ≡ true) (known : is_kind k ≡ true) where
  abbrev whole : Part
  whole = geometry_part k depth t

  abbrev list : Part
  list = parts_at k depth (led_to b t 7)

  -- the table by itself is refused
  pub refuse_own : (at before after : ℕ) (e : Broken)
      → (Names base (BreaksOwn k b t) e ⊎ (IsClean (BreaksVectors k b t) × (before < weight_of k b t) × (e.place ≡ at) × (e.rule ≡ Weight))) × (after ≤ before)
      → Refuses base b whole at before after e
  refuse_own at before after e refused = (
    ⊎_elim
        (λ named. inl (names-weaker base (BreaksOwn k b t) (Breaks b whole) e (own_breaks k depth b t sound known) named))
        (λ heavy. inr (record {
          heavier = heavier b whole (weight_of k b t) before (own_least_alone k depth b t sound known heavy.0) heavy.1;
          at_place = heavy.2;
          by_weight = heavy.3;
        }))
        refused.0,
    refused.1,
  )

  module _ (clean : IsClean (BreaksOwn k b t)) where
    vectors : IsClean (BreaksVectors k b t)
    vectors q r broken = clean q r (inl broken)

    -- there are no parts
    pub alone_clean : depth ≤ 16 → (has_parts k ≡ true → is_absent b t 7 ≡ true) → IsClean (Breaks b whole)
    alone_clean shallow missing = own_clean k depth b t sound known clean shallow (λ has present. let e : true ≡ false = sym (missing has) ∙ present in absurd (true≢false e))

    pub alone_paid : (before after : ℕ) → after + weight_of k b t ≡ before → (has_parts k ≡ true → is_absent b t 7 ≡ true) → IsPaid b whole before after
    alone_paid before after taken missing = record { amount = weight_of k b t; weighs = own_weighs_alone k depth b t sound known vectors missing; taken = taken }

    module _ (has : has_parts k ≡ true) (present : is_absent b t 7 ≡ false) (listed : is_vector 4 b (led_to b t 7) ≡ true) where
      list_weighs : 4 * count b (led_to b t 7) ≤ weight_of k b t
      list_weighs = rw (has, present) (omega arith)

      pub parts_clean : depth ≤ 16 → IsClean (Breaks b list) → IsClean (Breaks b whole)
      parts_clean shallow all = own_clean k depth b t sound known clean shallow (λ _ _. all)

      -- what the meter had left for the parts, with what their list weighs
      module _ (before left after : ℕ) (taken : left + weight_of k b t ≡ before) where
        pub parts_paid : IsPaid b list (4 * count b (led_to b t 7) + left) after → IsPaid b whole before after
        parts_paid paid =
            let entries = entries_weigh b (geometry (part_type k) (depth + 1)) (led_to b t 7) paid.amount listed paid.weighs in
            let amount : paid.amount ≡ 4 * count b (led_to b t 7) + entries.0 = entries.1 in
            let rest : after + paid.amount ≡ 4 * count b (led_to b t 7) + left = paid.taken in
            record {
              amount = weight_of k b t + entries.0;
              weighs = own_weighs_with k depth b t sound known vectors has present entries.0 entries.2;
              taken = omega (arith, amount, rest, taken);
            }

        pub refuse_list : (at at' : ℕ) (e : Broken) → at ≡ at' → Refuses base b list at (4 * count b (led_to b t 7) + left) after e → Refuses base b whole at' before after e
        refuse_list at at' e same refused = (
          ⊎_elim
              (λ named. inl (names-weaker base (Breaks b list) (Breaks b whole) e (parts_breaks k depth b t sound known has (parts_link k depth b t sound known vectors has present)) named))
              (λ spent. inr (record {
                heavier = heavier b whole (weight_of k b t + (left + 1)) before
                    (own_least k depth b t sound known vectors has present (left + 1) (entries_heavier b (geometry (part_type k) (depth + 1)) (led_to b t 7) left listed spent.heavier))
                    (omega (arith, taken));
                at_place = spent.at_place ∙ same;
                by_weight = spent.by_weight;
              }))
              refused.0,
          let rest : after ≤ 4 * count b (led_to b t 7) + left = refused.1 in omega (arith, rest, list_weighs, taken),
        )

-- a geometry whose table was read by itself goes as its list of parts does, if it has one
module _ (k depth base : ℕ) (b : List ℕ) (t : ℕ) (sound : is_table b t ≡ true) (known : is_kind k ≡ true) (shallow : depth ≤ 16)
    (parts : Option TableVec) (shows : ShowsReadTables (has_parts k) b base t 7 parts) (clean : IsClean (BreaksOwn k b t)) where
  pub goes_alone : (at before after : ℕ) → after + weight_of k b t ≡ before → parts ≡ None → Goes base b (geometry_part k depth t) at before after (λ (u : Unit {0}). ⊤) (Ok tt)
  goes_alone at before after taken is =
      let missing = parts_missing k b base t parts shows is in
      (tt, alone_clean k depth base b t sound known clean shallow missing, alone_paid k depth base b t sound known clean before after taken missing)

  module _ (tables : TableVec) (is : parts ≡ Some tables) (before left after : ℕ) (taken : left + weight_of k b t ≡ before) where
    there : (has_parts k ≡ true) × (is_absent b t 7 ≡ false) × IsTableVecAt b base (led_to b t 7) tables
    there = parts_there k b base t parts shows tables is

    listed : is_vector 4 b (led_to b t 7) ≡ true
    listed = at_list base b (led_to b t 7) tables there.2 (λ _ s v. is_vector 4 s v ≡ true) (sound_list tables)

    pub goes_with : (at at' : ℕ) → at ≡ at' → (r : Result (Unit {0}) Broken)
        → Goes (tables_base tables) (tables_bytes tables) (parts_at k depth (tables_place tables)) at (4 * count (tables_bytes tables) (tables_place tables) + left) after (λ _. ⊤) r
        → Goes base b (geometry_part k depth t) at' before after (λ _. ⊤) r
    goes_with at at' same (Ok u) read = (
      tt,
      parts_clean k depth base b t sound known clean there.0 there.1 listed shallow (at_list base b (led_to b t 7) tables there.2 (λ _ s v. IsClean (Breaks s (parts_at k depth v))) read.1),
      parts_paid k depth base b t sound known clean there.0 there.1 listed before left after taken
          (at_list base b (led_to b t 7) tables there.2 (λ _ s v. IsPaid s (parts_at k depth v) (4 * count s v + left) after) read.2),
    )
    goes_with at at' same (Err e) refused = refuse_list k depth base b t sound known clean there.0 there.1 listed before left after taken at at' e same
        (at_list base b (led_to b t 7) tables there.2 (λ j s v. Refuses j s (parts_at k depth v) at (4 * count s v + left) after e) refused)
