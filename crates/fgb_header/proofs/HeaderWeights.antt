-- What a header weighs: its own fields, and its columns.
use Rattle.std.proofs.Common.{◌≡◌, ◌⊎◌, inl, inr, ℕ, ◌+◌, ◌*◌, ◌≤◌, true, false, List, [], ◌∷◌, map, length, ap, sym, ◌∙◌, subst, arith}
use Rattle.std.specs.List.{AllByRecursion}
use Rattle.std.specs.Option.{option_map}
use Rattle.std.proofs.lemmas.Bool.{cases_Bool}
use Rattle.flat_layout.specs.declared.Broken.{Broken}
use Rattle.flat_layout.specs.Layout.{is_table, is_absent, led_to, place_in, text_in}
use Rattle.flat_layout.specs.Promises.{IsClean, BreaksTable, BreaksVector, BreaksTo, Names}
use Rattle.flat_layout.proofs.Judging.{names-weaker, table-clean}
use Rattle.flat_layout.proofs.Numbers.{length-longs, place_in-absent, place_in-present}
use Rattle.flat_views.specs.declared.meter.Meter.{Meter}
use Rattle.flat_views.specs.Meters.{IsTooHeavy, left_of, meter_place}
use Rattle.fgb_schema.specs.Tables.{header, crs, numbers, string, link, scalar, table, fields, Content}
use Rattle.fgb_schema.specs.Paths.{Part, field, Breaks, header_part, columns_field}
use Rattle.fgb_schema.specs.Headers.{crs_at}
use Rattle.fgb_schema.specs.Weights.{Weighs, IsHeavier, IsOverspent, IsPaid, text_weight}
use Rattle.fgb_schema.proofs.Links.{IsLink, linked, linked_own}
use Rattle.fgb_schema.proofs.FieldParts.{from_to_table, from_linked_table}
use Rattle.fgb_schema.proofs.FieldWeights.{weigh_text, weigh_vector}
use Rattle.fgb_schema.proofs.TableParts.{field_part}
use Rattle.fgb_schema.proofs.Weighing.{WeighTogether, IsLeast, AreLeast, together_none, together_more, least_more, least_of, least_together, least_heavier, least_table, heavier, weigh_absent, weigh_link, weigh_scalar, weigh_table}
use Rattle.fgb_header.specs.declared.groups.Own.{Own}
use Rattle.fgb_header.specs.Groups.{BreaksOwn, by_texts, by_envelope, by_crs, in_name, in_title, in_description, in_metadata, crs_field, envelope_in}
use Rattle.fgb_header.specs.GroupViews.{ShowsOwn, crs_part_weight, own_weight}
use Rattle.fgb_header.proofs.HeaderGroups.{◌◁◌, columns_broken, envelope-absent, envelope-present}
use Rattle.fgb_header.proofs.RecordWeights.{crs_weighs}

-- fields of the table at t with what each weighs, in front of parts that weigh w together
abbrev pub Weighed : Type 0
Weighed = List ((ℕ × Content) × ℕ)

abbrev pub parts_before : List Part → ℕ → Weighed → List Part
parts_before rest t [] = rest
parts_before rest t (f ∷ fs) = field_part t f.0 ∷ parts_before rest t fs

abbrev pub sum_before : ℕ → Weighed → ℕ
sum_before w [] = w
sum_before w (f ∷ fs) = f.1 + sum_before w fs

abbrev pub EachWeighs : List ℕ → ℕ → Weighed → Type 0
EachWeighs b t fs = AllByRecursion (λ f. Weighs b (field_part t f.0) f.1) fs

together_before : (b : List ℕ) (t : ℕ) (fs : Weighed) (rest : List Part) (w : ℕ) → EachWeighs b t fs → WeighTogether b rest w → WeighTogether b (parts_before rest t fs) (sum_before w fs)
together_before b t [] rest w all more = more
together_before b t (f ∷ fs) rest w all more = together_more b (field_part t f.0) (parts_before rest t fs) f.1 (sum_before w fs) all.0 (together_before b t fs rest w all.1 more)

least_before : (b : List ℕ) (t : ℕ) (fs : Weighed) (rest : List Part) (w : ℕ) → EachWeighs b t fs → AreLeast b rest w → AreLeast b (parts_before rest t fs) (sum_before w fs)
least_before b t [] rest w all more = more
least_before b t (f ∷ fs) rest w all more =
    least_more b (field_part t f.0) (parts_before rest t fs) f.1 (sum_before w fs) (least_of b (field_part t f.0) f.1 all.0) (least_before b t fs rest w all.1 more)

module _ (b : List ℕ) (t : ℕ) where
  -- the own fields weigh this together with the table
  abbrev pub weight_in : ℕ
  weight_in =
      4 + (text_weight (text_in b t 0) + text_weight (text_in b t 11) + text_weight (text_in b t 12) + text_weight (text_in b t 13))
      + 8 * length (envelope_in b t) + crs_part_weight (option_map (crs_at b) (place_in b t 10))

  weight_is : (own : Own) → ShowsOwn b t own → own_weight own ≡ weight_in
  weight_is own shows = rw (shows.texts.name, shows.texts.title, shows.texts.description, shows.texts.metadata, shows.envelope, shows.crs)

  weigh_envelope : IsClean (BreaksTo (BreaksVector 8) b t 1) → Weighs b (field (link (numbers 8)) t 1) (8 * length (envelope_in b t))
  weigh_envelope clean = elim (cases_Bool (is_absent b t 1)) [
    | inl absent ↦ subst (λ xs. Weighs b (field (link (numbers 8)) t 1) (8 * length xs)) (sym (envelope-absent b t absent)) (weigh_absent b (numbers 8) t 1 absent)
    | inr present ↦ subst (λ xs. Weighs b (field (link (numbers 8)) t 1) (8 * length xs)) (sym (envelope-present b t present))
        (subst (λ n. Weighs b (field (link (numbers 8)) t 1) (8 * n)) (sym (length-longs b (led_to b t 1))) (weigh_vector b 8 t 1 clean present))
  ]

  weigh_crs : IsClean (Breaks b (crs_field t)) → Weighs b (crs_field t) (crs_part_weight (option_map (crs_at b) (place_in b t 10)))
  weigh_crs clean = elim (cases_Bool (is_absent b t 10)) [
    | inl absent ↦ subst (λ o. Weighs b (crs_field t) (crs_part_weight (option_map (crs_at b) o))) (sym (place_in-absent b t 10 absent)) (weigh_absent b (table crs) t 10 absent)
    | inr present ↦ led present (linked b (table crs) BreaksTable t 10 to_clean present)
  ]
    where
      to_clean : IsClean (BreaksTo BreaksTable b t 10)
      to_clean q r broken = clean q r (from_to_table b t 10 crs q r broken)

      led : is_absent b t 10 ≡ false → IsLink b t 10 → Weighs b (crs_field t) (crs_part_weight (option_map (crs_at b) (place_in b t 10)))
      led present l = subst (λ o. Weighs b (crs_field t) (crs_part_weight (option_map (crs_at b) o))) (sym (place_in-present b t 10 present))
          (weigh_link b (table crs) t 10 _ l (crs_weighs b (led_to b t 10)
          (table-clean b (led_to b t 10) (linked_own b (table crs) BreaksTable t 10 to_clean l))
          (λ q r broken. clean q r (from_linked_table b t 10 crs l q r broken))))

  -- the fields in front of the columns, and those behind them
  abbrev pub in_front : Weighed
  in_front =
      ((0, link string), text_weight (text_in b t 0)) ∷ ((1, link (numbers 8)), 8 * length (envelope_in b t))
      ∷ ((2, scalar 1), 0) ∷ ((3, scalar 1), 0) ∷ ((4, scalar 1), 0) ∷ ((5, scalar 1), 0) ∷ ((6, scalar 1), 0) ∷ []

  abbrev pub behind : Weighed
  behind =
      ((8, scalar 8), 0) ∷ ((9, scalar 2), 0) ∷ ((10, link (table crs)), crs_part_weight (option_map (crs_at b) (place_in b t 10)))
      ∷ ((11, link string), text_weight (text_in b t 11)) ∷ ((12, link string), text_weight (text_in b t 12)) ∷ ((13, link string), text_weight (text_in b t 13)) ∷ []

  -- all of them, where the columns weigh c
  abbrev pub sum_of : ℕ → ℕ
  sum_of c = sum_before (c + sum_before 0 behind) in_front

  summed : (c : ℕ) → 4 + sum_of c ≡ weight_in + c
  summed c = omega arith

  module _ (clean : IsClean (BreaksOwn b t)) where
    front_weighs : EachWeighs b t in_front
    front_weighs =
        weigh_text b t 0 (λ q r broken. clean q r (by_texts (in_name broken)))
        ◁ weigh_envelope (λ q r broken. clean q r (by_envelope broken))
        ◁ weigh_scalar b 1 t 2 ◁ weigh_scalar b 1 t 3 ◁ weigh_scalar b 1 t 4 ◁ weigh_scalar b 1 t 5 ◁ weigh_scalar b 1 t 6 ◁ tt

    behind_weighs : EachWeighs b t behind
    behind_weighs =
        weigh_scalar b 8 t 8 ◁ weigh_scalar b 2 t 9
        ◁ weigh_crs (λ q r broken. clean q r (by_crs broken))
        ◁ weigh_text b t 11 (λ q r broken. clean q r (by_texts (in_title broken)))
        ◁ weigh_text b t 12 (λ q r broken. clean q r (by_texts (in_description broken)))
        ◁ weigh_text b t 13 (λ q r broken. clean q r (by_texts (in_metadata broken))) ◁ tt

    rest : WeighTogether b (parts_before [] t behind) (sum_before 0 behind)
    rest = together_before b t behind [] 0 behind_weighs (together_none b)

    weigh_fields : (c : ℕ) → Weighs b (columns_field t 7) c → WeighTogether b (map (field_part t) (fields header b t)) (sum_of c)
    unfolding fields
    weigh_fields c columns = together_before b t in_front (columns_field t 7 ∷ parts_before [] t behind) (c + sum_before 0 behind) front_weighs
        (together_more b (columns_field t 7) (parts_before [] t behind) c (sum_before 0 behind) columns rest)

    least_fields : (c : ℕ) → IsLeast b (columns_field t 7) c → AreLeast b (map (field_part t) (fields header b t)) (sum_of c)
    unfolding fields
    least_fields c columns = least_before b t in_front (columns_field t 7 ∷ parts_before [] t behind) (c + sum_before 0 behind) front_weighs
        (least_more b (columns_field t 7) (parts_before [] t behind) c (sum_before 0 behind) columns (least_together b (parts_before [] t behind) (sum_before 0 behind) rest))

    module _ (sound : is_table b t ≡ true) (own : Own) (shows : ShowsOwn b t own) where
      weighed : (c : ℕ) → 4 + sum_of c ≡ own_weight own + c
      weighed c = summed c ∙ ap (λ n. n + c) (sym (weight_is own shows))

      weigh_header : (c : ℕ) → Weighs b (columns_field t 7) c → Weighs b (header_part t) (own_weight own + c)
      weigh_header c columns = subst (Weighs b (header_part t)) (weighed c) (weigh_table b header t (sum_of c) sound (weigh_fields c columns))

      least_header : (c : ℕ) → IsLeast b (columns_field t 7) c → IsLeast b (header_part t) (own_weight own + c)
      least_header c columns = subst (IsLeast b (header_part t)) (weighed c) (least_table b header t (sum_of c) sound (least_fields c columns))

      -- less is left than the own fields weigh
      pub own_refused : (meter : Meter) (e : Broken) (amount : ℕ) → amount ≡ own_weight own → IsTooHeavy amount meter e → IsOverspent b (header_part t) (left_of meter) (meter_place meter) e
      own_refused meter e amount same heavy = record {
        heavier = heavier b (header_part t) (own_weight own + 0) (left_of meter) (least_header 0 (0, omega arith)) (omega (arith, same, heavy.less));
        at_place = heavy.at_place;
        by_weight = heavy.by_weight;
      }

      -- less is left behind them than the columns weigh
      columns_heavier : (before after : ℕ) → after + own_weight own ≡ before → IsHeavier b (columns_field t 7) after → IsHeavier b (header_part t) before
      columns_heavier before after taken heavy =
          heavier b (header_part t) (own_weight own + (after + 1)) before (least_header (after + 1) (least_heavier b (columns_field t 7) after heavy)) (omega (arith, taken))

      -- what is left behind both
      pub header_paid : (before between after : ℕ) → between + own_weight own ≡ before → IsPaid b (columns_field t 7) between after → IsPaid b (header_part t) before after
      header_paid before between after taken paid = record {
        amount = own_weight own + paid.amount;
        weighs = weigh_header paid.amount paid.weighs;
        taken = omega (arith, taken, paid.taken);
      }

      -- a refusal behind the own fields
      pub columns_refused : (base at' at before between after : ℕ) (e : Broken) → at' ≡ at → between + own_weight own ≡ before
          → (Names base (Breaks b (columns_field t 7)) e ⊎ IsOverspent b (columns_field t 7) between at' e) × (after ≤ between)
          → (Names base (Breaks b (header_part t)) e ⊎ IsOverspent b (header_part t) before at e) × (after ≤ before)
      columns_refused base at' at before between after e same taken (inl named, less) =
          (inl (names-weaker base (Breaks b (columns_field t 7)) (Breaks b (header_part t)) e (columns_broken b t sound) named), omega (arith, taken, less))
      columns_refused base at' at before between after e same taken (inr over, less) = (
        inr (record {
          heavier = columns_heavier before between taken over.heavier;
          at_place = over.at_place ∙ same;
          by_weight = over.by_weight;
        }),
        omega (arith, taken, less),
      )
