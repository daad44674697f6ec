-- How the tables of a vector are read on under a meter, one after another: what is broken or too heavy from one of them
-- on is so from the vector on, and so much is spent.
use Rattle.std.proofs.Common.{◌≡◌, ◌⊎◌, inl, inr, ⊎_elim, ℕ, zero, suc, ◌+◌, ◌-◌, ◌*◌, ◌<◌, ◌≤◌, true, false, List, refl, sym, subst, ◌∙◌, arith}
use Rattle.flat_layout.specs.declared.Rule.{Rule}
use Rattle.flat_layout.specs.declared.Rule.TheVariants.{ColumnCount}
use Rattle.flat_layout.specs.declared.Broken.{Broken}
use Rattle.flat_layout.specs.Layout.{is_offset, is_vector, count, target}
use Rattle.flat_layout.specs.Promises.{IsClean, Names, BreaksTable, BreaksThrough}
use Rattle.flat_layout.proofs.Judging.{names-weaker, through-clean_offset}
use Rattle.fgb_schema.specs.Tables.{Name, table, tables}
use Rattle.fgb_schema.specs.Paths.{Part, offset, thing, Breaks, BreaksLayout, are_few}
use Rattle.fgb_schema.specs.Weights.{IsHeavier, IsPaid, IsOverspent}
use Rattle.fgb_schema.proofs.Along.{breaks_layout}
use Rattle.fgb_schema.proofs.Roots.{from_offset, offset_clean}
use Rattle.fgb_schema.proofs.TablesParts.{entry_part, entry_parts, entries_more, EntriesClean, entries_clean_more, from_entry, from_many, tables_clean}
use Rattle.fgb_schema.proofs.Weighing.{WeighTogether, AreLeast, together_last, least_last, least_together, least_heavier, heavier, weigh_tables, least_tables, weigh_offset, least_offset}

-- a refusal of a reader from a part on names what is broken or Weight, and leaves a meter at most what it had
abbrev pub Refuses : ℕ → List ℕ → Part → ℕ → ℕ → ℕ → Broken → Type 0
Refuses base b x at before after e = (Names base (Breaks b x) e ⊎ IsOverspent b x before at e) × (after ≤ before)

-- an offset to a table: what a refusal of the table, or of what was read from it on, names
module _ (b : List ℕ) (name : Name) (p : ℕ) where
  pub from_through : (q : ℕ) (r : Rule) → BreaksThrough BreaksTable b p q r → Breaks b (offset (table name) p) q r
  unfolding BreaksThrough BreaksLayout
  from_through q r (inl broken) = breaks_layout b (offset (table name) p) q r broken
  from_through q r (inr broken) = from_offset b (table name) p q r broken.0 (breaks_layout b (thing (table name) (target b p)) q r broken.1)

  pub refuse_table : (base : ℕ) (e : Broken) → Names base (BreaksThrough BreaksTable b p) e → Names base (Breaks b (offset (table name) p)) e
  refuse_table base e named = names-weaker base (BreaksThrough BreaksTable b p) (Breaks b (offset (table name) p)) e from_through named

  module _ (clean : IsClean (BreaksThrough BreaksTable b p)) where
    sound : is_offset b p ≡ true
    sound = through-clean_offset BreaksTable b p clean

    pub refuse_behind : (base at before after : ℕ) (e : Broken) → Refuses base b (thing (table name) (target b p)) at before after e → Refuses base b (offset (table name) p) at before after e
    refuse_behind base at before after e refused = (
      ⊎_elim
          (λ named. inl (names-weaker base (Breaks b (thing (table name) (target b p))) (Breaks b (offset (table name) p)) e (λ q r. from_offset b (table name) p q r sound) named))
          (λ spent. inr (record {
            heavier = heavier b (offset (table name) p) (before + 1) before (least_offset b (table name) p (before + 1) sound (least_heavier b (thing (table name) (target b p)) before spent.heavier)) (omega arith);
            at_place = spent.at_place;
            by_weight = spent.by_weight;
          }))
          refused.0,
      refused.1,
    )

    pub behind_clean : IsClean (Breaks b (thing (table name) (target b p))) → IsClean (Breaks b (offset (table name) p))
    behind_clean all = offset_clean b (table name) p sound all

    pub behind_paid : (before after : ℕ) → IsPaid b (thing (table name) (target b p)) before after → IsPaid b (offset (table name) p) before after
    behind_paid before after paid = record { amount = paid.amount; weighs = weigh_offset b (table name) p paid.amount sound paid.weighs; taken = paid.taken }

-- of a vector of tables the first n were read: they break nothing, and a meter that had so much has left what the
-- entries and these tables don't weigh
pub record AreRead (b : List ℕ) (name : Name) (v before left n : ℕ) : Type 0 where
  pub clean : EntriesClean b name v n
  pub weight : ℕ
  pub together : WeighTogether b (entry_parts b name v n) weight
  pub taken : left + (4 * count b v + weight) ≡ before

module _ (b : List ℕ) (name : Name) (v : ℕ) where
  pub none_read : (before left : ℕ) → left + 4 * count b v ≡ before → AreRead b name v before left 0
  none_read before left spent = record { clean = tt; weight = 0; together = (0, λ steps enough. refl); taken = omega arith }

  pub one_read : (before left after i : ℕ) → AreRead b name v before left i → IsClean (Breaks b (entry_part b name v i)) → IsPaid b (entry_part b name v i) left after → AreRead b name v before after (i + 1)
  one_read before left after i read clean paid = record {
    clean = entries_clean_more b name v i read.clean clean;
    weight = read.weight + paid.amount;
    together = subst (λ xs. WeighTogether b xs (read.weight + paid.amount)) (sym (entries_more b name v i))
        (together_last b (entry_parts b name v i) (entry_part b name v i) read.weight paid.amount read.together paid.weighs);
    taken = omega arith;
  }

  -- what the first entries weigh at least, more of them do
  least_longer : (w n k : ℕ) → AreLeast b (entry_parts b name v n) w → AreLeast b (entry_parts b name v (n + k)) w
  least_longer w n zero least = let e : n ≡ n + 0 = omega arith in subst (λ m. AreLeast b (entry_parts b name v m) w) e least
  least_longer w n (suc k) least =
      let e : (n + k) + 1 ≡ n + suc k = omega arith in
      let z : w + 0 ≡ w = omega arith in
      subst (λ m. AreLeast b (entry_parts b name v m) w) e
      (subst (AreLeast b (entry_parts b name v (n + k + 1))) z
      (subst (λ xs. AreLeast b xs (w + 0)) (sym (entries_more b name v (n + k)))
      (least_last b (entry_parts b name v (n + k)) (entry_part b name v (n + k)) w 0 (least_longer w n k least) (0, omega arith))))

  module _ (sound : is_vector 4 b v ≡ true) where
    -- an entry weighs more than is left
    heavy_entry : (before left i : ℕ) → i < count b v → AreRead b name v before left i → IsHeavier b (entry_part b name v i) left → IsHeavier b (thing (tables name) v) before
    heavy_entry before left i early read heavy =
        let first : AreLeast b (entry_parts b name v (i + 1)) (read.weight + (left + 1)) =
        subst (λ xs. AreLeast b xs (read.weight + (left + 1))) (sym (entries_more b name v i))
        (least_last b (entry_parts b name v i) (entry_part b name v i) read.weight (left + 1)
        (least_together b (entry_parts b name v i) read.weight read.together) (least_heavier b (entry_part b name v i) left heavy)) in
        let e : (i + 1) + (count b v - (i + 1)) ≡ count b v = omega arith in
        let all : AreLeast b (entry_parts b name v (count b v)) (read.weight + (left + 1)) =
        subst (λ m. AreLeast b (entry_parts b name v m) (read.weight + (left + 1))) e (least_longer (read.weight + (left + 1)) (i + 1) (count b v - (i + 1)) first) in
        heavier b (thing (tables name) v) (4 * count b v + (read.weight + (left + 1))) before (least_tables b name v (read.weight + (left + 1)) sound all) (omega arith)

    pub refuse_entry : (base at at' before left after i : ℕ) (e : Broken) → at ≡ at' → i < count b v → AreRead b name v before left i
        → Refuses base b (entry_part b name v i) at left after e → Refuses base b (thing (tables name) v) at' before after e
    refuse_entry base at at' before left after i e same early read refused = (
      ⊎_elim
          (λ named. inl (names-weaker base (Breaks b (entry_part b name v i)) (Breaks b (thing (tables name) v)) e (from_entry b name v sound i early) named))
          (λ spent. inr (record { heavier = heavy_entry before left i early read spent.heavier; at_place = spent.at_place ∙ same; by_weight = spent.by_weight }))
          refused.0,
      let a : left + (4 * count b v + read.weight) ≡ before = read.taken in let l = refused.1 in omega arith,
    )

    pub refuse_many : (base at left : ℕ) (e : Broken) → are_few name (count b v) ≡ false → e.place ≡ base + v → e.rule ≡ ColumnCount → Refuses base b (thing (tables name) v) at left left e
    refuse_many base at left e many place rule =
        (inl (v, place, subst (Breaks b (thing (tables name) v) v) (sym rule) (from_many b name v sound many)), omega arith)

    pub all_read : (before left : ℕ) → are_few name (count b v) ≡ true → AreRead b name v before left (count b v)
        → IsClean (Breaks b (thing (tables name) v)) × IsPaid b (thing (tables name) v) before left
    all_read before left few read =
        (tables_clean b name v sound few read.clean, record { amount = 4 * count b v + read.weight; weighs = weigh_tables b name v read.weight sound read.together; taken = read.taken })
