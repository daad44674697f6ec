-- A vector of tables and its entries: what is broken from an entry on is broken from the vector on, and the vector is
-- clean by its entries.
use Rattle.std.proofs.Common.{◌≡◌, inl, inr, ℕ, zero, suc, ◌+◌, ◌<◌, true, false, List, [], ◌∷◌, ◌++◌, map, refl, ap, sym, subst, ◌∙◌, arith}
use Rattle.std.proofs.lemmas.Bool.{cases_eq, true≢false}
use Rattle.std.proofs.lemmas.List.FromFn.{map-range_with_len_more}
use Rattle.std.specs.List.{AllByRecursion, range_with_len}
use Rattle.flat_layout.specs.declared.Rule.{Rule}
use Rattle.flat_layout.specs.declared.Rule.TheVariants.{ColumnCount}
use Rattle.flat_layout.specs.Layout.{is_vector, count, entry_place}
use Rattle.flat_layout.proofs.Judging.{clean-vector}
use Rattle.flat_layout.specs.Promises.{IsClean}
use Rattle.fgb_schema.specs.Tables.{Name, table, tables}
use Rattle.fgb_schema.specs.Paths.{Part, offset, thing, below, IsAmong, BreaksLayout, BreaksMore, Breaks, are_few}
use Rattle.fgb_schema.proofs.Along.{breaks_more, breaks_below, clean_by_parts}

-- the part of entry i of the vector of tables at v
abbrev pub entry_part : List ℕ → Name → ℕ → ℕ → Part
entry_part b name v i = offset (table name) (entry_place b v i)

-- the parts of the first entries
abbrev pub entry_parts : List ℕ → Name → ℕ → ℕ → List Part
entry_parts b name v n = map (entry_part b name v) (range_with_len 0 n)

pub among_front : {A : Type 0} (x : A) (xs ys : List A) → IsAmong x xs → IsAmong x (xs ++ ys)
among_front x [] ys among = absurd among
among_front x (z ∷ zs) ys (inl same) = inl same
among_front x (z ∷ zs) ys (inr later) = inr (among_front x zs ys later)

among_last : {A : Type 0} (x : A) (xs : List A) → IsAmong x (xs ++ x ∷ [])
among_last x [] = inl refl
among_last x (z ∷ zs) = inr (among_last x zs)

all_last : {A : Type 0} (P : A → Type 0) (xs : List A) (x : A) → AllByRecursion P xs → P x → AllByRecursion P (xs ++ x ∷ [])
all_last P [] x all own = (own, tt)
all_last P (z ∷ zs) x all own = (all.0, all_last P zs x all.1 own)

module _ (b : List ℕ) (name : Name) (v : ℕ) where
  -- one entry more
  pub entries_more : (n : ℕ) → entry_parts b name v (n + 1) ≡ entry_parts b name v n ++ entry_part b name v n ∷ []
  entries_more n = map-range_with_len_more (entry_part b name v) 0 n n (omega arith)

  among_entries : (n i : ℕ) → i < n → IsAmong (entry_part b name v i) (entry_parts b name v n)
  among_entries zero i early = absurd (omega (arith, early))
  among_entries (suc n) i early = subst (IsAmong (entry_part b name v i)) (sym (more n)) (elim (cases_eq i n) [
    | inl last ↦ rw last (among_last (entry_part b name v n) (entry_parts b name v n))
    | inr other ↦ among_front (entry_part b name v i) (entry_parts b name v n) (entry_part b name v n ∷ []) (among_entries n i (omega (arith, early, other)))
  ])
    where
      more : (n : ℕ) → entry_parts b name v (suc n) ≡ entry_parts b name v n ++ entry_part b name v n ∷ []
      more n = let e : suc n ≡ n + 1 = omega arith in ap (entry_parts b name v) e ∙ entries_more n

  pub below_tables : is_vector 4 b v ≡ true → below b (thing (tables name) v) ≡ entry_parts b name v (count b v)
  unfolding below
  below_tables sound = rw sound

  -- what is broken from an entry on
  pub from_entry : is_vector 4 b v ≡ true → (i : ℕ) → i < count b v → (q : ℕ) (r : Rule) → Breaks b (entry_part b name v i) q r → Breaks b (thing (tables name) v) q r
  from_entry sound i early q r broken =
      breaks_below b (thing (tables name) v) (entry_part b name v i) q r (rw (below_tables sound) (among_entries (count b v) i early)) broken

  -- there are too many tables
  pub from_many : is_vector 4 b v ≡ true → are_few name (count b v) ≡ false → Breaks b (thing (tables name) v) v ColumnCount
  unfolding BreaksMore
  from_many sound many = breaks_more b (thing (tables name) v) v ColumnCount (record { known = sound; other = many; place = refl; rule = refl })

  more_clean : are_few name (count b v) ≡ true → IsClean (BreaksMore b (thing (tables name) v))
  unfolding BreaksMore
  more_clean few q r broken = let e : true ≡ false = cc (broken.other, few) in true≢false e

  layout_clean : is_vector 4 b v ≡ true → IsClean (BreaksLayout b (thing (tables name) v))
  unfolding BreaksLayout
  layout_clean sound = clean-vector 4 b v sound

  -- the first n entries, and what is behind them, break nothing
  abbrev pub EntriesClean : ℕ → Type 0
  EntriesClean n = AllByRecursion (λ x. IsClean (Breaks b x)) (entry_parts b name v n)

  pub entries_clean_more : (n : ℕ) → EntriesClean n → IsClean (Breaks b (entry_part b name v n)) → EntriesClean (n + 1)
  entries_clean_more n all own = rw (entries_more n) (all_last (λ x. IsClean (Breaks b x)) (entry_parts b name v n) (entry_part b name v n) all own)

  pub tables_clean : is_vector 4 b v ≡ true → are_few name (count b v) ≡ true → EntriesClean (count b v) → IsClean (Breaks b (thing (tables name) v))
  tables_clean sound few all = clean_by_parts b (thing (tables name) v) (layout_clean sound) (more_clean few) (rw (below_tables sound) all)
