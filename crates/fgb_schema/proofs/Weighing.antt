-- What a part weighs, by the parts below it; and that longer paths add and never take away.
use Rattle.std.proofs.Common.{◌≡◌, ◌∙◌, ℕ, zero, suc, ◌+◌, ◌*◌, ◌<◌, ◌≤◌, true, List, [], ◌∷◌, ◌++◌, map, refl, sym, subst, arith}
use Rattle.std.specs.List.{AllByRecursion}
use Rattle.flat_layout.specs.Layout.{is_table, is_absent, is_offset, is_vector, count, field_place, led_to, target}
use Rattle.fgb_schema.specs.Tables.{Name, Thing, Content, table, tables, string, numbers, scalar, link, fields}
use Rattle.fgb_schema.specs.Paths.{Part, offset, thing, field, below}
use Rattle.fgb_schema.specs.Weights.{own_weight, total, weight_within, Weighs, IsHeavier, is_string}
use Rattle.fgb_schema.proofs.Roots.{below_offset}
use Rattle.fgb_schema.proofs.Links.{IsLink, below_absent, below_present}
use Rattle.fgb_schema.proofs.TableParts.{field_part, below_table}
use Rattle.fgb_schema.proofs.TablesParts.{entry_parts, below_tables}

total_rises : {A : Type 0} (f g : A → ℕ) (xs : List A) → ((x : A) → f x ≤ g x) → total f xs ≤ total g xs
total_rises f g [] rises = omega arith
total_rises f g (x ∷ xs) rises = omega (arith, rises x, total_rises f g xs rises)

total-append : {A : Type 0} (f : A → ℕ) (xs : List A) (x : A) → total f (xs ++ x ∷ []) ≡ total f xs + f x
total-append f [] x = omega arith
total-append f (y ∷ ys) x = omega (arith, total-append f ys x)

module _ (b : List ℕ) where
  pub within_rises : (n m : ℕ) → n ≤ m → (x : Part) → weight_within b n x ≤ weight_within b m x
  unfolding weight_within
  within_rises zero m fewer x = omega arith
  within_rises (suc n) zero fewer x = absurd (omega (arith, fewer))
  within_rises (suc n) (suc m) fewer x = omega (arith, total_rises (weight_within b n) (weight_within b m) (below b x) (within_rises n m (omega (arith, fewer))))

  -- the paths from some parts weigh this together
  abbrev pub WeighTogether : List Part → ℕ → Type 0
  WeighTogether xs w = (enough : ℕ) × ((steps : ℕ) → enough ≤ steps → total (weight_within b steps) xs ≡ w)

  -- they weigh at least this
  abbrev pub IsLeast : Part → ℕ → Type 0
  IsLeast x w = (steps : ℕ) × (w ≤ weight_within b steps x)

  abbrev pub AreLeast : List Part → ℕ → Type 0
  AreLeast xs w = (steps : ℕ) × (w ≤ total (weight_within b steps) xs)

  pub together_none : WeighTogether [] 0
  together_none = (0, λ steps enough. refl)

  pub together_more : (x : Part) (xs : List Part) (u w : ℕ) → Weighs b x u → WeighTogether xs w → WeighTogether (x ∷ xs) (u + w)
  together_more x xs u w one rest = (one.0 + rest.0, λ steps enough. omega (arith, one.1 steps (omega (arith, enough)), rest.1 steps (omega (arith, enough))))

  pub together_last : (xs : List Part) (x : Part) (w u : ℕ) → WeighTogether xs w → Weighs b x u → WeighTogether (xs ++ x ∷ []) (w + u)
  together_last xs x w u rest one =
      (one.0 + rest.0, λ steps enough. omega (arith, total-append (weight_within b steps) xs x, one.1 steps (omega (arith, enough)), rest.1 steps (omega (arith, enough))))

  pub least_none : (xs : List Part) → AreLeast xs 0
  least_none xs = (0, omega arith)

  pub least_more : (x : Part) (xs : List Part) (u w : ℕ) → IsLeast x u → AreLeast xs w → AreLeast (x ∷ xs) (u + w)
  least_more x xs u w one rest =
      (one.0 + rest.0, omega (arith, one.1, rest.1, within_rises one.0 (one.0 + rest.0) (omega arith) x, total_rises (weight_within b rest.0) (weight_within b (one.0 + rest.0)) xs (within_rises rest.0 (one.0 + rest.0) (omega arith))))

  pub least_last : (xs : List Part) (x : Part) (w u : ℕ) → AreLeast xs w → IsLeast x u → AreLeast (xs ++ x ∷ []) (w + u)
  least_last xs x w u rest one =
      (one.0 + rest.0, omega (arith, total-append (weight_within b (one.0 + rest.0)) xs x, one.1, rest.1, within_rises one.0 (one.0 + rest.0) (omega arith) x, total_rises (weight_within b rest.0) (weight_within b (one.0 + rest.0)) xs (within_rises rest.0 (one.0 + rest.0) (omega arith))))

  pub least_of : (x : Part) (w : ℕ) → Weighs b x w → IsLeast x w
  least_of x w weighs = (weighs.0, omega (arith, weighs.1 weighs.0 (omega arith)))

  pub least_together : (xs : List Part) (w : ℕ) → WeighTogether xs w → AreLeast xs w
  least_together xs w weigh = (weigh.0, omega (arith, weigh.1 weigh.0 (omega arith)))

  pub least_heavier : (x : Part) (limit : ℕ) → IsHeavier b x limit → IsLeast x (limit + 1)
  least_heavier x limit heavier = (heavier.0, omega (arith, heavier.1))

  pub heavier : (x : Part) (w limit : ℕ) → IsLeast x w → limit < w → IsHeavier b x limit
  heavier x w limit least more = (least.0, omega (arith, least.1, more))

  -- what is weighed is not heavier
  pub not_heavier : (x : Part) (w limit : ℕ) → Weighs b x w → w ≤ limit → IsHeavier b x limit → ⊥
  not_heavier x w limit weighs within heavy =
      absurd (omega (arith, heavy.1, within, within_rises heavy.0 (heavy.0 + weighs.0) (omega arith) x, weighs.1 (heavy.0 + weighs.0) (omega arith)))

  -- a part by itself, and those below it
  weigh_below : (x : Part) (w : ℕ) → WeighTogether (below b x) w → Weighs b x (own_weight b x + w)
  unfolding weight_within
  weigh_below x w rest = (rest.0 + 1, after)
    where
      after : (steps : ℕ) → rest.0 + 1 ≤ steps → weight_within b steps x ≡ own_weight b x + w
      after zero enough = absurd (omega (arith, enough))
      after (suc steps) enough = omega (arith, rest.1 steps (omega (arith, enough)))

  least_below : (x : Part) (w : ℕ) → AreLeast (below b x) w → IsLeast x (own_weight b x + w)
  unfolding weight_within
  least_below x w rest = (suc rest.0, omega (arith, rest.1))

  weigh_from : (x : Part) (xs : List Part) (own w : ℕ) → below b x ≡ xs → own_weight b x ≡ own → WeighTogether xs w → Weighs b x (own + w)
  weigh_from x xs own w same weight rest = subst (λ o. Weighs b x (o + w)) weight (weigh_below x w (subst (λ ys. WeighTogether ys w) (sym same) rest))

  least_from : (x : Part) (xs : List Part) (own w : ℕ) → below b x ≡ xs → own_weight b x ≡ own → AreLeast xs w → IsLeast x (own + w)
  least_from x xs own w same weight rest = subst (λ o. IsLeast x (o + w)) weight (least_below x w (subst (λ ys. AreLeast ys w) (sym same) rest))

  -- a table, by its fields
  own_table : (name : Name) (t : ℕ) → is_table b t ≡ true → own_weight b (thing (table name) t) ≡ 4
  unfolding own_weight
  own_table name t sound = rw sound

  pub weigh_table : (name : Name) (t w : ℕ) → is_table b t ≡ true → WeighTogether (map (field_part t) (fields name b t)) w → Weighs b (thing (table name) t) (4 + w)
  weigh_table name t w sound rest = weigh_from (thing (table name) t) (map (field_part t) (fields name b t)) 4 w (below_table b name t sound) (own_table name t sound) rest

  pub least_table : (name : Name) (t w : ℕ) → is_table b t ≡ true → AreLeast (map (field_part t) (fields name b t)) w → IsLeast (thing (table name) t) (4 + w)
  least_table name t w sound rest = least_from (thing (table name) t) (map (field_part t) (fields name b t)) 4 w (below_table b name t sound) (own_table name t sound) rest

  -- some fields, each of which weighs what f says, weigh its sum
  pub together_each : (t : ℕ) (f : ℕ × Content → ℕ) (xs : List (ℕ × Content)) → AllByRecursion (λ x. Weighs b (field_part t x) (f x)) xs → WeighTogether (map (field_part t) xs) (total f xs)
  together_each t f [] all = together_none
  together_each t f (x ∷ xs) all = together_more (field_part t x) (map (field_part t) xs) (f x) (total f xs) all.0 (together_each t f xs all.1)

  -- a vector of tables, by its entries
  own_tables : (name : Name) (v : ℕ) → is_vector 4 b v ≡ true → own_weight b (thing (tables name) v) ≡ 4 * count b v
  unfolding own_weight
  own_tables name v sound = rw sound

  pub weigh_tables : (name : Name) (v w : ℕ) → is_vector 4 b v ≡ true → WeighTogether (entry_parts b name v (count b v)) w → Weighs b (thing (tables name) v) (4 * count b v + w)
  weigh_tables name v w sound rest = weigh_from (thing (tables name) v) (entry_parts b name v (count b v)) (4 * count b v) w (below_tables b name v sound) (own_tables name v sound) rest

  pub least_tables : (name : Name) (v w : ℕ) → is_vector 4 b v ≡ true → AreLeast (entry_parts b name v (count b v)) w → IsLeast (thing (tables name) v) (4 * count b v + w)
  least_tables name v w sound rest = least_from (thing (tables name) v) (entry_parts b name v (count b v)) (4 * count b v) w (below_tables b name v sound) (own_tables name v sound) rest

  -- and the entries, by the vector
  within_tables : (name : Name) (v steps : ℕ) → is_vector 4 b v ≡ true → weight_within b (suc steps) (thing (tables name) v) ≡ 4 * count b v + total (weight_within b steps) (entry_parts b name v (count b v))
  unfolding weight_within
  within_tables name v steps sound = rw (own_tables name v sound, below_tables b name v sound) refl

  pub entries_weigh : (name : Name) (v amount : ℕ) → is_vector 4 b v ≡ true → Weighs b (thing (tables name) v) amount
      → (w : ℕ) × (amount ≡ 4 * count b v + w) × WeighTogether (entry_parts b name v (count b v)) w
  entries_weigh name v amount sound weighs = (
    total (weight_within b weighs.0) (entry_parts b name v (count b v)),
    sym (weighs.1 (suc weighs.0) (omega arith)) ∙ within_tables name v weighs.0 sound,
    (weighs.0, λ steps enough. omega (arith, weighs.1 (suc weighs.0) (omega arith), weighs.1 (suc steps) (omega (arith, enough)), within_tables name v weighs.0 sound, within_tables name v steps sound)),
  )

  pub entries_heavier : (name : Name) (v left : ℕ) → is_vector 4 b v ≡ true → IsHeavier b (thing (tables name) v) (4 * count b v + left) → AreLeast (entry_parts b name v (count b v)) (left + 1)
  entries_heavier name v left sound heavy = (
    heavy.0,
    omega (arith, heavy.1, within_rises heavy.0 (suc heavy.0) (omega arith) (thing (tables name) v), within_tables name v heavy.0 sound),
  )

  -- an offset, by what it leads to
  own_offset : (x : Thing) (p : ℕ) → own_weight b (offset x p) ≡ 0
  unfolding own_weight
  own_offset x p = refl

  pub weigh_offset : (x : Thing) (p w : ℕ) → is_offset b p ≡ true → Weighs b (thing x (target b p)) w → Weighs b (offset x p) w
  weigh_offset x p w sound behind = subst (Weighs b (offset x p)) (omega arith) (weigh_from (offset x p) (thing x (target b p) ∷ []) 0 (w + 0) (below_offset b x p sound) (own_offset x p) (together_more (thing x (target b p)) [] w 0 behind together_none))

  pub least_offset : (x : Thing) (p w : ℕ) → is_offset b p ≡ true → IsLeast (thing x (target b p)) w → IsLeast (offset x p) w
  least_offset x p w sound behind = subst (IsLeast (offset x p)) (omega arith) (least_from (offset x p) (thing x (target b p) ∷ []) 0 (w + 0) (below_offset b x p sound) (own_offset x p) (least_more (thing x (target b p)) [] w 0 behind (least_none [])))

  -- a field, by what it leads to
  below_scalar : (width t id : ℕ) → below b (field (scalar width) t id) ≡ []
  unfolding below
  below_scalar width t id = refl

  own_field : (c : Content) (t id : ℕ) → own_weight b (field c t id) ≡ 0
  unfolding own_weight
  own_field c t id = refl

  pub weigh_scalar : (width t id : ℕ) → Weighs b (field (scalar width) t id) 0
  weigh_scalar width t id = weigh_from (field (scalar width) t id) [] 0 0 (below_scalar width t id) (own_field (scalar width) t id) together_none

  pub weigh_absent : (x : Thing) (t id : ℕ) → is_absent b t id ≡ true → Weighs b (field (link x) t id) 0
  weigh_absent x t id absent = weigh_from (field (link x) t id) [] 0 0 (below_absent b x t id absent) (own_field (link x) t id) together_none

  pub weigh_link : (x : Thing) (t id w : ℕ) → IsLink b t id → Weighs b (thing x (led_to b t id)) w → Weighs b (field (link x) t id) w
  unfolding led_to
  weigh_link x t id w led behind = subst (Weighs b (field (link x) t id)) (omega arith) (weigh_from (field (link x) t id) (offset x (field_place b t id) ∷ []) 0 (w + 0) (below_present b x t id led.present led.field) (own_field (link x) t id)
      (together_more (offset x (field_place b t id)) [] w 0 (weigh_offset x (field_place b t id) w led.offset behind) together_none))

  pub least_link : (x : Thing) (t id w : ℕ) → IsLink b t id → IsLeast (thing x (led_to b t id)) w → IsLeast (field (link x) t id) w
  unfolding led_to
  least_link x t id w led behind = subst (IsLeast (field (link x) t id)) (omega arith) (least_from (field (link x) t id) (offset x (field_place b t id) ∷ []) 0 (w + 0) (below_present b x t id led.present led.field) (own_field (link x) t id)
      (least_more (offset x (field_place b t id)) [] w 0 (least_offset x (field_place b t id) w led.offset behind) (least_none [])))

  -- a string, and a vector of numbers
  leaf_string : (p : ℕ) → below b (thing string p) ≡ []
  unfolding below
  leaf_string p = refl

  own_string : (p : ℕ) → is_string b p ≡ true → own_weight b (thing string p) ≡ count b p
  unfolding own_weight
  own_string p sound = rw sound

  pub weigh_string : (p : ℕ) → is_string b p ≡ true → Weighs b (thing string p) (count b p + 0)
  weigh_string p sound = weigh_from (thing string p) [] (count b p) 0 (leaf_string p) (own_string p sound) together_none

  leaf_numbers : (width v : ℕ) → below b (thing (numbers width) v) ≡ []
  unfolding below
  leaf_numbers width v = refl

  own_numbers : (width v : ℕ) → is_vector width b v ≡ true → own_weight b (thing (numbers width) v) ≡ width * count b v
  unfolding own_weight
  own_numbers width v sound = rw sound

  pub weigh_numbers : (width v : ℕ) → is_vector width b v ≡ true → Weighs b (thing (numbers width) v) (width * count b v + 0)
  weigh_numbers width v sound = weigh_from (thing (numbers width) v) [] (width * count b v) 0 (leaf_numbers width v) (own_numbers width v sound) together_none
