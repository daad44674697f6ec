-- A buffer reads as a tree of tables from a place on: what a reader finds there, in the words of the layout.
use Rattle.std.specs.Prelude.{◌≡◌, ⊤, ℕ, ◌+◌, ◌*◌, ◌==◌, ◌||◌, Bool, true, false, List, length, map}
use Rattle.std.specs.List.{range_with_len}
use Rattle.flat_layout.specs.Layout.{number_at, target, is_offset, is_table, is_absent, is_field, field_place, led_to, count, is_vector, elements as bytes_in, text, is_ended, entry_place}
use Rattle.flat_builder.specs.Trees.{Item, number, string, vector, table, tables, Fields, none, put, Tables, empty, push, table_count}
use Rattle.flat_builder.specs.Laying.{width_of}

-- the string at p
pub record IsText (b bytes : List ℕ) (p : ℕ) : Type 0 where
  pub inside : is_vector 1 b p ≡ true
  pub counted : count b p ≡ length bytes
  pub ended : is_ended b p ≡ true
  pub same : text b p ≡ bytes

-- the vector at v, whose elements have w bytes each
pub record IsVector (b : List ℕ) (w : ℕ) (elements : List ℕ) (v : ℕ) : Type 0 where
  pub inside : is_vector w b v ≡ true
  pub counted : count b v ≡ length elements
  pub same : map (λ i. number_at w b (v + 4 + w * i)) (range_with_len 0 (length elements)) ≡ elements
  pub bytes : w ≡ 1 → bytes_in 1 b v ≡ elements

-- where the item in field id of the table at t lies: a number in the field, and the rest where its offset leads
abbrev pub lies_at : List ℕ → Item → ℕ → ℕ → ℕ
lies_at b (number w v) t id = field_place b t id
lies_at b _ t id = led_to b t id

-- an offset stands in the field of each item but a number
abbrev pub IsLed : List ℕ → Item → ℕ → ℕ → Type 0
IsLed b (number w v) t id = ⊤
IsLed b _ t id = is_offset b (field_place b t id) ≡ true

-- the table at t has a field with this id and the item's width, that leads to the item, and there the item lies
pub record HasField (b : List ℕ) (it : Item) (t id : ℕ) (lies : Type 0) : Type 0 where
  pub present : is_absent b t id ≡ false
  pub fits : is_field (width_of it) b t id ≡ true
  pub led : IsLed b it t id
  pub item : lies

-- a table has a field with this id
abbrev pub has_field : Fields → ℕ → Bool
has_field none id = false
has_field (put before other it) id = (other == id) || has_field before id

-- a table stands at t, it has its fields, and every other id is absent
pub record IsTable (b : List ℕ) (fs : Fields) (t : ℕ) (has : Type 0) : Type 0 where
  pub inside : is_table b t ≡ true
  pub fields : has
  pub others : (id : ℕ) → has_field fs id ≡ false → is_absent b t id ≡ true

abbrev mutual
  -- the item lies at place p
  pub Lies : List ℕ → Item → ℕ → Type 0
  Lies b (number w v) p = number_at w b p ≡ v
  Lies b (string bytes) p = IsText b bytes p
  Lies b (vector w elements) p = IsVector b w elements p
  Lies b (table fs) p = IsTable b fs p (HasFields b fs p)
  Lies b (tables ts) p = (is_vector 4 b p ≡ true) × (count b p ≡ table_count ts) × HasTables b ts p

  -- the table at t has these fields
  pub HasFields : List ℕ → Fields → ℕ → Type 0
  HasFields b none t = ⊤
  HasFields b (put before id it) t = HasFields b before t × HasField b it t id (Lies b it (lies_at b it t id))

  -- the vector at v has these tables
  pub HasTables : List ℕ → Tables → ℕ → Type 0
  HasTables b empty v = ⊤
  HasTables b (push before fs) v =
      let entry = entry_place b v (table_count before) in
      HasTables b before v × (is_offset b entry ≡ true) × IsTable b fs (target b entry) (HasFields b fs (target b entry))
