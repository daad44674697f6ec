-- What a table shows: a tree. A table is a chain of puts, the last outermost, and a vector of tables a chain of pushes.
use Rattle.std.specs.Prelude.{ℕ, ◌+◌, ◌<◌, ◌≤◌, List, ⊤}

mutual
  pub data Item : Type 0 where
    -- a number of so many bytes
    number : ℕ → ℕ → Item
    -- the bytes of a string
    string : List ℕ → Item
    -- the elements of a vector, of so many bytes each
    vector : ℕ → List ℕ → Item
    table : Fields → Item
    tables : Tables → Item

  pub data Fields : Type 0 where
    none : Fields
    -- one field more, of this id
    put : Fields → ℕ → Item → Fields

  pub data Tables : Type 0 where
    empty : Tables
    push : Tables → Fields → Tables

-- how many entries the vtable has: the highest id and one more, or 0 where there is no field
abbrev pub entry_count : Fields → ℕ
entry_count none = 0
entry_count (put before id it) = id + 1

-- each id is above every id put before it, and below 1,000
abbrev pub IsAscending : Fields → Type 0
IsAscending none = ⊤
IsAscending (put before id it) = IsAscending before × (entry_count before ≤ id) × (id < 1000)

-- how many tables a vector has
abbrev pub table_count : Tables → ℕ
table_count empty = 0
table_count (push before t) = table_count before + 1

-- how many items, fields and tables there are
abbrev mutual
  pub item_size : Item → ℕ
  item_size (number w v) = 1
  item_size (string bytes) = 1
  item_size (vector w elements) = 1
  item_size (table fs) = fields_size fs + 1
  item_size (tables ts) = tables_size ts + 1

  pub fields_size : Fields → ℕ
  fields_size none = 1
  fields_size (put before id it) = fields_size before + item_size it

  pub tables_size : Tables → ℕ
  tables_size empty = 1
  tables_size (push before t) = tables_size before + fields_size t
