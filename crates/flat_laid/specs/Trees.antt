-- Trees of tables that can be laid, and what reading all of one weighs.
use Rattle.std.specs.Prelude.{◌≡◌, ◌⊎◌, ⊤, ℕ, ◌+◌, ◌*◌, ◌^◌, ◌<◌, ◌≤◌, length}
use Rattle.std.specs.List.{AllByRecursion}
use Rattle.flat_builder.specs.Trees.{Item, number, string, vector, table, tables, Fields, none, put, Tables, empty, push, entry_count, table_count}

-- a number, a character of a string, an element and an id have room where they are put; ids ascend
abbrev mutual
  pub IsLayable : Item → Type 0
  IsLayable (number w v) = ((w ≡ 1) ⊎ (w ≡ 2) ⊎ (w ≡ 4) ⊎ (w ≡ 8)) × (v < 2 ^ (8 * w))
  IsLayable (string bytes) = AllByRecursion (λ x. x < 256) bytes
  IsLayable (vector w elements) = ((w ≡ 1) ⊎ (w ≡ 4) ⊎ (w ≡ 8)) × AllByRecursion (λ x. x < 2 ^ (8 * w)) elements
  IsLayable (table fs) = AreLayable fs
  IsLayable (tables ts) = EachLayable ts

  pub AreLayable : Fields → Type 0
  AreLayable none = ⊤
  AreLayable (put before id it) = AreLayable before × (entry_count before ≤ id) × (id < 1000) × IsLayable it

  pub EachLayable : Tables → Type 0
  EachLayable empty = ⊤
  EachLayable (push before fs) = EachLayable before × AreLayable fs

-- 4 for each table and for each table of a vector, and the bytes of strings and of elements
abbrev mutual
  pub item_weight : Item → ℕ
  item_weight (number w v) = 0
  item_weight (string bytes) = length bytes
  item_weight (vector w elements) = w * length elements
  item_weight (table fs) = 4 + fields_weight fs
  item_weight (tables ts) = 4 * table_count ts + tables_weight ts

  pub fields_weight : Fields → ℕ
  fields_weight none = 0
  fields_weight (put before id it) = fields_weight before + item_weight it

  pub tables_weight : Tables → ℕ
  tables_weight empty = 0
  tables_weight (push before fs) = tables_weight before + (4 + fields_weight fs)
