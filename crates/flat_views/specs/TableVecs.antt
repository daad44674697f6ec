-- What clauses see of a vector of tables.
use Rattle.std.specs.Prelude.{◌≡◌, ℕ, List, true, false, Option, MatchOption}
use Rattle.flat_layout.specs.Layout.{is_absent, led_to}
use Rattle.flat_views.specs.Vectors.{vector_bytes, vector_base, vector_place}
use Rattle.flat_views.specs.declared.vectors.TableVec.{TableVec}

-- the bytes of its buffer
abbrev pub tables_bytes : TableVec → List ℕ
tables_bytes tables = vector_bytes tables.entries

-- where the buffer begins in the file
abbrev pub tables_base : TableVec → ℕ
tables_base tables = vector_base tables.entries

-- the place of the vector in the buffer
abbrev pub tables_place : TableVec → ℕ
tables_place tables = vector_place tables.entries

-- the vector of tables at this place of these bytes
pub record IsTableVecAt (bytes : List ℕ) (base place : ℕ) (tables : TableVec) : Type 0 where
  pub same_bytes : tables_bytes tables ≡ bytes
  pub same_base : tables_base tables ≡ base
  pub same_place : tables_place tables ≡ place

-- field f of the table at t is absent, or the vector of tables that it leads to
abbrev pub ShowsTables : List ℕ → ℕ → ℕ → ℕ → Option TableVec → Type 0
ShowsTables bytes base t f o =
    MatchOption o (is_absent bytes t f ≡ true)
    (λ tables. (is_absent bytes t f ≡ false) × IsTableVecAt bytes base (led_to bytes t f) tables)
