-- What clauses see of a table.
use Rattle.std.specs.Prelude.{◌≡◌, ℕ, List, true, false, Option, MatchOption}
use Rattle.flat_layout.specs.Layout.{is_absent, led_to}
use Rattle.flat_views.specs.Buffers.{buf_bytes, buf_base}
use Rattle.flat_views.specs.declared.tables.Table.{Table}

-- the bytes of its buffer
abbrev pub bytes_of : Table → List ℕ
bytes_of table = buf_bytes table.buf

-- where the buffer begins in the file
abbrev pub base_of : Table → ℕ
base_of table = buf_base table.buf

-- the place of the table in the buffer
abbrev pub place_of : Table → ℕ
place_of table = table.place

-- the table at this place of these bytes
pub record IsTableAt (bytes : List ℕ) (base place : ℕ) (table : Table) : Type 0 where
  pub same_bytes : bytes_of table ≡ bytes
  pub same_base : base_of table ≡ base
  pub same_place : place_of table ≡ place

-- field f of the table at t is absent, or the table that it leads to
abbrev pub ShowsTable : List ℕ → ℕ → ℕ → ℕ → Option Table → Type 0
ShowsTable bytes base t f o =
    MatchOption o (is_absent bytes t f ≡ true)
    (λ table. (is_absent bytes t f ≡ false) × IsTableAt bytes base (led_to bytes t f) table)
