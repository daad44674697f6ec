-- What a call on a cursor takes.
use Rattle.std.specs.Prelude.{◌≡◌, ℕ, ◌+◌, List, ◌++◌, length}
use Rattle.std.specs.List.{All, flat_map}
use Rattle.wkb_reader.specs.declared.cursor.Cursor.{Cursor}

-- the cursor has gone on over these bytes
pub record Passes (old new : Cursor) (bytes : List ℕ) : Type 0 where
  pub stood : old.rest.now ≡ bytes ++ new.rest.now
  pub moved : new.at ≡ old.at + length bytes

-- over the bytes of a thing of which the one holds; the other is what was made of it
pub record Takes {A : Type 0} (old new : Cursor) (bytes : A → List ℕ) (Is : A → Type 0) (Shows : A → Type 0) : Type 0 where
  pub taken : A
  pub is : Is taken
  pub passed : Passes old new (bytes taken)
  pub shown : Shows taken

-- over so many things, one after another
abbrev pub TakesEach : {A : Type 0} → ℕ → Cursor → Cursor → (A → List ℕ) → (A → Type 0) → (List A → Type 0) → Type 0
TakesEach count old new bytes Is Shows = Takes old new (flat_map bytes) (λ things. All Is things × (length things ≡ count)) Shows
