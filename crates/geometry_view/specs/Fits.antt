-- What a vector of a geometry breaks beside the points, and what is said of one that may be absent.
use Rattle.std.specs.Prelude.{◌≡◌, ◌≢◌, ℕ, ◌-◌, ◌<◌, Bool, true, List, slice_index, Option, Some, None, Result, MatchBool, MatchOption, IsOk}
use Rattle.flat_layout.specs.declared.Rule.{Rule}
use Rattle.flat_layout.specs.declared.Rule.TheVariants.{Ends, Ordinates}
use Rattle.flat_layout.specs.declared.Broken.{Broken}
use Rattle.flat_layout.specs.Layout.{words, count}
use Rattle.flat_layout.specs.Promises.{BreaksVector, BreaksTo, Judges}
use Rattle.flat_views.specs.declared.vectors.VecView.{VecView}
use Rattle.flat_views.specs.declared.vectors.TableVec.{TableVec}
use Rattle.flat_views.specs.TableVecs.{ShowsTables, tables_bytes, tables_place}
use Rattle.flat_views.specs.Vectors.{ShowsVector, vector_bytes, vector_base, vector_place}
use Rattle.fgb_schema.specs.Paths.{BreaksCoordinate, Descends}

-- how many elements there are, none where there is no vector
abbrev pub counted : Option VecView → ℕ
counted None = 0
counted (Some vector) = count (vector_bytes vector) (vector_place vector)

abbrev pub tables_counted : Option TableVec → ℕ
tables_counted None = 0
tables_counted (Some tables) = count (tables_bytes tables) (tables_place tables)

-- a field that is read: the vector that it leads to, the offset in it, or itself
abbrev pub BreaksRead : Bool → ℕ → List ℕ → ℕ → ℕ → ℕ → Rule → Type 0
BreaksRead is_read width b t f q r = (is_read ≡ true) × BreaksTo (BreaksVector width) b t f q r

-- the vector that such a field leads to, none where it is not read or absent
abbrev pub ShowsRead : Bool → ℕ → List ℕ → ℕ → ℕ → ℕ → Option VecView → Type 0
ShowsRead is_read width b base t f vector = MatchBool is_read (ShowsVector width b base t f vector) (vector ≡ None)

abbrev pub ShowsReadTables : Bool → List ℕ → ℕ → ℕ → ℕ → Option TableVec → Type 0
ShowsReadTables is_read b base t f tables = MatchBool is_read (ShowsTables b base t f tables) (tables ≡ None)

-- some number of the vector at v is not finite
abbrev pub BreaksFinite : List ℕ → ℕ → ℕ → Rule → Type 0
BreaksFinite b v q r = (i : ℕ) × (i < count b v) × BreaksCoordinate b v i q r

-- the ends at v descend, or the last is not this number of points
pub data BreaksRings (points : ℕ) (b : List ℕ) (v : ℕ) : ℕ → Rule → Type 0 where
  falls : Descends (words b v) → BreaksRings points b v v Ends
  ends_wrong : 0 < count b v → slice_index (words b v) (count b v - 1) ≢ points → BreaksRings points b v v Ends

-- the ordinates at v are some, and not as many as the points
pub record BreaksCount (points : ℕ) (b : List ℕ) (v q : ℕ) (r : Rule) : Type 0 where
  pub some : 0 < count b v
  pub other : count b v ≢ points
  pub place : q ≡ v
  pub rule : r ≡ Ordinates

-- the vector is absent, or is judged by what it breaks
abbrev pub JudgesSome : (List ℕ → ℕ → ℕ → Rule → Type 0) → (List ℕ → ℕ → Type 0) → Option VecView → Result (Unit {0}) Broken → Type 0
JudgesSome Breaks Shows vector result =
    MatchOption vector (IsOk result)
    (λ v. Judges (vector_base v) (Breaks (vector_bytes v) (vector_place v)) (λ _. Shows (vector_bytes v) (vector_place v)) result)
