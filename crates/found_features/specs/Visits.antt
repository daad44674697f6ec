-- What a visitor does with the features that it is handed: by the relations of its states that its type gives, from the
-- state before a call to that after it.
use Rattle.std.specs.Prelude.{◌≡◌, ℕ, List, [], ◌∷◌, ◌++◌, Option, Some}
use Rattle.fgb_schema.specs.Headers.{Header}
use Rattle.found_features.specs.Entries.{Entry}

-- the bytes of a header, the first of which stands here
pub record HeaderBytes : Type 0 where
  pub place : ℕ
  pub bytes : List ℕ

-- it takes these entries, one after another
abbrev pub Takes : {V : Type 0} → (V → Entry → V → Type 0) → V → List Entry → V → Type 0
Takes step v [] w = v ≡ w
Takes {V} step v (e ∷ rest) w = (u : V) × step v e u × Takes step u rest w

-- it takes some of the entries that are due, in order, and is handed no more, or fails at the next
pub data TakesPart {V : Type 0} (step failed_step : V → Entry → V → Type 0) (v : V) (due : List Entry) (w : V) : Type 0 where
  some : (taken rest : List Entry) → taken ++ rest ≡ due → Takes step v taken w → TakesPart step failed_step v due w
  some_and_failed : (taken rest : List Entry) (e : Entry) (u : V) → taken ++ e ∷ rest ≡ due → Takes step v taken u → failed_step u e w
      → TakesPart step failed_step v due w

-- it begins with a header, and goes on so
pub record Begins {V : Type 0} (start : V → Header → V → Type 0) (v : V) (header : Header) (P : V → Type 0) : Type 0 where
  pub begun : V
  pub starts : start v header begun
  pub on : P begun

-- what is told of a header is this one
abbrev pub TellsOnly : Header → Option Header → Type 0
TellsOnly header told = (h : Header) → told ≡ Some h → h ≡ header

-- whatever they are, it took some entries
abbrev pub TakesSome : {V : Type 0} → (V → Entry → V → Type 0) → V → V → Type 0
TakesSome step v w = (taken : List Entry) × Takes step v taken w

-- and failed at the next or did not
abbrev pub Handed : {V : Type 0} → (V → Entry → V → Type 0) → (V → Entry → V → Type 0) → V → V → Type 0
Handed step failed_step v w = (due : List Entry) × TakesPart step failed_step v due w

-- it was left alone, failed to begin, or began with some header and was handed features
pub data Visits {V : Type 0} (start : V → Header → V → Type 0) (failed_start : V → HeaderBytes → V → Type 0) (step failed_step : V → Entry → V → Type 0) (v w : V) : Type 0 where
  untouched : w ≡ v → Visits start failed_start step failed_step v w
  no_start : {header : HeaderBytes} → failed_start v header w → Visits start failed_start step failed_step v w
  begun : {header : Header} → Begins start v header (λ u. Handed step failed_step u w) → Visits start failed_start step failed_step v w
