-- What a refusal names.
use Rattle.std.specs.Prelude.{◌≡◌, ℕ, ◌+◌, ◌<◌, ◌&&◌, nat_lt, true, false, Bool, List, length, if◌then◌else◌, ⊤}
use Rattle.flat_layout.specs.declared.Rule.{Rule}
use Rattle.flat_layout.specs.declared.Rule.TheVariants.{WkbEnd, WkbSize}
use Rattle.wkb_writer.specs.declared.error.WkbError.{WkbError}
use Rattle.wkb_writer.specs.declared.error.WkbError.TheVariants.{Memory, Refused}
use Rattle.wkb_grammar.specs.Wkb.{most_bytes}

-- what is broken, by this relation of places and rules, unless there was no memory
abbrev pub Names : (ℕ → Rule → Type 0) → WkbError → Type 0
Names Breaks Memory = ⊤
Names Breaks (Refused e) = Breaks e.place e.rule

-- the same, where places count from this one
abbrev pub Refuses : ℕ → (ℕ → Rule → Type 0) → WkbError → Type 0
Refuses start Breaks = Names (λ place r. (q : ℕ) × (place ≡ start + q) × Breaks q r)

-- the bytes end inside the first so many
pub data IsCut (width : ℕ) (b : List ℕ) : ℕ → Rule → Type 0 where
  cut_item : length b < width → IsCut width b 0 WkbEnd

-- whether the bytes ended inside an item
abbrev pub is_end_rule : Rule → Bool
is_end_rule WkbEnd = true
is_end_rule _ = false

abbrev pub is_end : WkbError → Bool
is_end Memory = false
is_end (Refused e) = is_end_rule e.rule

-- where the bytes are more than a value can have, that is why they are refused
abbrev pub stopped : WkbError → ℕ → WkbError
stopped stop size = if nat_lt most_bytes size && is_end stop then Refused (record { place = 0; rule = WkbSize }) else stop
