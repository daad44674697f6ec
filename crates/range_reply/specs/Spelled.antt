-- Whether the value of a Range field spells a range is decided.
use Rattle.std.proofs.Common.{◌≡◌, refl, sym, List, ℕ, Option, Some, None}
use Rattle.range_text.specs.Ranges.{SpellsRange}
use Rattle.range_text.specs.Reading.{asked_of, range_of}
use Rattle.range_text.proofs.Forms.{no_range, range_back}
use Rattle.request_head.specs.Found.{Found}

-- what an option holds, seen as something that fits
found_of : {A B : Type 0} {Fits : B → Type 0} (view : A → B) (option : Option A) → ((a : A) → option ≡ Some a → Fits (view a))
    → (option ≡ None → (b : B) → ¬ (Fits b)) → Found Fits
found_of view None some none = record { found = None; fits = tt; nothing = none refl }
found_of view (Some a) some none = record { found = Some (view a); fits = some a refl; nothing = tt }

-- the range that it spells, if it spells one
pub range_in : (value : List ℕ) → Found (SpellsRange value)
range_in value = found_of range_of (asked_of value) (λ asked is. range_back value asked is) (λ e range spelled. no_range value range (sym e) spelled)
