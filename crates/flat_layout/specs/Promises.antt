-- Where a rule of the layout is broken, and what a call on a buffer promises. What is broken is said
-- by the thing that breaks it, with the place in the buffer and the rule last.
use Rattle.std.specs.Prelude.{◌≡◌, ◌⊎◌, ℕ, ◌+◌, true, false, List, Result, MatchResult, IsUtf8}
use Rattle.flat_layout.specs.declared.Rule.{Rule}
use Rattle.flat_layout.specs.declared.Rule.TheVariants.{Offset, Vtable, Field, Vector, Zero, Utf8}
use Rattle.flat_layout.specs.declared.Broken.{Broken}
use Rattle.flat_layout.specs.Layout.{is_offset, target, is_table, entry, is_absent, is_field, field_place, is_vector, text, is_ended}

-- the offset at p
unfoldable pub BreaksOffset : List ℕ → ℕ → ℕ → Rule → Type 0
BreaksOffset b p q r = (is_offset b p ≡ false) × (q ≡ p) × (r ≡ Offset)

-- the table at t, by itself
unfoldable pub BreaksTable : List ℕ → ℕ → ℕ → Rule → Type 0
BreaksTable b t q r = (is_table b t ≡ false) × (q ≡ t) × (r ≡ Vtable)

-- the present field f of w bytes of the table at t, at its entry in the vtable
unfoldable pub BreaksField : ℕ → List ℕ → ℕ → ℕ → ℕ → Rule → Type 0
BreaksField w b t f q r =
    (is_absent b t f ≡ false) × (is_field w b t f ≡ false) × (q ≡ entry b t f) × (r ≡ Field)

-- the vector at v, whose elements have w bytes each
unfoldable pub BreaksVector : ℕ → List ℕ → ℕ → ℕ → Rule → Type 0
BreaksVector w b v q r = (is_vector w b v ≡ false) × (q ≡ v) × (r ≡ Vector)

-- the string at p, whose bytes are in the buffer, for want of the zero byte behind them
unfoldable pub BreaksZero : List ℕ → ℕ → ℕ → Rule → Type 0
BreaksZero b p q r = (is_vector 1 b p ≡ true) × (is_ended b p ≡ false) × (q ≡ p) × (r ≡ Zero)

-- the string at p, whose bytes are in the buffer, and are no UTF-8
unfoldable pub BreaksUtf8 : List ℕ → ℕ → ℕ → Rule → Type 0
BreaksUtf8 b p q r = (is_vector 1 b p ≡ true) × (¬ IsUtf8 (text b p)) × (q ≡ p) × (r ≡ Utf8)

-- the string at p
unfoldable pub BreaksText : List ℕ → ℕ → ℕ → Rule → Type 0
BreaksText b p q r = BreaksVector 1 b p q r ⊎ (BreaksZero b p q r ⊎ BreaksUtf8 b p q r)

-- the offset at p, or what it leads to
unfoldable pub BreaksThrough : (List ℕ → ℕ → ℕ → Rule → Type 0) → List ℕ → ℕ → ℕ → Rule → Type 0
BreaksThrough Breaks b p q r =
    BreaksOffset b p q r ⊎ ((is_offset b p ≡ true) × Breaks b (target b p) q r)

-- the offset at the buffer's first byte, or the root table that it leads to
abbrev pub BreaksRoot : List ℕ → ℕ → Rule → Type 0
BreaksRoot b q r = BreaksThrough BreaksTable b 0 q r

-- the present field f of the table at t, or the offset in it, or what that leads to
unfoldable pub BreaksTo : (List ℕ → ℕ → ℕ → Rule → Type 0) → List ℕ → ℕ → ℕ → ℕ → Rule → Type 0
BreaksTo Breaks b t f q r =
    BreaksField 4 b t f q r
    ⊎ ((is_absent b t f ≡ false) × (is_field 4 b t f ≡ true) × BreaksThrough Breaks b (field_place b t f) q r)

-- the refusal names a broken rule and its place: where the buffer begins, plus the place in it
abbrev pub Names : ℕ → (ℕ → Rule → Type 0) → Broken → Type 0
Names base Breaks e = (q : ℕ) × (e.place ≡ base + q) × Breaks q e.rule

-- nothing is broken
abbrev pub IsClean : (ℕ → Rule → Type 0) → Type 0
IsClean Breaks = (q : ℕ) (r : Rule) → Breaks q r → ⊥

-- Ok exactly where nothing is broken, with what is shown, and each refusal names what is broken
abbrev pub Judges : {T : Type 0} → ℕ → (ℕ → Rule → Type 0) → (T → Type 0) → Result T Broken → Type 0
Judges base Breaks Shows result = MatchResult result (λ x. Shows x × IsClean Breaks) (Names base Breaks)
