-- How a promise on a part becomes one on the whole: `exit` for the exit of each `?`, what is clean by
-- its parts, what is named through a field, and a whole `Judges` through an offset or a field.
use Rattle.std.proofs.Common.{◌≡◌, ℕ, ◌+◌, true, false, Bool, List, Result, Ok, Err, refl, sym, subst, inl, inr, IsErrAnd, MatchResult}
use Rattle.std.specs.Prelude.{IsUtf8}
use Rattle.std.specs.Str.{is_utf8}
use Rattle.std.proofs.lemmas.Str.{IsUtf8-from_is_utf8, is_utf8-from_IsUtf8}
use Rattle.flat_layout.specs.declared.Rule.{Rule}
use Rattle.flat_layout.specs.declared.Rule.TheVariants.{Offset, Vtable, Field, Vector, Zero, Utf8}
use Rattle.flat_layout.specs.declared.Broken.{Broken}
use Rattle.flat_layout.specs.Layout.{is_offset, target, is_table, entry, is_absent, is_field, field_place, is_vector, text, is_ended}
use Rattle.flat_layout.specs.Promises.{BreaksOffset, BreaksTable, BreaksField, BreaksVector, BreaksZero, BreaksUtf8, BreaksText, BreaksThrough, BreaksTo, Names, IsClean, Judges}

-- the exit of a `?`: the refusal is passed on
pub exit : {T E : Type 0} (P : T → Type 0) (Q : E → Type 0) (r : Result T E) (e : E) → IsErrAnd r (λ y. y ≡ e) → Q e → MatchResult r P Q
exit P Q (Ok x) e none broken = absurd none
exit P Q (Err y) e same broken = subst Q (sym same) broken

-- clean by itself
pub clean-offset : (b : List ℕ) (p : ℕ) → is_offset b p ≡ true → IsClean (BreaksOffset b p)
unfolding BreaksOffset
clean-offset b p sound q r broken = let wrong = broken.0 in cc

pub clean-table : (b : List ℕ) (t : ℕ) → is_table b t ≡ true → IsClean (BreaksTable b t)
unfolding BreaksTable
clean-table b t sound q r broken = let wrong = broken.0 in cc

pub clean-absent : (w : ℕ) (b : List ℕ) (t f : ℕ) → is_absent b t f ≡ true → IsClean (BreaksField w b t f)
unfolding BreaksField
clean-absent w b t f absent q r broken = let wrong = broken.0 in cc

pub clean-field : (w : ℕ) (b : List ℕ) (t f : ℕ) → is_field w b t f ≡ true → IsClean (BreaksField w b t f)
unfolding BreaksField
clean-field w b t f sound q r broken = let wrong = broken.1 in cc

pub clean-vector : (w : ℕ) (b : List ℕ) (v : ℕ) → is_vector w b v ≡ true → IsClean (BreaksVector w b v)
unfolding BreaksVector
clean-vector w b v sound q r broken = let wrong = broken.0 in cc

pub clean-zero : (b : List ℕ) (p : ℕ) → is_ended b p ≡ true → IsClean (BreaksZero b p)
unfolding BreaksZero
clean-zero b p ended q r broken = let wrong = broken.1 in cc

pub clean-utf8 : (b : List ℕ) (p : ℕ) → IsUtf8 (text b p) → IsClean (BreaksUtf8 b p)
unfolding BreaksUtf8
clean-utf8 b p utf8 q r broken = absurd (broken.1 utf8)

-- clean by its parts
pub clean-text : (b : List ℕ) (p : ℕ) → is_vector 1 b p ≡ true → is_ended b p ≡ true → IsUtf8 (text b p) → IsClean (BreaksText b p)
unfolding BreaksText
clean-text b p sound ended utf8 q r (inl broken) = clean-vector 1 b p sound q r broken
clean-text b p sound ended utf8 q r (inr (inl broken)) = clean-zero b p ended q r broken
clean-text b p sound ended utf8 q r (inr (inr broken)) = clean-utf8 b p utf8 q r broken

pub clean-through : (Breaks : List ℕ → ℕ → ℕ → Rule → Type 0) (b : List ℕ) (p : ℕ) → is_offset b p ≡ true → IsClean (Breaks b (target b p)) → IsClean (BreaksThrough Breaks b p)
unfolding BreaksThrough
clean-through Breaks b p sound clean q r (inl broken) = clean-offset b p sound q r broken
clean-through Breaks b p sound clean q r (inr broken) = clean q r broken.1

pub clean-to_absent : (Breaks : List ℕ → ℕ → ℕ → Rule → Type 0) (b : List ℕ) (t f : ℕ) → is_absent b t f ≡ true → IsClean (BreaksTo Breaks b t f)
unfolding BreaksTo
clean-to_absent Breaks b t f absent q r (inl broken) = clean-absent 4 b t f absent q r broken
clean-to_absent Breaks b t f absent q r (inr broken) = let wrong = broken.0 in cc

pub clean-to : (Breaks : List ℕ → ℕ → ℕ → Rule → Type 0) (b : List ℕ) (t f : ℕ) → is_field 4 b t f ≡ true → IsClean (BreaksThrough Breaks b (field_place b t f)) → IsClean (BreaksTo Breaks b t f)
unfolding BreaksTo
clean-to Breaks b t f sound clean q r (inl broken) = clean-field 4 b t f sound q r broken
clean-to Breaks b t f sound clean q r (inr broken) = clean q r broken.2

-- what is clean is sound
sound_or_not : (s : Bool) → (s ≡ false → ⊥) → s ≡ true
sound_or_not true never = refl
sound_or_not false never = absurd (never refl)

pub offset-clean : (b : List ℕ) (p : ℕ) → IsClean (BreaksOffset b p) → is_offset b p ≡ true
unfolding BreaksOffset
offset-clean b p clean = sound_or_not (is_offset b p) (λ wrong. clean p Offset (wrong, refl, refl))

pub table-clean : (b : List ℕ) (t : ℕ) → IsClean (BreaksTable b t) → is_table b t ≡ true
unfolding BreaksTable
table-clean b t clean = sound_or_not (is_table b t) (λ wrong. clean t Vtable (wrong, refl, refl))

pub field-clean : (w : ℕ) (b : List ℕ) (t f : ℕ) → is_absent b t f ≡ false → IsClean (BreaksField w b t f) → is_field w b t f ≡ true
unfolding BreaksField
field-clean w b t f present clean =
    sound_or_not (is_field w b t f) (λ wrong. clean (entry b t f) Field (present, wrong, refl, refl))

pub vector-clean : (w : ℕ) (b : List ℕ) (v : ℕ) → IsClean (BreaksVector w b v) → is_vector w b v ≡ true
unfolding BreaksVector
vector-clean w b v clean = sound_or_not (is_vector w b v) (λ wrong. clean v Vector (wrong, refl, refl))

pub text-clean_vector : (b : List ℕ) (p : ℕ) → IsClean (BreaksText b p) → is_vector 1 b p ≡ true
unfolding BreaksText
text-clean_vector b p clean = vector-clean 1 b p (λ q r broken. clean q r (inl broken))

pub text-clean_ended : (b : List ℕ) (p : ℕ) → IsClean (BreaksText b p) → is_ended b p ≡ true
unfolding BreaksText BreaksZero
text-clean_ended b p clean =
    sound_or_not (is_ended b p) (λ wrong. clean p Zero (inr (inl (text-clean_vector b p clean, wrong, refl, refl))))

no_text : (bs : List ℕ) → is_utf8 bs ≡ false → IsUtf8 bs → ⊥
no_text bs wrong utf8 = let right = is_utf8-from_IsUtf8 bs utf8 in cc

pub text-clean_utf8 : (b : List ℕ) (p : ℕ) → IsClean (BreaksText b p) → IsUtf8 (text b p)
unfolding BreaksText BreaksUtf8
text-clean_utf8 b p clean =
    IsUtf8-from_is_utf8 (text b p) (sound_or_not (is_utf8 (text b p))
    (λ wrong. clean p Utf8 (inr (inr (text-clean_vector b p clean, no_text (text b p) wrong, refl, refl)))))

pub through-clean_offset : (Breaks : List ℕ → ℕ → ℕ → Rule → Type 0) (b : List ℕ) (p : ℕ) → IsClean (BreaksThrough Breaks b p) → is_offset b p ≡ true
unfolding BreaksThrough
through-clean_offset Breaks b p clean = offset-clean b p (λ q r broken. clean q r (inl broken))

pub through-clean : (Breaks : List ℕ → ℕ → ℕ → Rule → Type 0) (b : List ℕ) (p : ℕ) → IsClean (BreaksThrough Breaks b p) → IsClean (Breaks b (target b p))
unfolding BreaksThrough
through-clean Breaks b p clean q r broken = clean q r (inr (through-clean_offset Breaks b p clean, broken))

pub to-clean_field : (Breaks : List ℕ → ℕ → ℕ → Rule → Type 0) (b : List ℕ) (t f : ℕ) → is_absent b t f ≡ false → IsClean (BreaksTo Breaks b t f) → is_field 4 b t f ≡ true
unfolding BreaksTo
to-clean_field Breaks b t f present clean = field-clean 4 b t f present (λ q r broken. clean q r (inl broken))

pub to-clean : (Breaks : List ℕ → ℕ → ℕ → Rule → Type 0) (b : List ℕ) (t f : ℕ) → is_absent b t f ≡ false → IsClean (BreaksTo Breaks b t f) → IsClean (BreaksThrough Breaks b (field_place b t f))
unfolding BreaksTo
to-clean Breaks b t f present clean q r broken =
    clean q r (inr (present, to-clean_field Breaks b t f present clean, broken))

-- named through an offset or a field
pub names-weaker : (base : ℕ) (Part Whole : ℕ → Rule → Type 0) (e : Broken) → ((q : ℕ) (r : Rule) → Part q r → Whole q r) → Names base Part e → Names base Whole e
names-weaker base Part Whole e more named = (named.0, named.1, more named.0 e.rule named.2)

pub names-through_offset : (base : ℕ) (Breaks : List ℕ → ℕ → ℕ → Rule → Type 0) (b : List ℕ) (p : ℕ) (e : Broken) → Names base (BreaksOffset b p) e → Names base (BreaksThrough Breaks b p) e
unfolding BreaksThrough
names-through_offset base Breaks b p e named = (named.0, named.1, inl named.2)

pub names-through : (base : ℕ) (Breaks : List ℕ → ℕ → ℕ → Rule → Type 0) (b : List ℕ) (p : ℕ) (e : Broken) → is_offset b p ≡ true → Names base (Breaks b (target b p)) e → Names base (BreaksThrough Breaks b p) e
unfolding BreaksThrough
names-through base Breaks b p e sound named = (named.0, named.1, inr (sound, named.2))

pub names-to_field : (base : ℕ) (Breaks : List ℕ → ℕ → ℕ → Rule → Type 0) (b : List ℕ) (t f : ℕ) (e : Broken) → Names base (BreaksField 4 b t f) e → Names base (BreaksTo Breaks b t f) e
unfolding BreaksTo
names-to_field base Breaks b t f e named = (named.0, named.1, inl named.2)

pub names-to : (base : ℕ) (Breaks : List ℕ → ℕ → ℕ → Rule → Type 0) (b : List ℕ) (t f : ℕ) (e : Broken) → is_absent b t f ≡ false → is_field 4 b t f ≡ true → Names base (BreaksThrough Breaks b (field_place b t f)) e → Names base (BreaksTo Breaks b t f) e
unfolding BreaksTo
names-to base Breaks b t f e present sound named = (named.0, named.1, inr (present, sound, named.2))

-- a refusal by a rule at a place of the buffer
pub names-offset : (base : ℕ) (b : List ℕ) (p : ℕ) → is_offset b p ≡ false → Names base (BreaksOffset b p) (record { place = base + p; rule = Offset })
unfolding BreaksOffset
names-offset base b p wrong = (p, refl, (wrong, refl, refl))

pub names-table : (base : ℕ) (b : List ℕ) (t : ℕ) → is_table b t ≡ false → Names base (BreaksTable b t) (record { place = base + t; rule = Vtable })
unfolding BreaksTable
names-table base b t wrong = (t, refl, (wrong, refl, refl))

pub names-field : (base w : ℕ) (b : List ℕ) (t f : ℕ) → is_absent b t f ≡ false → is_field w b t f ≡ false → Names base (BreaksField w b t f) (record { place = base + entry b t f; rule = Field })
unfolding BreaksField
names-field base w b t f present wrong = (entry b t f, refl, (present, wrong, refl, refl))

pub names-vector : (base w : ℕ) (b : List ℕ) (v : ℕ) → is_vector w b v ≡ false → Names base (BreaksVector w b v) (record { place = base + v; rule = Vector })
unfolding BreaksVector
names-vector base w b v wrong = (v, refl, (wrong, refl, refl))

pub names-text_vector : (base : ℕ) (b : List ℕ) (p : ℕ) → is_vector 1 b p ≡ false → Names base (BreaksText b p) (record { place = base + p; rule = Vector })
unfolding BreaksText BreaksVector
names-text_vector base b p wrong = (p, refl, inl (wrong, refl, refl))

pub names-text_zero : (base : ℕ) (b : List ℕ) (p : ℕ) → is_vector 1 b p ≡ true → is_ended b p ≡ false → Names base (BreaksText b p) (record { place = base + p; rule = Zero })
unfolding BreaksText BreaksZero
names-text_zero base b p sound wrong = (p, refl, inr (inl (sound, wrong, refl, refl)))

pub names-text_utf8 : (base : ℕ) (b : List ℕ) (p : ℕ) → is_vector 1 b p ≡ true → ¬ IsUtf8 (text b p) → Names base (BreaksText b p) (record { place = base + p; rule = Utf8 })
unfolding BreaksText BreaksUtf8
names-text_utf8 base b p sound wrong = (p, refl, inr (inr (sound, wrong, refl, refl)))

-- a whole promise through an offset or a field, and with less shown
pub judges-shows : {T : Type 0} (base : ℕ) (Breaks : ℕ → Rule → Type 0) (Shows Less : T → Type 0) (r : Result T Broken) → ((x : T) → Shows x → Less x) → Judges base Breaks Shows r → Judges base Breaks Less r
judges-shows base Breaks Shows Less (Ok x) less judged = (less x judged.0, judged.1)
judges-shows base Breaks Shows Less (Err e) less judged = judged

pub judges-through : {T : Type 0} (base : ℕ) (Breaks : List ℕ → ℕ → ℕ → Rule → Type 0) (b : List ℕ) (p : ℕ) (Shows : T → Type 0) (r : Result T Broken) → is_offset b p ≡ true → Judges base (Breaks b (target b p)) Shows r → Judges base (BreaksThrough Breaks b p) Shows r
judges-through base Breaks b p Shows (Ok x) sound judged = (judged.0, clean-through Breaks b p sound judged.1)
judges-through base Breaks b p Shows (Err e) sound judged = names-through base Breaks b p e sound judged

pub judges-to : {T : Type 0} (base : ℕ) (Breaks : List ℕ → ℕ → ℕ → Rule → Type 0) (b : List ℕ) (t f : ℕ) (Shows : T → Type 0) (r : Result T Broken) → is_absent b t f ≡ false → is_field 4 b t f ≡ true → Judges base (BreaksThrough Breaks b (field_place b t f)) Shows r → Judges base (BreaksTo Breaks b t f) Shows r
judges-to base Breaks b t f Shows (Ok x) present sound judged = (judged.0, clean-to Breaks b t f sound judged.1)
judges-to base Breaks b t f Shows (Err e) present sound judged = names-to base Breaks b t f e present sound judged
