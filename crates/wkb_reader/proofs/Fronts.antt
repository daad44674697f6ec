-- What is read of all bytes, or of their front.
use Rattle.std.proofs.Common.{◌≡◌, ◌≢◌, inl, inr, ℕ, ◌≤◌, ◌&&◌, nat_lt, min, Bool, true, false, List, [], ◌++◌, length, take, drop, if◌then◌else◌, refl, sym, ap, subst, ◌∙◌, append-nil, append_assoc, arith}
use Rattle.std.proofs.lemmas.Bool.{cases_lt, false≢true, ltb-true, ltb-false}
use Rattle.std.proofs.lemmas.List.{take-append-drop, take_all, take_at, take-take, length-take}
use Rattle.flat_layout.specs.declared.Rule.{Rule}
use Rattle.flat_layout.specs.declared.Rule.TheVariants.{WkbEnd, WkbRest, WkbSize}
use Rattle.fgb_schema.specs.Shapes.{Shape}
use Rattle.owned_shape.specs.Records.{depth}
use Rattle.wkb_writer.specs.declared.error.WkbError.{WkbError}
use Rattle.wkb_writer.specs.declared.error.WkbError.TheVariants.{Memory, Refused}
use Rattle.wkb_writer.specs.declared.dialect.Dialect.{Dialect}
use Rattle.wkb_writer.specs.declared.dialect.Dialect.TheVariants.{Iso}
use Rattle.wkb_grammar.specs.Grammar.{bytes_of}
use Rattle.wkb_grammar.specs.ShapesShown.{shape_of}
use Rattle.wkb_grammar.specs.Wkb.{IsValueOf, Wkb, most_bytes}
use Rattle.wkb_grammar.proofs.Apart.{values_are_told_apart}
use Rattle.wkb_reader.specs.declared.cursor.Cursor.{Cursor}
use Rattle.wkb_reader.specs.Broken.{BreaksFront, BreaksValue, BreaksWhole, alone, goes_on, in_value, too_long}
use Rattle.wkb_reader.specs.Cursors.{Takes}
use Rattle.wkb_reader.specs.Heads.{Stands}
use Rattle.wkb_reader.specs.Refusals.{Names, Refuses, is_end_rule, stopped}
use Rattle.wkb_reader.proofs.Refuted.{no_wkb}

-- a refusal that names this place
pub names_it : (e : WkbError) (place : ℕ) (r : Rule) (B : ℕ → Rule → Type 0) → e ≡ Refused (record { place = place; rule = r }) → B place r → Names B e
names_it e place r B same broken = subst (Names B) (sym same) broken

-- places that count from the first byte
pub names_from_start : (e : WkbError) (start : ℕ) (B C : ℕ → Rule → Type 0) → start ≡ 0 → ((q : ℕ) (r : Rule) → B q r → C q r) → Refuses start B e → Names C e
names_from_start Memory start B C none turn told = tt
names_from_start (Refused broken) start B C none turn told =
    let same : told.0 ≡ broken.place = omega (arith, none, told.1) in
    subst (λ q. C q broken.rule) same (turn told.0 broken.rule told.2)

-- more follows a value
pub rest_follows : (dialect : Dialect) (g : Shape) (a b : Cursor) → Takes a b bytes_of (Stands dialect 1 alone) (λ v. g ≡ shape_of v) → a.at ≡ 0 → length a.rest.now ≤ most_bytes → b.rest.now ≢ [] → BreaksWhole dialect a.rest.now b.at WkbRest
rest_follows dialect g a b t at_start few some =
    let same : length (bytes_of t.taken) ≡ b.at = omega (arith, t.passed.moved, at_start) in
    subst (λ n. BreaksWhole dialect a.rest.now n WkbRest) same (goes_on t.taken t.is.dimension b.rest.now few t.passed.stood t.is.is t.is.speaks (omega (arith, t.is.shallow)) some)

-- nothing follows a value that is all of the bytes
pub nothing_follows : (dialect : Dialect) (g h : Shape) (a b : Cursor) → Takes a b bytes_of (Stands dialect 1 alone) (λ v. g ≡ shape_of v) → IsValueOf dialect h a.rest.now → b.rest.now ≡ []
nothing_follows dialect g h a b t w =
    (values_are_told_apart t.is.dimension w.dimension t.taken w.spelled b.rest.now [] t.is.is w.is (sym t.passed.stood ∙ w.spells ∙ sym (append-nil (bytes_of w.spelled)))).1

-- a value that is refused is none
pub none_read : (dialect : Dialect) (e : WkbError) (start : ℕ) (b behind front : List ℕ) (g : Shape) → Refuses start (BreaksValue dialect 1 alone b) e → IsValueOf dialect g front → b ≡ front ++ behind → e ≡ Memory
none_read dialect Memory start b behind front g told w same = refl
none_read dialect (Refused broken) start b behind front g told w same = absurd (no_wkb dialect b behind front told.0 broken.rule g told.2 w same)

-- the most bytes that a value can have, as they are cut
pub most_first : (b : List ℕ) (n : ℕ) → n ≡ min (length b) most_bytes → take n b ≡ take most_bytes b
most_first b n same = elim (cases_lt most_bytes (length b)) [
  | inl long ↦
      let most : n ≡ most_bytes = omega arith in
      ap (λ m. take m b) most
  | inr short ↦ take_all n b (omega arith) ∙ sym (take_all most_bytes b short)
]

-- a value in front
module _ (g : Shape) (bytes : List ℕ) (a b : Cursor) (first : a.rest.now ≡ take most_bytes bytes) (at_start : a.at ≡ 0)
    (t : Takes a b bytes_of (Stands Iso 1 alone) (λ v. g ≡ shape_of v)) where
  many : b.at ≡ length (bytes_of t.taken)
  many = omega (arith, t.passed.moved, at_start)

  begins : bytes ≡ bytes_of t.taken ++ (b.rest.now ++ drop most_bytes bytes)
  begins =
      sym (take-append-drop most_bytes bytes)
      ∙ ap (λ l. l ++ drop most_bytes bytes) (sym first ∙ t.passed.stood)
      ∙ append_assoc (bytes_of t.taken) b.rest.now (drop most_bytes bytes)

  pub front_value : Wkb g (take b.at bytes)
  front_value =
      let same : take b.at bytes ≡ bytes_of t.taken =
      ap (take b.at) begins ∙ take_at (bytes_of t.taken) (b.rest.now ++ drop most_bytes bytes) b.at (sym many) in
      record {
        spelled = t.taken;
        dimension = t.is.dimension;
        is = t.is.is;
        speaks = t.is.speaks;
        spells = same;
        shown = t.shown;
        shallow = omega (arith, t.is.shallow, ap depth t.shown);
        small = omega (arith, ap length same, many, b.small);
      }

-- no value in front
end_rule : (r : Rule) → is_end_rule r ≡ true → r ≡ WkbEnd
end_rule WkbEnd same = refl
end_rule r same = absurd (false≢true same)

front_named : (b : List ℕ) (q : ℕ) (r : Rule) (place : ℕ) → place ≡ q → BreaksValue Iso 1 alone (take most_bytes b) q r → (long ends : Bool) → nat_lt most_bytes (length b) ≡ long → is_end_rule r ≡ ends
    → Names (BreaksFront b) (if long && ends then Refused (record { place = 0; rule = WkbSize }) else Refused (record { place = place; rule = r }))
front_named b q r place same broken true true long ends =
    too_long (ltb-true most_bytes (length b) long) (subst (λ s. BreaksValue Iso 1 alone (take most_bytes b) q s) (end_rule r ends) broken)
front_named b q r place same broken true false long ends =
    subst (λ p. BreaksFront b p r) (sym same) (in_value (λ rule. absurd (cc (ends, rule))) broken)
front_named b q r place same broken false ends long ended =
    subst (λ p. BreaksFront b p r) (sym same) (in_value (λ rule. ltb-false most_bytes (length b) long) broken)

memory_kept : (long : Bool) → (if long && false then Refused (record { place = 0; rule = WkbSize }) else Memory) ≡ Memory
memory_kept true = refl
memory_kept false = refl

pub front_refused : (e : WkbError) (start : ℕ) (b front : List ℕ) → start ≡ 0 → front ≡ take most_bytes b → Refuses start (BreaksValue Iso 1 alone front) e → Names (BreaksFront b) (stopped e (length b))
front_refused Memory start b front none first told = subst (Names (BreaksFront b)) (sym (memory_kept (nat_lt most_bytes (length b)))) tt
front_refused (Refused broken) start b front none first told =
    front_named b told.0 broken.rule broken.place (omega (arith, none, told.1)) (subst (λ f. BreaksValue Iso 1 alone f told.0 broken.rule) first told.2)
    (nat_lt most_bytes (length b)) (is_end_rule broken.rule) refl refl

pub front_memory : (e : WkbError) (b front : List ℕ) (n : ℕ) (g : Shape) → front ≡ take most_bytes b → n ≤ length b → Wkb g (take n b) → Refuses 0 (BreaksValue Iso 1 alone front) e
    → stopped e (length b) ≡ Memory
front_memory e b front n g first inside w told =
    let low : n ≤ most_bytes = omega (arith, w.small, length-take n b, inside) in
    let begins : front ≡ take n b ++ drop n front = sym (take-append-drop n front) ∙ ap (λ l. l ++ drop n front) (ap (take n) first ∙ take-take n most_bytes b low) in
    ap (λ w. stopped w (length b)) (none_read Iso e 0 front (drop n front) (take n b) g told w begins) ∙ memory_kept (nat_lt most_bytes (length b))
