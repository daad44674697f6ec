-- What is read of a file, value by value, and of a source.
use Rattle.std.proofs.Common.{◌≡◌, ℕ, ◌+◌, ◌-◌, ◌<◌, ◌≤◌, List, [], ◌∷◌, ◌++◌, length, take, drop, Result, Ok, Err, refl, sym, ap, subst, ◌∙◌, arith, length-append}
use Rattle.std.specs.Prelude.{slice_range, IfOk, IfErr}
use Rattle.std.proofs.Math.Seq.{take-add}
use Rattle.std.proofs.lemmas.List.{length-drop, length-take, take-append-drop, take_all, take_at}
use Rattle.flat_layout.specs.declared.Broken.{Broken}
use Rattle.fgb_outside.specs.Source.{HasSize, IfTold, Keeps, Source}
use Rattle.section_window.specs.Window.{Held, Shows, ahead}
use Rattle.fgb_schema.specs.Shapes.{Shape}
use Rattle.read_stop.specs.Stops.{IfRefused}
use Rattle.read_stop.specs.declared.stop.ReadStop.{ReadStop}
use Rattle.wkb_grammar.specs.Wkb.{Wkb, most_bytes}
use Rattle.wkb_writer.specs.declared.error.WkbError.{WkbError}
use Rattle.wkb_writer.specs.declared.error.WkbError.TheVariants.{Memory, Refused}
use Rattle.wkb_reader.specs.Broken.{BreaksFront}
use Rattle.wkb_reader.specs.Refusals.{Names, Refuses}
use Rattle.wkb_file.specs.Broken.{BreaksWkbFile, in_value}
use Rattle.wkb_file.specs.Reads.{IsFault, IsRead}
use Rattle.wkb_file.specs.Values.{IsWkbFile, ValuesOf}
use Rattle.wkb_file.proofs.Following.{follows, one_more, some_bytes}
use Rattle.wkb_file.proofs.Places.{front_place}

-- a value in front has some bytes
pub some_read : (g : Shape) (n : ℕ) (bytes : List ℕ) → n ≤ length bytes → Wkb g (take n bytes) → 0 < n
some_read g n bytes inside w = omega (arith, some_bytes g (take n bytes) w, length-take n bytes)

-- the place of a refusal, counted from the front of a file, fits
pub near : (at : ℕ) (bytes : List ℕ) (e : WkbError) (broken : Broken) → at + length bytes ≤ 268435456 → e ≡ Refused broken → Names (BreaksFront bytes) e → at + broken.place ≤ 268435456
near at bytes e broken small same told =
    let breaks = subst (Names (BreaksFront bytes)) same told in
    omega (arith, small, front_place bytes broken.place broken.rule breaks)

module _ (bytes : List ℕ) (at : ℕ) (shapes : List Shape) (within : at ≤ length bytes) (values : ValuesOf shapes (take at bytes)) where
  whole : bytes ≡ take at bytes ++ drop at bytes
  whole = sym (take-append-drop at bytes)

  -- as `&bytes[at..]` is told
  pub sliced : take (length bytes - at) (drop at bytes) ≡ drop at bytes
  sliced = take_all (length bytes - at) (drop at bytes) (omega (arith, length-drop at bytes))

  front_long : length (take at bytes) ≡ at
  front_long = omega (arith, length-take at bytes, within)

  -- one value more was read
  pub step : (g : Shape) (n : ℕ) → Wkb g (take n (drop at bytes)) → ValuesOf (shapes ++ g ∷ []) (take (at + n) bytes)
  step g n is = subst (ValuesOf (shapes ++ g ∷ [])) (sym (take-add at n bytes)) (one_more Wkb shapes g (take at bytes) (take n (drop at bytes)) values is)

  -- what is left begins with no value
  pub named : (e : WkbError) → length bytes ≤ most_bytes → at < length bytes → Refuses at (BreaksFront (drop at bytes)) e → Names (BreaksWkbFile bytes) e
  named Memory small some told = tt
  named (Refused broken) small some told =
      let same : length (take at bytes) + told.0 ≡ broken.place = omega (arith, front_long, told.1) in
      subst (λ p. BreaksWkbFile bytes p broken.rule) same
      (in_value shapes (take at bytes) (drop at bytes) small whole values (λ none. absurd (omega (arith, ap length none, length-drop at bytes, some))) told.2)

  -- in a file what is left begins with one
  pub record Next : Type 0 where
    pub shape : Shape
    pub count : ℕ
    pub inside : count ≤ length (drop at bytes)
    pub is : Wkb shape (take count (drop at bytes))

  first_of : (later : List Shape) (rest : List ℕ) → rest ≡ drop at bytes → 0 < length rest → ValuesOf later rest → Next
  first_of [] rest same some none = absurd (omega (arith, ap length none, some))
  first_of (g ∷ later) rest same some are =
      let begins : take (length are.piece) (drop at bytes) ≡ are.piece =
      ap (take (length are.piece)) (sym same ∙ are.stands) ∙ take_at are.piece are.rest (length are.piece) refl in
      record {
        shape = g;
        count = length are.piece;
        inside = omega (arith, ap length same, ap length are.stands, length-append are.piece are.rest);
        is = subst (Wkb g) (sym begins) are.is;
      }

  pub next : (all : List Shape) → at < length bytes → ValuesOf all bytes → Next
  next all some are =
      let after = follows shapes all (take at bytes) bytes (drop at bytes) values are whole in
      first_of after.later (drop at bytes) refl (omega (arith, length-drop at bytes, some)) after.are

  -- all of it was read
  pub all_read : length bytes ≤ at → ValuesOf shapes bytes
  all_read done = subst (ValuesOf shapes) (take_all at bytes done) values

-- a window over all of a source holds all of its bytes
pub all_held : (old new : Source) (w : Held) (size : ℕ) → HasSize old size → Keeps old new → Shows w new → w.at ≡ 0 → w.end ≡ size → size ≤ length w.bytes
    → IfTold old (λ image. w.bytes ≡ image)
all_held old new w size sized keeps shows at_start at_end enough image told =
    let long : length image ≡ size = sized.image image told in
    let to : ahead w ≡ size = omega (arith, shows.within, at_end, enough, at_start) in
    shows.bytes image (keeps.image ∙ told)
    ∙ ap (λ n. slice_range image n (ahead w)) at_start
    ∙ take_all (ahead w - 0) image (omega (arith, long, to))

-- what is read of the bytes of a source
module _ {T : Type 0} (F : T → List Shape) (source : Source) (held : List ℕ) (is_held : IfTold source (λ image. held ≡ image)) where
  pub values_told : (read : Result T WkbError) (result : Result T ReadStop) → IsRead read result → IfOk read (λ x. IsWkbFile (F x) held) → IfOk result (λ x. IfTold source (IsWkbFile (F x)))
  values_told (Ok x) result same holds =
      subst (λ r. IfOk r (λ x. IfTold source (IsWkbFile (F x)))) (sym same) (λ image told. subst (IsWkbFile (F x)) (is_held image told) holds)
  values_told (Err Memory) result same holds = subst (λ r. IfOk r (λ x. IfTold source (IsWkbFile (F x)))) (sym same) tt
  values_told (Err (Refused broken)) result same holds = subst (λ r. IfOk r (λ x. IfTold source (IsWkbFile (F x)))) (sym same) tt

  abbrev Told : Broken → Type 0
  Told broken = IfTold source (λ image. BreaksWkbFile image broken.place broken.rule)

  pub refused_told : (read : Result T WkbError) (result : Result T ReadStop) → IsRead read result → IfErr read (Names (BreaksWkbFile held)) → IfRefused result Told
  refused_told (Ok x) result same holds = subst (λ r. IfRefused r Told) (sym same) tt
  refused_told (Err Memory) result same holds = subst (λ r. IfRefused r Told) (sym same) tt
  refused_told (Err (Refused broken)) result same holds =
      subst (λ r. IfRefused r Told) (sym same) (λ image told. subst (λ bytes. BreaksWkbFile bytes broken.place broken.rule) (is_held image told) holds)

pub as_fault : {T : Type 0} (read : Result T WkbError) (result : Result T ReadStop) → IsRead read result → IfErr read (λ e. e ≡ Memory) → IfErr result IsFault
as_fault (Ok x) result same holds = subst (λ r. IfErr r IsFault) (sym same) tt
as_fault (Err Memory) result same holds = subst (λ r. IfErr r IsFault) (sym same) tt
as_fault (Err (Refused broken)) result same holds = absurd (cc holds)
