use Rattle.std.proofs.Common.{◌≡◌, ℕ, List, ◌++◌, sym, ap, subst, ◌∙◌, None, Some, Bool, true, false, refl}
use Rattle.std.specs.Prelude.{bytes_eq, not}
use Rattle.std.proofs.lemmas.Bool.{false≢true}
use Rattle.std.proofs.lemmas.Bool.Decides.{Decides-eqb}
use Rattle.std.proofs.lemmas.Slice.Eq.{bytes_eq-Decides, strip_prefix_is, strip_suffix_is}
use Rattle.range_text.specs.Ranges.{range_text}
use Rattle.loop_link.specs.Asks.{FitsIn}
use Rattle.loop_link.proofs.Asking.{ask_front, ask_text}
use Rattle.loop_link.proofs.Pieces.{ask_back, piece_is, rest_is, value_is}
use Rattle.loop_link.proofs.asks.places_asked.Goals as goal

holds : (v : Bool) → false ≡ not v → v ≡ true
holds true e = refl
holds false e = cc

pub returns-in_err-strip_prefix-clause-none : goal.returns-in_err-strip_prefix-clause-none
returns-in_err-strip_prefix-clause-none c =
    rw c.from_residual.ensures (λ a b asks.
    strip_prefix_is Decides-eqb c.args.piece.now ask_front None c.in_err-strip_prefix.ensures.cases (range_text a b ++ ask_back) (asks.text ∙ ask_text a b))

pub returns-in_err-value-clause-none : goal.returns-in_err-value-clause-none
returns-in_err-value-clause-none c =
    let rest : List ℕ = c.in_ok-strip_prefix.field-0.now in
    let front : c.args.piece.now ≡ ask_front ++ rest = strip_prefix_is Decides-eqb c.args.piece.now ask_front (Some c.in_ok-strip_prefix.field-0) c.in_ok-strip_prefix.ensures.cases in
    rw c.from_residual-in_err-value.ensures (λ a b asks.
    strip_suffix_is Decides-eqb rest ask_back None c.in_err-value.ensures.cases (range_text a b) (rest_is c.args.piece.now rest a b front asks.text))

pub returns-then-not-fits_in-clause-none : goal.returns-then-not-fits_in-clause-none
returns-then-not-fits_in-clause-none c = λ a b asks.
    let rest : List ℕ = c.in_ok-strip_prefix.field-0.now in
    let front : c.args.piece.now ≡ ask_front ++ rest = strip_prefix_is Decides-eqb c.args.piece.now ask_front (Some c.in_ok-strip_prefix.field-0) c.in_ok-strip_prefix.ensures.cases in
    let back : rest ≡ c.in_ok-value.value.now ++ ask_back = strip_suffix_is Decides-eqb rest ask_back (Some c.in_ok-value.value) c.in_ok-value.ensures.cases in
    let places = c.places_in-first.ensures a b (value_is c.args.piece.now rest c.in_ok-value.value.now a b front back asks.text) asks.fits in
    let fits : FitsIn c.args.size c.places_in-first.result.0 c.places_in-first.result.1 =
    subst (λ (n : ℕ). FitsIn c.args.size n c.places_in-first.result.1) (sym places.0) (subst (λ (n : ℕ). FitsIn c.args.size a n) (sym places.1) asks.fits) in
    false≢true (sym c.if-not-fits_in.true ∙ c.fits_in.ensures.1 fits)

pub returns-then-ne-clause-none : goal.returns-then-ne-clause-none
returns-then-ne-clause-none c = λ a b asks.
    let rest : List ℕ = c.in_ok-strip_prefix.field-0.now in
    let front : c.args.piece.now ≡ ask_front ++ rest = strip_prefix_is Decides-eqb c.args.piece.now ask_front (Some c.in_ok-strip_prefix.field-0) c.in_ok-strip_prefix.ensures.cases in
    let back : rest ≡ c.in_ok-value.value.now ++ ask_back = strip_suffix_is Decides-eqb rest ask_back (Some c.in_ok-value.value) c.in_ok-value.ensures.cases in
    let value = value_is c.args.piece.now rest c.in_ok-value.value.now a b front back asks.text in
    let places = c.places_in-first.ensures a b value asks.fits in
    let text : c.in_ok-value.value.now ≡ c.bytes.result.now =
    value ∙ ap (λ n. range_text n b) (sym places.0) ∙ ap (λ n. range_text c.places_in-first.result.0 n) (sym places.1) ∙ sym (c.bytes.ensures ∙ c.write_range.ensures.text) in
    let same = (bytes_eq-Decides c.in_ok-value.value.now c.bytes.result.now).1 text in
    false≢true (ap not (sym same) ∙ sym c.if-ne.ensures)

pub returns-clause-some : goal.returns-clause-some
returns-clause-some c =
    let rest : List ℕ = c.in_ok-strip_prefix.field-0.now in
    let front : c.args.piece.now ≡ ask_front ++ rest = strip_prefix_is Decides-eqb c.args.piece.now ask_front (Some c.in_ok-strip_prefix.field-0) c.in_ok-strip_prefix.ensures.cases in
    let back : rest ≡ c.in_ok-value.value.now ++ ask_back = strip_suffix_is Decides-eqb rest ask_back (Some c.in_ok-value.value) c.in_ok-value.ensures.cases in
    let text : c.in_ok-value.value.now ≡ c.bytes.result.now = (bytes_eq-Decides c.in_ok-value.value.now c.bytes.result.now).0 (holds (bytes_eq c.in_ok-value.value.now c.bytes.result.now) c.if-ne.ensures) in
    record {
      text = piece_is c.args.piece.now rest c.in_ok-value.value.now c.places_in-first.result.0 c.places_in-first.result.1 front back (text ∙ c.bytes.ensures ∙ c.write_range.ensures.text);
      fits = c.fits_in.ensures.0 c.if-not-fits_in.false;
    }
