-- What a caller needs of a window that shows a source, and of what its fills asked for.
use Rattle.std.proofs.Common.{◌≡◌, ℕ, ◌+◌, ◌-◌, ◌≤◌, ◌<◌, max, List, [], length, take, drop, sym, ap, subst, ◌∙◌, ⊎_elim, arith, length-append}
use Rattle.std.specs.Prelude.{slice_range}
use Rattle.std.specs.List.{range_with_len}
use Rattle.std.proofs.lemmas.List.{length-drop, drop_all}
use Rattle.std.proofs.lemmas.Bool.{cases_lt}
use Rattle.fgb_outside.specs.Source.{Source, IfTold, Keeps}
use Rattle.fgb_outside.specs.Asked.{Reads, ReadsFront}
use Rattle.fgb_outside.proofs.Shown.{IfTold-later}
use Rattle.fgb_outside.proofs.Asking.{reads_reads, reads_along, reads_then_front, front_along, range_split}
use Rattle.section_window.specs.Window.{Held, ahead, passed, Shows, Grows}
use Rattle.section_window.proofs.Parts.{slice_pass, take_front, slice_nothing}

-- a window that holds nothing
pub shows_nothing : (source : Source) (at end : ℕ) → at ≤ end → end ≤ source.size → Shows (record { at = at; bytes = []; end = end }) source
shows_nothing source at end order inside = record {
  within = omega arith;
  inside = inside;
  bytes = λ image told. let e : at + 0 ≡ at = omega arith in sym (ap (slice_range image at) e ∙ slice_nothing image at);
}

-- after any calls on the source
pub shows_later : (w : Held) (a b : Source) → Keeps a b → Shows w a → Shows w b
shows_later w a b keeps shows = record {
  within = shows.within;
  inside = let e : b.size ≡ a.size = keeps.size in omega (arith, shows.inside);
  bytes = IfTold-later (λ image. w.bytes ≡ slice_range image w.at (ahead w)) keeps shows.bytes;
}

pub ahead_passed : (w : Held) (n : ℕ) → n ≤ length w.bytes → ahead (passed w n) ≡ ahead w
ahead_passed w n within = let e : length (drop n w.bytes) ≡ length w.bytes - n = length-drop n w.bytes in omega arith

pub shows_passed : (w : Held) (source : Source) (n : ℕ) → n ≤ length w.bytes → Shows w source → Shows (passed w n) source
shows_passed w source n within shows =
    let same : ahead (passed w n) ≡ ahead w = ahead_passed w n within in
    record {
      within = omega (arith, shows.within);
      inside = shows.inside;
      bytes = λ image told.
          ap (drop n) (shows.bytes image told) ∙ sym (slice_pass image w.at (ahead w) n (omega arith)) ∙ ap (slice_range image (w.at + n)) (sym same);
    }

-- going on as far as what is held, or farther
pub ahead_skipped : (w : Held) (n : ℕ) → ahead (passed w n) ≡ max (ahead w) (w.at + n)
ahead_skipped w n = let e : length (drop n w.bytes) ≡ length w.bytes - n = length-drop n w.bytes in omega arith

pub shows_skipped : (w : Held) (source : Source) (n : ℕ) → w.at + n ≤ w.end → Shows w source → Shows (passed w n) source
shows_skipped w source n within shows = ⊎_elim
    (λ (less : n < length w.bytes). shows_passed w source n (omega (arith, less)) shows)
    (λ (more : length w.bytes ≤ n).
    subst (λ (b : List ℕ). Shows (record { at = w.at + n; bytes = b; end = w.end }) source) (sym (drop_all n w.bytes more))
    (shows_nothing source (w.at + n) w.end within shows.inside))
    (cases_lt n (length w.bytes))

-- the first n bytes held are those of the source at that place
pub shows_front : (w : Held) (source : Source) (n : ℕ) → n ≤ length w.bytes → Shows w source → IfTold source (λ image. take n w.bytes ≡ slice_range image w.at (w.at + n))
shows_front w source n within shows = λ image told.
    ap (take n) (shows.bytes image told) ∙ take_front image w.at (ahead w) n (omega arith)

-- so are those from i to j
pub shows_part : (w : Held) (source : Source) (i j : ℕ) → i ≤ j → j ≤ length w.bytes → Shows w source → IfTold source (λ image. slice_range w.bytes i j ≡ slice_range image (w.at + i) (w.at + j))
shows_part w source i j order within shows = λ image told.
    let e : (w.at + i) + (j - i) ≡ w.at + j = omega arith in
    ap (λ l. take (j - i) (drop i l)) (shows.bytes image told) ∙ ap (take (j - i)) (sym (slice_pass image w.at (ahead w) i (omega arith))) ∙ take_front image (w.at + i) (ahead w) (j - i) (omega arith) ∙ ap (slice_range image (w.at + i)) e

pub grows_ahead : (old new : Held) → new.at ≡ old.at → Grows old new → ahead old ≤ ahead new
grows_ahead old new at grows =
    let e : length new.bytes ≡ length old.bytes + length grows.0 = ap length grows.1 ∙ length-append old.bytes grows.0 in
    omega arith

-- what was asked for up to mid, and then up to till
pub reads_on : {P : ℕ × ℕ → Type 0} {a b c : Source} (from mid till : ℕ) → from ≤ mid → mid ≤ till → Reads P a b (range_with_len from (mid - from)) → Reads P b c (range_with_len mid (till - mid)) → Reads P a c (range_with_len from (till - from))
reads_on from mid till l h p q = reads_along _ _ (sym (range_split from mid till l h)) (reads_reads p q)

pub front_on : {P : ℕ × ℕ → Type 0} {a b c : Source} (from mid till : ℕ) → from ≤ mid → mid ≤ till → Reads P a b (range_with_len from (mid - from)) → ReadsFront P b c (range_with_len mid (till - mid)) → ReadsFront P a c (range_with_len from (till - from))
front_on from mid till l h p q = front_along _ _ (sym (range_split from mid till l h)) (reads_then_front p q)
