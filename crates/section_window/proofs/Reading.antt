-- A read behind what was read so far.
use Rattle.std.proofs.Common.{◌≡◌, ℕ, ◌+◌, ◌-◌, ◌<◌, ◌≤◌, min, List, ◌++◌, length, take, refl, sym, ap, ◌∙◌, arith}
use Rattle.std.specs.Prelude.{Result, Ok, slice_range}
use Rattle.std.specs.List.{range_with_len}
use Rattle.std.proofs.lemmas.List.{take-take}
use Rattle.fgb_outside.specs.declared.sources.SourceError.{SourceError}
use Rattle.fgb_outside.specs.Source.{Source, ReadsAt}
use Rattle.fgb_outside.specs.Asked.{Reads, ReadsFront, IsInside}
use Rattle.fgb_outside.proofs.Asking.{reads_nothing, reads_one, reads_reads, reads_along, front_one, front_longer, reads_then_front, front_along, reads_weaken, front_weaken}
use Rattle.section_window.specs.Window.{IsPiece}
use Rattle.section_window.specs.Pieces.{StandsIn, ReadTo}
use Rattle.section_window.proofs.Parts.{slice_join, take_slice, length_slice, range_join}

-- a piece is inside the section
pub piece_inside : (from end : ℕ) (p : ℕ × ℕ) → IsPiece from end p → IsInside from end p
piece_inside from end p is = (is.0, omega arith)

-- nothing was read yet
pub read_nothing : (old : Source) (buffer : List ℕ) (held at end : ℕ) → at + held ≤ end → held ≤ length buffer → StandsIn old buffer at held → ReadTo old old buffer buffer held held at end
read_nothing old buffer held at end within room stands = record {
  reached = omega arith;
  within = within;
  room = room;
  front = refl;
  bytes = stands;
  reads = let e : 0 ≡ held - held = omega arith in reads_along _ _ (ap (range_with_len (at + held)) e) (reads_nothing old);
}

-- how long the part is
part : (after : List ℕ) (till next at end : ℕ) → next ≡ till + min ((end - at) - till) 1048576 → next ≤ length after → at + till < end → IsPiece at end (at + till, length (slice_range after till next))
part after till next at end is room more =
    let len : length (slice_range after till next) ≡ next - till = length_slice after till next room in
    (omega arith, more, len ∙ omega arith)

pub read_more : {T : Type 0} {value : T} (old mid new : Source) (was buffer after : List ℕ) (held till next at end : ℕ) → ReadTo old mid was buffer held till at end → next ≡ till + min ((end - at) - till) 1048576 → next ≤ length after → at + till < end → take till after ≡ take till buffer → ReadsAt mid new (at + till) (slice_range after till next) (Ok value) → ReadTo old new was after held next at end
read_more old mid new was buffer after held till next at end so_far is room more same read =
    let reached = so_far.reached in
    let len : length (slice_range after till next) ≡ next - till = length_slice after till next room in
    let on : at + till + length (slice_range after till next) ≡ at + next = omega arith in
    record {
      reached = omega arith;
      within = omega arith;
      room = room;
      front = sym (take-take held till after reached) ∙ ap (take held) same ∙ take-take held till buffer reached ∙ so_far.front;
      bytes = λ image told.
          let before : mid.image ≡ _ = sym read.keeps.image ∙ told in
          sym (take_slice after till next (omega arith)) ∙ ap (λ l. l ++ slice_range after till next) (same ∙ so_far.bytes image before) ∙ ap (λ l. slice_range image at (at + till) ++ l) (read.bytes image before ∙ ap (slice_range image (at + till)) on) ∙ slice_join image at (at + till) (at + next) (omega arith) (omega arith);
      reads = reads_along _ _ (range_join (at + held) (till - held) (at + till) (length (slice_range after till next)) (next - held) (omega arith) (omega arith)) (reads_reads so_far.reads (reads_one (part after till next at end is room more) read));
    }

pub read_failed : {T : Type 0} {result : Result T SourceError} (old mid new : Source) (was buffer after : List ℕ) (held till next at end : ℕ) → ReadTo old mid was buffer held till at end → next ≡ till + min ((end - at) - till) 1048576 → next ≤ length after → at + till < end → ReadsAt mid new (at + till) (slice_range after till next) result → ReadsFront (IsPiece at end) old new (range_with_len (at + held) (end - (at + held)))
read_failed old mid new was buffer after held till next at end so_far is room more read =
    let reached = so_far.reached in
    let len : length (slice_range after till next) ≡ next - till = length_slice after till next room in
    let rest = range_with_len (at + next) (end - (at + next)) in
    let tail : range_with_len (at + till) (length (slice_range after till next)) ++ rest ≡ range_with_len (at + till) (end - (at + till)) =
    range_join (at + till) (length (slice_range after till next)) (at + next) (end - (at + next)) (end - (at + till)) (omega arith) (omega arith) in
    front_along _ _ (ap (λ l. range_with_len (at + held) (till - held) ++ l) tail ∙ range_join (at + held) (till - held) (at + till) (end - (at + till)) (end - (at + held)) (omega arith) (omega arith)) (reads_then_front so_far.reads (front_longer rest (front_one (part after till next at end is room more) read)))

-- requests by pieces are requests inside the section
pub reads_inside : (from end : ℕ) {old new : Source} {asked : List ℕ} → Reads (IsPiece from end) old new asked → Reads (IsInside from end) old new asked
reads_inside from end r = reads_weaken (IsPiece from end) (IsInside from end) (piece_inside from end) r

pub front_inside : (from end : ℕ) {old new : Source} {asked : List ℕ} → ReadsFront (IsPiece from end) old new asked → ReadsFront (IsInside from end) old new asked
front_inside from end r = front_weaken (IsPiece from end) (IsInside from end) (piece_inside from end) r
