use Rattle.std.proofs.Common.{◌≡◌, ℕ, ◌-◌, List, ◌++◌, length, take, drop, ap, ◌∙◌, arith}
use Rattle.std.specs.Prelude.{slice_range}
use Rattle.section_window.specs.Window.{Held}
use Rattle.section_window.proofs.Parts.{length_slice, range_same, whole, held_and_more}
use Rattle.fgb_outside.proofs.Asking.{reads_along}
use Rattle.section_window.proofs.Reading.{reads_inside}
use Rattle.section_window.proofs.window.Window.fill_until.Goals as goal

pub returns-clause-grows : goal.returns-clause-grows
returns-clause-grows g c =
    let held : ℕ = c.self.inside.till - c.self.inside.from in
    let till : ℕ = c.in_ok-self-inside.field-0 in
    let buf : List ℕ = c.read_pieces.new.buffer in
    let len : length buf ≡ c.make_room.new.buffer.len = omega arith in
    let front : take held buf ≡ c.args.self.now.bytes =
    c.read_pieces.ensures.front ∙ ap (take held) c.deref_mut.ensures.value ∙ c.in_ok-make_room.ensures.moved ∙ ap (λ (w : Held). w.bytes) c.self.view_is in
    (slice_range buf held till, ap (λ (l : List ℕ). slice_range l 0 till) (whole buf _ _ len) ∙ held_and_more buf c.args.self.now.bytes held till front c.in_ok-self-inside.ensures.read.reached)

pub returns-clause-reads : goal.returns-clause-reads
returns-clause-reads g c =
    let till : ℕ = c.in_ok-self-inside.field-0 in
    let buf : List ℕ = c.read_pieces.new.buffer in
    let read = c.in_ok-self-inside.ensures.read in
    let len : length buf ≡ c.make_room.new.buffer.len = omega arith in
    let was : length (slice_range c.self.inside.buffer.items c.self.inside.from c.self.inside.till) ≡ c.self.inside.till - c.self.inside.from =
    length_slice c.self.inside.buffer.items c.self.inside.from c.self.inside.till c.self.invariant.1 in
    let now : length (slice_range (take c.make_room.new.buffer.len (buf ++ drop (length buf) c.make_room.new.buffer.items)) 0 till) ≡ till - 0 =
    ap (λ (l : List ℕ). length (slice_range l 0 till)) (whole buf _ _ len) ∙ length_slice buf 0 till read.room in
    rw (← c.self.view_is) (reads_inside c.self.inside.at c.args.until (reads_along _ _ (range_same _ _ _ _ (omega arith) (omega arith)) read.reads))
