use Rattle.std.proofs.Common.{◌≡◌, ℕ, ◌+◌, ◌-◌, ◌++◌, List, length, true, sym, ap, ◌∙◌, arith}
use Rattle.byteorder.specs.Endian.{little_bytes}
use Rattle.byteorder.specs.Numbers.{length-bytes_low_first}
use Rattle.flat_builder.specs.Laying.{Slot, slot_bytes, slot_of, width_of}
use Rattle.flat_builder.specs.Fields.{item_of}
use Rattle.flat_builder.specs.Blanks.{held}
use Rattle.flat_builder.proofs.Entries.{patched}
use Rattle.flat_builder.proofs.table.Value.write_offset.Goals as goal

pub returns-in-Some-clause-four : goal.returns-in-Some-clause-four
unfolding slot_bytes
returns-in-Some-clause-four c = λ front rest wide at is.
    let it = item_of c.args.self.now in
    let old = c.args.out.now.items in
    let place = c.args.place in
    let stands = c.in-Some.stands in
    let zeros : List ℕ = little_bytes (width_of it) (held it) in
    let here : c.len.result ≡ length old = omega arith in
    let slot : slot_of 0 it (length old) ≡ record { id = 0; width = 4; leads = true; number = stands } = ap (slot_of 0 it) (sym here) ∙ c.in-Some.ensures.1 in
    c.set_number.ensures.after
    ∙ patched front zeros rest (little_bytes 4 (stands - place)) old place (place + 4) is at (omega (arith, wide, length-bytes_low_first 0 (width_of it) (held it)))
    ∙ ap (λ (s : Slot). front ++ slot_bytes place s ++ rest) (sym slot)
