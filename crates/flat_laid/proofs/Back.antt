-- A buffer that is laid reads back.
use Rattle.std.proofs.Common.{◌≡◌, ℕ, ◌-◌, ◌<◌, ◌≤◌, ◌^◌, true, List, length, subst, arith, length-append}
use Rattle.byteorder.specs.Endian.{little_bytes}
use Rattle.flat_layout.specs.Layout.{is_offset, target}
use Rattle.flat_builder.specs.Trees.{Fields, table}
use Rattle.flat_builder.specs.Laying.{laid, lay, stands, table_place, children_place}
use Rattle.flat_builder.proofs.Lengths.{stands_le}
use Rattle.flat_laid.specs.Lies.{Lies}
use Rattle.flat_laid.specs.Trees.{AreLayable, item_weight}
use Rattle.flat_laid.proofs.Parts.{IsAt, at_whole, at_front, at_rest}
use Rattle.flat_laid.proofs.Texts.{Leads, leads_to}
use Rattle.flat_laid.proofs.Children.{IsRead, table_read}
use Rattle.flat_laid.proofs.Held.{table_room, table_reads}
use Rattle.flat_laid.proofs.Nested.{fields_lie}
use Rattle.flat_laid.proofs.Weights.{item_weighs}

-- the offset to the root, and the root's table behind it
record HasRoot (b : List ℕ) (fs : Fields) : Type 0 where
  offset : IsAt b 0 (little_bytes 4 (table_place fs 4))
  root : IsAt b 4 (lay (table fs) 4)

has_root : (fs : Fields) → HasRoot (laid fs) fs
unfolding laid
has_root fs = record {
  offset = at_front (laid fs) (little_bytes 4 (table_place fs 4)) (lay (table fs) 4) 0 (at_whole (laid fs));
  root = at_rest (laid fs) (little_bytes 4 (table_place fs 4)) (lay (table fs) 4) 0 4 (omega arith) (at_whole (laid fs));
}

root_read : (fs : Fields) → AreLayable fs → length (laid fs) < 2 ^ 31 → IsRead (laid fs) fs (table_place fs 4) (children_place fs 4)
root_read fs fit low = table_read (laid fs) fs 4 low fit (has_root fs).root

root_led : (fs : Fields) → AreLayable fs → length (laid fs) < 2 ^ 31 → Leads (laid fs) 0 (table_place fs 4)
unfolding stands
root_led fs fit low =
    let place = table_place fs 4 in
    let same : place ≡ place - 0 = omega arith in
    leads_to (laid fs) 0 place low (subst (λ n. IsAt (laid fs) 0 (little_bytes 4 n)) same (has_root fs).offset)
    (omega (arith, stands_le (table fs) 4))
    (table_room (laid fs) place (root_read fs fit low).inside)

pub root_leads : (fs : Fields) → AreLayable fs → length (laid fs) < 2 ^ 31 → is_offset (laid fs) 0 ≡ true
root_leads fs fit low = (root_led fs fit low).is

pub tree_lies : (fs : Fields) → AreLayable fs → length (laid fs) < 2 ^ 31 → Lies (laid fs) (table fs) (target (laid fs) 0)
tree_lies fs fit low =
    let r = root_read fs fit low in
    let k = children_place fs 4 in
    table_reads (laid fs) fs (table_place fs 4) k (target (laid fs) 0) r (root_led fs fit low).to
    (fields_lie fs (laid fs) (table_place fs 4) k k low fit (omega arith) r.each r.children)

pub tree_weighs : (fs : Fields) → AreLayable fs → item_weight (table fs) ≤ length (laid fs)
unfolding laid
tree_weighs fs fit = omega (arith, length-append (little_bytes 4 (table_place fs 4)) (lay (table fs) 4), item_weighs (table fs) 4)
