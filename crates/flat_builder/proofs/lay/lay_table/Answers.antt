use Rattle.std.proofs.Common.{◌≡◌, ◌+◌, ◌*◌, ◌-◌, ◌++◌, [], length, sym, ap, ◌∙◌, arith}
use Rattle.flat_builder.specs.Trees.{entry_count}
use Rattle.flat_builder.specs.Laying.{by_width, of_width, table_place, vtable_len}
use Rattle.flat_builder.specs.Fields.{fields_of}
use Rattle.flat_builder.specs.Blanks.{begun, blanks}
use Rattle.flat_builder.proofs.Beginning.{begins, blanks_widths, ends, fresh_append, fresh_none, front_of, length-front_of, length-laid, length-middle_of, middle_of, opened, table_at}
use Rattle.flat_builder.proofs.Entries.{fresh_of}
use Rattle.flat_builder.proofs.lay.lay_table.Goals as goal

pub returns-clause-table : goal.returns-clause-table
unfolding by_width vtable_len
returns-clause-table c =
    let fields = c.args.fields.now in
    let fs = fields_of fields in
    let ascends = c.requires in
    let old = c.args.out.now.items in
    let count = entry_count fs in
    let front = front_of old fs in
    let middle = middle_of fs (length old) in
    let table = c.len-table.result in
    let w8 = of_width 8 (blanks fields) in
    let w4 = of_width 4 (blanks fields) in
    let w2 = of_width 2 (blanks fields) in
    let first : c.len-vtable.result ≡ length old = omega arith in
    let sizes = opened old c.push_number.new.out.items c.push_number-2.new.out.items c.push_zeros.new.out.items fs c.vtable_len.result c.table_len.result c.entry_count.result
    c.vtable_len.ensures.value c.table_len.ensures.value c.entry_count.ensures.value c.in_ok-push_number.ensures c.in_ok-push_number-2.ensures c.in_ok-push_zeros.ensures in
    let place : table ≡ table_place fs (length old) = omega (arith, table_at old c.push_zeros.new.out.items c.fill.new.out.items fs sizes c.in_ok-fill.ensures) in
    let distance : table - c.len-vtable.result ≡ table_place fs (length old) - length old = omega arith in
    let start = begins old c.push_zeros.new.out.items c.fill.new.out.items c.push_number-3.new.out.items fs (table - c.len-vtable.result) sizes c.in_ok-fill.ensures distance c.in_ok-push_number-3.ensures in
    let start_here = start ∙ ap (λ n. begun front count middle (n + 4) []) (sym place) in
    let at : length front ≡ c.len-vtable.result + 4 = omega (arith, length-front_of old fs) in
    let long : length front + 2 * count + length middle ≡ table + 4 = omega (arith, length-front_of old fs, length-middle_of fs (length old)) in
    let eights = c.in_ok-lay_width.ensures.laid front middle [] at long (fresh_none 8 fields) start_here in
    let fours = c.in_ok-lay_width-2.ensures.laid front middle w8 at long (fresh_of fields 4 8 ascends (λ e. absurd (omega (arith, e)))) eights in
    let fresh_2 = fresh_append 2 fields w8 w4 (fresh_of fields 2 8 ascends (λ e. absurd (omega (arith, e)))) (fresh_of fields 2 4 ascends (λ e. absurd (omega (arith, e)))) in
    let twos = c.in_ok-lay_width-3.ensures.laid front middle (w8 ++ w4) at long fresh_2 fours in
    let fresh_1 = fresh_append 1 fields (w8 ++ w4) w2
    (fresh_append 1 fields w8 w4 (fresh_of fields 1 8 ascends (λ e. absurd (omega (arith, e)))) (fresh_of fields 1 4 ascends (λ e. absurd (omega (arith, e)))))
    (fresh_of fields 1 2 ascends (λ e. absurd (omega (arith, e)))) in
    let ones = c.in_ok-lay_width-4.ensures.laid front middle (w8 ++ w4 ++ w2) at long fresh_1 twos in
    c.in_ok-fill-2.ensures
    ∙ ends old c.lay_width-4.new.out.items fs (by_width (blanks fields)) (blanks_widths fields) (ones ∙ ap (λ n. begun front count middle (n + 4) (by_width (blanks fields))) place)

pub returns-clause-fours : goal.returns-clause-fours
unfolding vtable_len
returns-clause-fours c =
    let fields = c.args.fields.now in
    let fs = fields_of fields in
    let old = c.args.out.now.items in
    let front = front_of old fs in
    let middle = middle_of fs (length old) in
    let table = c.len-table.result in
    let first : c.len-vtable.result ≡ length old = omega arith in
    let sizes = opened old c.push_number.new.out.items c.push_number-2.new.out.items c.push_zeros.new.out.items fs c.vtable_len.result c.table_len.result c.entry_count.result
    c.vtable_len.ensures.value c.table_len.ensures.value c.entry_count.ensures.value c.in_ok-push_number.ensures c.in_ok-push_number-2.ensures c.in_ok-push_zeros.ensures in
    let place : table ≡ table_place fs (length old) = omega (arith, table_at old c.push_zeros.new.out.items c.fill.new.out.items fs sizes c.in_ok-fill.ensures) in
    let distance : table - c.len-vtable.result ≡ table_place fs (length old) - length old = omega arith in
    let start = begins old c.push_zeros.new.out.items c.fill.new.out.items c.push_number-3.new.out.items fs (table - c.len-vtable.result) sizes c.in_ok-fill.ensures distance c.in_ok-push_number-3.ensures in
    let start_here = start ∙ ap (λ n. begun front (entry_count fs) middle (n + 4) []) (sym place) in
    let at : length front ≡ c.len-vtable.result + 4 = omega (arith, length-front_of old fs) in
    let long : length front + 2 * entry_count fs + length middle ≡ table + 4 = omega (arith, length-front_of old fs, length-middle_of fs (length old)) in
    let eights = c.in_ok-lay_width.ensures.laid front middle [] at long (fresh_none 8 fields) start_here in
    omega (arith, length-laid old c.lay_width.new.out.items fs (of_width 8 (blanks fields)) (eights ∙ ap (λ n. begun front (entry_count fs) middle (n + 4) (of_width 8 (blanks fields))) place))
