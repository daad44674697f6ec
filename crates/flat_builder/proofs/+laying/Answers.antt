use Rattle.std.proofs.Common.{◌≡◌, ◌+◌, ◌*◌, ◌-◌, ◌++◌, ◌∷◌, [], length, replicate, take, drop, refl, sym, ap, ◌∙◌, arith, inl, inr, length-append}
use Rattle.std.proofs.lemmas.Bool.Decides.{eqb_tells}
use Rattle.std.proofs.lemmas.List.{append-nil}
use Rattle.std.proofs.lemmas.Result.{IfOk-equal, on_ok_weaker}
use Rattle.flat_builder.specs.declared.table.Field.{Field}
use Rattle.flat_builder.specs.Trees.{Fields, table}
use Rattle.flat_builder.specs.Laying.{lay, lay_fields, lay_tables, of_width, slot_of, slots_bytes, table_place, width_of}
use Rattle.flat_builder.specs.Fields.{item_of, fields_of}
use Rattle.flat_builder.specs.Shown.{tables_of}
use Rattle.flat_builder.specs.Blanks.{blank, blank_of, blanks, slots_len}
use Rattle.flat_builder.proofs.Children.{blank_bytes-id, blanks_le, blanks_left, blanks_more, bytes_more, each_step, four_step, other_step, single_four, single_len, single_other, slot_bytes-id, slots_more, tables_laid, widths_laid}
use Rattle.flat_builder.proofs.Depths.{fields_within, most_of_vector, value_among}
use Rattle.flat_builder.proofs.Ends.{fields_step, tables_step}
use Rattle.flat_builder.proofs.ValueEnds.{number_laid, text_item_laid}
use Rattle.flat_builder.proofs.Lengths.{width-slot_of}
use Rattle.flat_builder.proofs.Wholes.{behind_fours, children_begin, fours_fit, fours_split, front_of_fours, length-front_of_fours, whole_laid}
use Rattle.flat_builder.proofs.+laying.Goals as goal

pub lay::lay_children-loop-field-init : goal.lay::lay_children-loop-field-init
unfolding lay of_width
lay::lay_children-loop-field-init t c = record {
  place = omega arith;
  reached = omega arith;
  laid = λ front rest at is. is ∙ sym (append-nil (front ++ slots_bytes c.args.fours (of_width 4 (blanks c.args.fields.now)) ++ rest));
}

pub lay::lay_children-lay_behind-requires : goal.lay::lay_children-lay_behind-requires
lay::lay_children-lay_behind-requires t c =
    let fs = c.args.fields.now in
    let i = c.loop-field.field-index in
    let f = c.field-item.result in
    (omega (arith, value_among fs i f c.field-item.is c.loop-field-test.true), λ wide. omega (arith, c.requires, c.loop-field.invariant.place, c.loop-field.invariant.reached, blanks_le 4 fs (i + 1), blanks_more 4 fs i f c.field-item.is c.loop-field-test.true, single_four (blank f) wide))

pub lay::lay_children-loop-field-preserved : goal.lay::lay_children-loop-field-preserved
lay::lay_children-loop-field-preserved t c =
    let fs = c.args.fields.now in
    let i = c.loop-field.field-index in
    let f = c.field-item.result in
    let it = item_of f.value in
    let is = c.field-item.is in
    let inside = c.loop-field-test.true in
    let start = length c.args.out.now.items in
    let done = lay_fields (fields_of (take i fs)) start in
    let old = c.loop-field.out.items in
    let new = c.lay_behind.new.out.items in
    let own = slot_of f.id it (length old) in
    let wide_own = width-slot_of f.id it (length old) in
    let todo = blanks (drop (i + 1) fs) in
    let before = c.loop-field.invariant in
    record {
      place = c.in_ok-place.ensures.next ∙ omega (arith, before.place, blanks_more 4 fs i f is inside, single_len 4 (blank_of 0 it) (blank f) refl);
      reached = c.in_ok-place.ensures.len ∙ ap (λ (x : Field). length old + length (lay (item_of x.value) (length old))) is ∙ sym (fields_step fs start i (length old) f inside before.reached);
      laid = λ front rest at old_is.
          let so_far : old ≡ front ++ slots_bytes c.args.fours (of_width 4 (done.slots ++ blank f ∷ todo)) ++ rest ++ done.bytes =
          before.laid front rest at old_is ∙ ap (λ bs. front ++ slots_bytes c.args.fours (of_width 4 (done.slots ++ bs)) ++ rest ++ done.bytes) (blanks_left fs i f is inside) in
          let stepped : new ≡ front ++ slots_bytes c.args.fours (of_width 4 ((done.slots ++ own ∷ []) ++ todo)) ++ rest ++ (done.bytes ++ lay it (length old)) = elim (eqb_tells (width_of it) 4) [
            | inl wide ↦ four_step front rest done.bytes (lay it (length old)) old new c.args.fours c.loop-field.place done.slots todo (blank f) own wide.1 (wide_own ∙ wide.1) at (before.place ∙ ap (λ n. c.args.fours + n) (sym (widths_laid 4 (take i fs) start))) so_far
                (λ first last long apart.
                c.in_ok-place.ensures.four first last wide.1 long (apart ∙ ap (λ b. first ++ b ++ last) (blank_bytes-id c.loop-field.place f.id it))
                ∙ ap (λ b. first ++ b ++ last ++ lay it (length old)) (sym (slot_bytes-id c.loop-field.place f.id it (length old))))
            | inr other ↦ other_step front rest done.bytes (lay it (length old)) old new c.args.fours done.slots todo (blank f) own other.1 (λ e. other.1 (sym wide_own ∙ e)) so_far (c.in_ok-place.ensures.other other.1)
          ] in
          stepped
          ∙ ap (λ ss. front ++ slots_bytes c.args.fours (of_width 4 (ss ++ todo)) ++ rest ++ (done.bytes ++ lay it (length old))) (sym (slots_more fs i f start (length old) is inside before.reached))
          ∙ ap (λ bs. front ++ slots_bytes c.args.fours (of_width 4 ((lay_fields (fields_of (take (i + 1) fs)) start).slots ++ todo)) ++ rest ++ bs) (sym (bytes_more fs i f start (length old) is inside before.reached));
    }

pub lay::lay_each-loop-inner-init : goal.lay::lay_each-loop-inner-init
unfolding lay slots_bytes
lay::lay_each-loop-inner-init t c =
    let many = length c.args.all.now in
    let none : many ≡ many - 0 = omega arith in
    record {
      place = omega arith;
      reached = omega arith;
      laid = λ front at is.
          is ∙ ap (λ xs. xs ++ replicate (4 * many) 0) (sym (append-nil front)) ∙ ap (λ n. front ++ [] ++ replicate (4 * n) 0) none ∙ sym (append-nil (front ++ [] ++ replicate (4 * (many - 0)) 0));
    }

pub lay::lay_each-loop-inner-preserved : goal.lay::lay_each-loop-inner-preserved
lay::lay_each-loop-inner-preserved t c =
    let ts = c.args.all.now in
    let i = c.loop-inner.inner-index in
    let one = c.inner-item.result in
    let start = length c.args.out.now.items in
    let old = c.loop-inner.out.items in
    let inside = c.loop-inner-test.true in
    let before = c.loop-inner.invariant in
    let cursor : c.len.result ≡ length old = omega arith in
    let stood = c.table_place-stands.ensures.value ∙ ap (table_place one) cursor in
    let laid_is = c.in_ok-lay.ensures ∙ ap (λ n. c.set_number.new.out.items ++ lay (table one) n) c.set_number.ensures.len in
    record {
      place = omega (arith, before.place);
      reached = ap length laid_is ∙ length-append c.set_number.new.out.items (lay (table one) (length old)) ∙ ap (λ n. n + length (lay (table one) (length old))) c.set_number.ensures.len
          ∙ ap (λ (x : Fields). length old + length (lay (table x) (length old))) c.inner-item.is ∙ sym (tables_step ts start i (length old) one inside before.reached);
      laid = λ front at is.
          each_step front old c.set_number.new.out.items c.lay.new.out.items ts i one start c.args.offsets c.loop-inner.place c.table_place-stands.result (length ts - (i + 1))
          c.inner-item.is inside before.reached at before.place stood (omega arith) (before.laid front at is) c.set_number.ensures.after laid_is;
    }

pub lay::lay_tables-returns : goal.lay::lay_tables-returns
lay::lay_tables-returns t c =
    let counted = c.push_number.new.out.items in
    let zeroed = c.push_zeros.new.out.items in
    let ts = c.args.all.now in
    let n = length ts in
    let offsets : c.len-offsets.result ≡ length counted = omega arith in
    let zeroed_is = c.in_ok-push_zeros.ensures in
    on_ok_weaker c.lay_each.result
    (λ is. tables_laid c.args.out.now.items counted zeroed c.lay_each.new.out.items ts n refl c.in_ok-push_number.ensures zeroed_is
    (is ∙ ap (λ m. counted ++ slots_bytes m (lay_tables (tables_of ts) (length zeroed)).slots ++ (lay_tables (tables_of ts) (length zeroed)).bytes) offsets))
    (c.lay_each.ensures counted (sym offsets) zeroed_is)

pub table::FlatTable::lay-lay_children-requires : goal.table::FlatTable::lay-lay_children-requires
table::FlatTable::lay-lay_children-requires t c = (
  omega (arith, fields_within c.self.inside c.deref-2.result.now c.args.self.now c.deref-2.ensures.value c.self.view_is),
  omega (
    arith,
    fours_fit c.args.out.now.items c.lay_table.new.out.items c.deref.result.now c.in_ok-fours.fours c.in_ok-fours.ensures.fours c.in_ok-fours.ensures.table,
    ap (λ fs. slots_len (of_width 4 (blanks fs))) (c.deref-2.ensures.value ∙ sym c.deref.ensures.value),
  ),
)

pub table::FlatTable::lay-returns : goal.table::FlatTable::lay-returns
table::FlatTable::lay-returns t c =
    let fs = c.deref.result.now in
    let old = c.args.out.now.items in
    let out = c.lay_table.new.out.items in
    let new = c.lay_children.new.out.items in
    let fours = c.in_ok-fours.fours in
    let cursor = length old in
    let same = c.deref-2.ensures.value ∙ sym c.deref.ensures.value in
    let here = c.in_ok-fours.ensures.fours in
    let is_table = c.in_ok-fours.ensures.table in
    let front = front_of_fours old (fields_of fs) (blanks fs) cursor in
    let rest = behind_fours (fields_of fs) (blanks fs) cursor fours in
    let at = length-front_of_fours old (fields_of fs) (blanks fs) ∙ sym here in
    let apart = is_table ∙ fours_split old (fields_of fs) (blanks fs) cursor fours here ∙ ap (λ xs. front ++ slots_bytes fours (of_width 4 (blanks xs)) ++ rest) (sym same) in
    on_ok_weaker c.lay_children.result
    (λ is. whole_laid old new fs cursor fours (length out) here (children_begin old out fs is_table)
    (is ∙ ap (λ xs. front ++ slots_bytes fours (of_width 4 (lay_fields (fields_of xs) (length out)).slots) ++ rest ++ (lay_fields (fields_of xs) (length out)).bytes) same)
    ∙ ap (λ t. old ++ lay (table t) cursor) (ap fields_of c.deref.ensures.value ∙ c.self.view_is))
    (c.lay_children.ensures front rest at apart)

pub table::Value::lay-lay_tables-requires : goal.table::Value::lay-lay_tables-requires
table::Value::lay-lay_tables-requires t c =
    (omega (arith, most_of_vector c.args.self.now c.in-TableVector.all c.deref.result.now c.in-TableVector.is c.deref.ensures.value), tt)

pub table::Value::lay-returns-in-Number : goal.table::Value::lay-returns-in-Number
table::Value::lay-returns-in-Number t c =
    number_laid c.args.self.now c.in-Number.field-0 c.args.out.now.items c.in-Number.is

pub table::Value::lay-returns-in-Text : goal.table::Value::lay-returns-in-Text
table::Value::lay-returns-in-Text t c =
    IfOk-equal c.lay_text.result c.lay_text.new.out.items _ _ c.lay_text.ensures (text_item_laid c.args.self.now c.in-Text.text c.args.out.now.items c.as_bytes.result.now c.in-Text.is c.as_bytes.ensures.value)

pub table::Value::lay_behind-returns-then-width-eq4-clause-next : goal.table::Value::lay_behind-returns-then-width-eq4-clause-next
table::Value::lay_behind-returns-then-width-eq4-clause-next t c =
    let it = item_of c.args.self.now in
    omega (arith, single_four (blank_of 0 it) (sym c.width.ensures.value ∙ c.if-width-eq4.true))

pub table::Value::lay_behind-returns-else-width-eq4-clause-next : goal.table::Value::lay_behind-returns-else-width-eq4-clause-next
table::Value::lay_behind-returns-else-width-eq4-clause-next t c =
    let it = item_of c.args.self.now in
    omega (arith, single_other (blank_of 0 it) (λ e. c.if-width-eq4.false (c.width.ensures.value ∙ e)))
