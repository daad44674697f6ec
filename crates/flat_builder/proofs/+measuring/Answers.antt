use Rattle.std.proofs.Common.{ℕ, ◌+◌, ◌*◌, length, refl, sym, subst, ap, ◌∙◌, arith}
use Rattle.flat_builder.specs.declared.table.Field.{Field}
use Rattle.flat_builder.specs.Trees.{Fields, table}
use Rattle.flat_builder.specs.Laying.{lay, lay_fields, lay_tables, round_up, stands, table_len}
use Rattle.flat_builder.specs.Fields.{item_of, fields_of}
use Rattle.flat_builder.specs.Blanks.{EndsAt, width_in}
use Rattle.flat_builder.specs.Shown.{tables_of, vector_item}
use Rattle.flat_builder.proofs.ValueEnds.{children_is, table_ends, number_ends, text_ends, vector_ends, table_vector_ends}
use Rattle.flat_builder.proofs.Depths.{most_of_vector}
use Rattle.flat_builder.proofs.Ends.{fields_step, fields_to_le, tables_step, tables_to_le}
use Rattle.flat_builder.proofs.+measuring.Goals as goal

pub measure::fields_end-loop-field-init : goal.measure::fields_end-loop-field-init
unfolding lay
measure::fields_end-loop-field-init t c = record { value = omega arith; inside = c.requires.inside }

pub measure::fields_end-returns-in_err-end : goal.measure::fields_end-returns-in_err-end
measure::fields_end-returns-in_err-end t c =
    let fs = c.args.fields.now in
    let i = c.loop-field.field-index in
    let end = c.loop-field.end in
    rw c.from_residual.ensures (omega (
      arith,
      c.in_err-end.ensures,
      ap (λ (f : Field). length (lay (item_of f.value) end)) c.field-item.is,
      fields_step fs c.args.start i end c.field-item.result c.loop-field-test.true c.loop-field.invariant.value,
      fields_to_le fs c.args.start (i + 1),
    ))

pub measure::fields_end-loop-field-preserved : goal.measure::fields_end-loop-field-preserved
measure::fields_end-loop-field-preserved t c =
    let end = c.loop-field.end in
    record {
      value = c.in_ok-end.ensures.0 ∙ ap (λ (f : Field). end + length (lay (item_of f.value) end)) c.field-item.is
          ∙ sym (fields_step c.args.fields.now c.args.start c.loop-field.field-index end c.field-item.result c.loop-field-test.true c.loop-field.invariant.value);
      inside = c.in_ok-end.ensures.1;
    }

pub measure::tables_end-loop-inner-init : goal.measure::tables_end-loop-inner-init
unfolding lay
measure::tables_end-loop-inner-init t c = record { value = omega arith; inside = c.requires.inside }

pub measure::tables_end-returns-in_err-end : goal.measure::tables_end-returns-in_err-end
measure::tables_end-returns-in_err-end t c =
    let ts = c.args.all.now in
    let i = c.loop-inner.inner-index in
    let end = c.loop-inner.end in
    rw c.from_residual.ensures (omega (
      arith,
      c.in_err-end.ensures,
      ap (λ (fs : Fields). length (lay (table fs) end)) c.inner-item.is,
      tables_step ts c.args.start i end c.inner-item.result c.loop-inner-test.true c.loop-inner.invariant.value,
      tables_to_le ts c.args.start (i + 1),
    ))

pub measure::tables_end-loop-inner-preserved : goal.measure::tables_end-loop-inner-preserved
measure::tables_end-loop-inner-preserved t c =
    let end = c.loop-inner.end in
    record {
      value = c.in_ok-end.ensures.0 ∙ ap (λ (fs : Fields). end + length (lay (table fs) end)) c.inner-item.is
          ∙ sym (tables_step c.args.all.now c.args.start c.loop-inner.inner-index end c.inner-item.result c.loop-inner-test.true c.loop-inner.invariant.value);
      inside = c.in_ok-end.ensures.1;
    }

pub table::FlatTable::end-returns-in_err-within : goal.table::FlatTable::end-returns-in_err-within
table::FlatTable::end-returns-in_err-within t c =
    let fs = c.self.inside.fields.items in
    let k = c.next_multiple_of-children.result in
    let long = c.table_len.ensures.value ∙ ap (λ xs. table_len (fields_of xs)) c.deref.ensures.value in
    let here = children_is fs c.args.self.now c.args.cursor c.table_place.result c.table_len.result k c.self.view_is c.table_place.ensures.value long c.next_multiple_of-children.ensures.value in
    rw c.from_residual.ensures (omega (arith, c.in_err-within.ensures, table_ends fs c.args.self.now c.args.cursor k c.self.view_is here))

pub table::FlatTable::end-returns : goal.table::FlatTable::end-returns
table::FlatTable::end-returns t c =
    let fs = c.self.inside.fields.items in
    let k = c.in_ok-within.field-0 in
    let long = c.table_len.ensures.value ∙ ap (λ xs. table_len (fields_of xs)) c.deref.ensures.value in
    let here = children_is fs c.args.self.now c.args.cursor c.table_place.result c.table_len.result k c.self.view_is c.table_place.ensures.value long (c.in_ok-within.ensures.0 ∙ c.next_multiple_of-children.ensures.value) in
    let Ends : ℕ → Type 0 = λ n. EndsAt c.args.limit n c.fields_end.result in
    subst Ends (ap (λ xs. k + length (lay_fields (fields_of xs) k).bytes) c.deref-2.ensures.value ∙ sym (table_ends fs c.args.self.now c.args.cursor k c.self.view_is here)) c.fields_end.ensures

pub table::Value::end-tables_end-requires : goal.table::Value::end-tables_end-requires
table::Value::end-tables_end-requires t c =
    (omega (arith, most_of_vector c.args.self.now c.in-TableVector.all c.deref.result.now c.in-TableVector.is c.deref.ensures.value), (c.requires.near, c.in_ok-start-in-TableVector.ensures.1))

pub table::Value::end-returns-in_err-start-in-TableVector : goal.table::Value::end-returns-in_err-start-in-TableVector
table::Value::end-returns-in_err-start-in-TableVector t c =
    let all = c.in-TableVector.all in
    let start = c.args.cursor + 4 + 4 * length all.items in
    rw c.from_residual.ensures (omega (arith, c.in_err-start-in-TableVector.ensures, table_vector_ends c.args.self.now all c.args.cursor start c.in-TableVector.is refl, c.len-in-TableVector.ensures))

pub table::Value::end-returns-in-Number : goal.table::Value::end-returns-in-Number
table::Value::end-returns-in-Number t c = (number_ends c.args.self.now c.in-Number.field-0 c.args.cursor c.in-Number.is, c.requires.inside)

pub table::Value::end-returns-in-Text : goal.table::Value::end-returns-in-Text
table::Value::end-returns-in-Text t c =
    let Ends : ℕ → Type 0 = λ n. EndsAt c.args.limit n c.padded_end.result in
    subst Ends (text_ends c.args.self.now c.in-Text.text c.args.cursor c.len.result c.in-Text.is (omega arith)) c.padded_end.ensures

pub table::Value::end-returns-in-Vector : goal.table::Value::end-returns-in-Vector
table::Value::end-returns-in-Vector t c =
    let Ends : ℕ → Type 0 = λ n. EndsAt c.args.limit n c.padded_end-in-Vector.result in
    let at = ap (λ n. round_up 4 (n + 4 + c.width.result * c.len-in-Vector.result)) c.stands.ensures.value in
    let wide = ap (λ n. round_up 4 (stands (vector_item c.in-Vector.vector) c.args.cursor + 4 + n * c.len-in-Vector.result)) c.width.ensures in
    let many = ap (λ n. round_up 4 (stands (vector_item c.in-Vector.vector) c.args.cursor + 4 + width_in c.in-Vector.vector * n)) c.len-in-Vector.ensures in
    subst Ends (at ∙ wide ∙ many ∙ vector_ends c.args.self.now c.in-Vector.vector c.args.cursor c.in-Vector.is) c.padded_end-in-Vector.ensures

pub table::Value::end-returns-in_ok-start-in-TableVector : goal.table::Value::end-returns-in_ok-start-in-TableVector
table::Value::end-returns-in_ok-start-in-TableVector t c =
    let all = c.in-TableVector.all in
    let start = c.in_ok-start-in-TableVector.start in
    let Ends : ℕ → Type 0 = λ n. EndsAt c.args.limit n c.tables_end.result in
    subst Ends (ap (λ ts. start + length (lay_tables (tables_of ts) start).bytes) c.deref.ensures.value
    ∙ table_vector_ends c.args.self.now all c.args.cursor start c.in-TableVector.is (omega (arith, c.in_ok-start-in-TableVector.ensures, c.len-in-TableVector.ensures)))
    c.tables_end.ensures
