use Rattle.std.proofs.Common.{◌≡◌, ◌+◌, ◌*◌, ◌-◌, ◌++◌, ap, ◌∙◌, arith, refl, length}
use Rattle.std.proofs.lemmas.Result.{IfOk-equal}
use Rattle.byteorder.specs.Endian.{little_bytes}
use Rattle.flat_builder.specs.Laying.{width_of}
use Rattle.flat_builder.specs.Fields.{item_of}
use Rattle.flat_builder.specs.Blanks.{blank, slots_len}
use Rattle.flat_builder.proofs.Entries.{field_laid, length-begun}
use Rattle.flat_builder.proofs.lay.lay_field.Goals as goal

pub returns-clause-laid : goal.returns-clause-laid
returns-clause-laid c = λ front middle count before at long inside lacks is.
    let f = c.args.field.now in
    let old = c.args.out.now.items in
    let after = c.set_number.new.out.items in
    let place = c.len.result - c.args.table in
    let here : place ≡ 4 + slots_len before = omega (arith, ap length is, length-begun front count middle (c.args.table + 4) before) in
    let laid = field_laid front middle count (c.args.table + 4) (c.args.vtable + 4 + 2 * c.from.result) before (blank f) old after place lacks inside refl here (omega arith) is c.set_number.ensures.after in
    let wide = ap (λ w. after ++ little_bytes w c.number.result) c.width.ensures.value in
    let held = ap (λ n. after ++ little_bytes (width_of (item_of f.value)) n) c.number.ensures in
    IfOk-equal c.push_number.result c.push_number.new.out.items _ _ c.push_number.ensures (wide ∙ held ∙ laid)
