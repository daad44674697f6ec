use Rattle.std.proofs.Common.{take, ap, ◌∙◌, arith}
use Rattle.byteorder.specs.Numbers.{length-bytes_low_first}
use Rattle.byteorder.proofs.Bytes.{take-bytes_low_first}
use Rattle.flat_builder.proofs.Numbers.{written}
use Rattle.flat_builder.proofs.bytes.set_number.Goals as goal

pub returns-clause-after : goal.returns-clause-after
returns-clause-after c =
    written c.args.out.now.items c.deref_mut.result.now c.copy_from_slice.new.self _ c.args.place c.args.width c.args.out.now.len
    c.deref_mut.ensures.value (omega arith) (omega arith)
    (c.copy_from_slice.ensures.after ∙ ap (take c.args.width) c.to_le_bytes.ensures ∙ take-bytes_low_first 0 8 c.args.width c.args.number c.requires.wide)
    (length-bytes_low_first 0 c.args.width c.args.number)
