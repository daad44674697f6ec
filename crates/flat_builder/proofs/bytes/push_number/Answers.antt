use Rattle.std.proofs.Common.{take, ap, ◌∙◌}
use Rattle.byteorder.proofs.Bytes.{take-bytes_low_first}
use Rattle.flat_builder.proofs.Numbers.{appended}
use Rattle.flat_builder.proofs.bytes.push_number.Goals as goal

pub returns : goal.returns
returns c =
    appended c.extend_from_slice.result _ _ _ _ c.extend_from_slice.ensures.items
    (ap (take c.args.width) c.to_le_bytes.ensures ∙ take-bytes_low_first 0 8 c.args.width c.args.number c.requires)
