use Rattle.std.proofs.Common.{take, ap, ◌∙◌, arith}
use Rattle.byteorder.proofs.Bytes.{take-bytes_low_first}
use Rattle.flat_builder.proofs.Numbers.{appended}
use Rattle.feature_info.proofs.bytes.push_count.Goals as goal

pub returns : goal.returns
returns c =
    appended c.extend_from_slice.result _ _ _ _ c.extend_from_slice.ensures.items
    (ap (take 4) c.to_le_bytes.ensures ∙ take-bytes_low_first 0 8 4 c.args.count (omega arith))
