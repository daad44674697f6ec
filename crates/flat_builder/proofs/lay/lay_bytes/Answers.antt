use Rattle.std.proofs.Common.{sym, arith}
use Rattle.flat_builder.proofs.Numbers.{appended}
use Rattle.flat_builder.proofs.Pieces.{bytes_laid}
use Rattle.flat_builder.proofs.lay.lay_bytes.Goals as goal

pub returns : goal.returns
returns c = appended c.extend_from_slice.result _ _ _ _ c.extend_from_slice.ensures.items (sym (bytes_laid c.args.items.now (λ i. omega (arith, c.type_inv.items i))))
