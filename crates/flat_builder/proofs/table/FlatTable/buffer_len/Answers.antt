use Rattle.std.proofs.Common.{ℕ, refl, subst, arith}
use Rattle.flat_builder.specs.Blanks.{EndsAt}
use Rattle.flat_builder.proofs.Lengths.{laid_end}
use Rattle.flat_builder.proofs.table.FlatTable.buffer_len.Goals as goal

pub returns-in_err-within : goal.returns-in_err-within
returns-in_err-within c =
    rw c.from_residual.ensures (omega (arith, c.in_err-within.ensures, laid_end c.args.self.now 4 refl))

pub returns : goal.returns
returns c =
    let Ends : ℕ → Type 0 = λ n. EndsAt c.args.limit n c.end.result in
    subst Ends (laid_end c.args.self.now c.in_ok-within.field-0 c.in_ok-within.ensures.0) c.end.ensures
