use Rattle.std.proofs.Common.{ℕ, ◌+◌, ◌*◌, subst, ap, ◌∙◌, arith}
use Rattle.std.specs.Int.{next_multiple_of}
use Rattle.flat_builder.specs.Laying.{round_up}
use Rattle.flat_builder.specs.Blanks.{EndsAt}
use Rattle.flat_builder.proofs.Lengths.{round_up_le}
use Rattle.flat_builder.proofs.measure.padded_end.Goals as goal

pub returns-in_err-items_end : goal.returns-in_err-items_end
returns-in_err-items_end c =
    rw c.from_residual.ensures (omega (arith, c.in_err-items_end.ensures, round_up_le 4 (c.args.start + c.args.width * c.args.count)))

pub returns : goal.returns
unfolding round_up
returns c =
    let Ends : ℕ → Type 0 = λ n. EndsAt c.args.limit n c.within.result in
    subst Ends (c.next_multiple_of.ensures.value ∙ ap (λ n. next_multiple_of n 4) c.in_ok-items_end.ensures.0) c.within.ensures
