use Rattle.std.proofs.Common.{◌≡◌, ℕ, ◌-◌, ◌++◌, length, replicate, OnOk, subst, ap, ◌∙◌, arith}
use Rattle.std.specs.Int.{next_multiple_of}
use Rattle.flat_builder.specs.Laying.{filling, round_up}
use Rattle.flat_builder.proofs.bytes.fill.Goals as goal

pub returns : goal.returns
unfolding filling round_up
returns c =
    let len : c.len-len.result ≡ length c.args.out.now.items = omega arith in
    let Filled : ℕ → Type 0 = λ n. OnOk c.push_zeros.result (c.push_zeros.new.out.items ≡ c.args.out.now.items ++ replicate n 0) in
    subst Filled (ap (λ n. n - c.len-len.result) c.next_multiple_of.ensures.value ∙ ap (λ n. next_multiple_of n c.args.multiple - n) len) c.push_zeros.ensures
