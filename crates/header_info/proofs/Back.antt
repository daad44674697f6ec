-- What holds of the bytes that are laid for a header holds of a buffer of them.
use Rattle.std.proofs.Common.{◌≡◌, ℕ, ◌<◌, ◌≤◌, ◌^◌, List, length, Result, Ok, Err, IfOk, OnOk, Vec, Global, ap, sym, subst, ◌∙◌, arith}
use Rattle.flat_builder.specs.Trees.{Fields}
use Rattle.flat_builder.specs.Laying.{laid}
use Rattle.fgb_schema.specs.Headers.{Header}
use Rattle.header_tables.specs.Laying.{header_table}

pub of_buffer : {E : Type 0} (P : List ℕ → Type 0) (r : Result (Vec ℕ Global) E) (t : Fields) (h : Header) → t ≡ header_table h
    → IfOk r (λ buffer. buffer.items ≡ laid t) → OnOk r (length (laid t) ≤ 10485760) → (length (laid (header_table h)) < 2 ^ 31 → P (laid (header_table h)))
    → IfOk r (λ buffer. P buffer.items)
of_buffer P (Ok buffer) t h is same within holds =
    let few : length (laid (header_table h)) ≤ 10485760 = subst (λ fs. length (laid fs) ≤ 10485760) is within in
    subst P (sym (same ∙ ap laid is)) (holds (omega arith))
of_buffer P (Err e) t h is same within holds = tt
