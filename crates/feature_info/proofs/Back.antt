-- What holds of the bytes that are laid for a feature holds of a buffer of them.
use Rattle.std.proofs.Common.{◌≡◌, ℕ, ◌<◌, ◌≤◌, ◌^◌, List, length, Result, Ok, Err, IfOk, OnOk, Vec, Global, ap, sym, subst, ◌∙◌, arith}
use Rattle.flat_builder.specs.Trees.{Fields}
use Rattle.flat_builder.specs.Laying.{laid}
use Rattle.fgb_schema.specs.Features.{Feature}
use Rattle.feature_tables.specs.Laying.{feature_table}

pub of_buffer : {E : Type 0} (P : List ℕ → Type 0) (r : Result (Vec ℕ Global) E) (t : Fields) (f : Feature) → t ≡ feature_table f
    → IfOk r (λ buffer. buffer.items ≡ laid t) → OnOk r (length (laid t) ≤ 268435456) → (length (laid (feature_table f)) < 2 ^ 31 → P (laid (feature_table f)))
    → IfOk r (λ buffer. P buffer.items)
of_buffer P (Ok buffer) t f is same within holds =
    let few : length (laid (feature_table f)) ≤ 268435456 = subst (λ fs. length (laid fs) ≤ 268435456) is within in
    subst P (sym (same ∙ ap laid is)) (holds (omega arith))
of_buffer P (Err e) t f is same within holds = tt
