use Rattle.std.proofs.Common.{◌≡◌, ◌<◌, ◌≤◌, length, Result, Ok, Err, ap, sym, subst, ◌∙◌}
use Rattle.std.specs.Prelude.{IfOk, OnOk}
use Rattle.flat_builder.specs.Laying.{laid}
use Rattle.header_tables.specs.Laying.{header_table}
use Rattle.fgb_schema.specs.Headers.{Header}
use Rattle.text_query.specs.Texts.{found_head}
use Rattle.text_query.proofs.front.found_header.Goals as goal

-- the header that is laid is that of the found features
head_is : (shown told : Header) → told ≡ record shown { features_count = 0; node_size = 0 } → laid (header_table told) ≡ found_head shown
unfolding found_head
head_is shown told is = ap (λ h. laid (header_table h)) is

if_ok : {T E : Type 0} (r : Result T E) (P Q : T → Type 0) → ((x : T) → P x → Q x) → IfOk r P → IfOk r Q
if_ok (Ok x) P Q f p = f x p
if_ok (Err e) P Q f p = tt

if_both : {T E : Type 0} (r : Result T E) (P Q : T → Type 0) (R : Type 0) → ((x : T) → P x → R → Q x) → IfOk r P → OnOk r R → IfOk r Q
if_both (Ok x) P Q R f p q = f x p q
if_both (Err e) P Q R f p q = tt

pub returns-clause-ok : goal.returns-clause-ok
returns-clause-ok c = if_ok c.to_bytes.result _ _
    (λ bytes is. is ∙ head_is _ _ c.in_ok-info.ensures) c.to_bytes.ensures.ok

pub returns-clause-within : goal.returns-clause-within
returns-clause-within c = if_both c.to_bytes.result _ _ _ (λ bytes is within. subst (λ b. length b ≤ 10485760) (sym is) within) c.to_bytes.ensures.ok c.to_bytes.ensures.within

pub returns-clause-too_large : goal.returns-clause-too_large
returns-clause-too_large c = λ is. subst (λ bytes. 10485760 < length bytes) (head_is _ _ c.in_ok-info.ensures) (c.to_bytes.ensures.too_large is)
