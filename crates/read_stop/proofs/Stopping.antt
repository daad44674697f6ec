-- What a `?` stops reading with, and what is known whatever the result of the whole is.
use Rattle.std.proofs.Common.{◌≡◌, Result, Ok, Err, IsErrAnd, sym, subst}
use Rattle.std.specs.Prelude.{OnOk, OnErr}
use Rattle.flat_layout.specs.declared.Broken.{Broken}
use Rattle.read_stop.specs.Stops.{AtRefusal, IfRefused}
use Rattle.read_stop.specs.declared.stop.ReadStop.{ReadStop}
use Rattle.read_stop.specs.declared.stop.ReadStop.TheVariants.{Refused, SourceFailed, Memory}

-- the exit of the `?` of a refusal, and of a stop
pub refused_exit : {T : Type 0} (r : Result T ReadStop) (broken : Broken) (P : Broken → Type 0) → IsErrAnd r (λ stop. stop ≡ Refused broken) → P broken → IfRefused r P
refused_exit (Ok x) broken P is holds = tt
refused_exit (Err stop) broken P is holds = subst (λ s. AtRefusal s P) (sym is) holds

pub stop_exit : {T : Type 0} (r : Result T ReadStop) (stop : ReadStop) (P : Broken → Type 0) → IsErrAnd r (λ s. s ≡ stop) → AtRefusal stop P → IfRefused r P
stop_exit (Ok x) stop P is holds = tt
stop_exit (Err s) stop P is holds = subst (λ s. AtRefusal s P) (sym is) holds

-- more is known of the refusal
pub refusal_map : (stop : ReadStop) (P Q : Broken → Type 0) → ((e : Broken) → P e → Q e) → AtRefusal stop P → AtRefusal stop Q
refusal_map (Refused e) P Q f p = f e p
refusal_map SourceFailed P Q f p = tt
refusal_map Memory P Q f p = tt

-- whatever the result of the whole is
pub on_err : {T E : Type 0} (r : Result T E) (P : Type 0) → P → OnErr r P
on_err (Ok x) P p = tt
on_err (Err e) P p = p

pub on_err_map : {T E : Type 0} (r : Result T E) (P Q : Type 0) → (P → Q) → OnErr r P → OnErr r Q
on_err_map (Ok x) P Q f p = tt
on_err_map (Err e) P Q f p = f p

-- two facts make a third
pub on_ok_both : {T E : Type 0} (r : Result T E) (P Q R : Type 0) → (P → Q → R) → OnOk r P → OnOk r Q → OnOk r R
on_ok_both (Ok x) P Q R f p q = f p q
on_ok_both (Err e) P Q R f p q = tt
