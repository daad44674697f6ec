-- What a `?` of a refusal stops with.
use Rattle.std.proofs.Common.{◌≡◌, ℕ, List, Result, Ok, Err, IsErrAnd, sym, subst}
use Rattle.std.specs.Prelude.{OnErr}
use Rattle.fgb_outside.specs.Source.{Source, IfTold}
use Rattle.read_stop.proofs.Stopping.{on_err}
use Rattle.flat_layout.specs.declared.Broken.{Broken}
use Rattle.found_features.specs.Stops.{AtRefusal, IfRefused}
use Rattle.found_features.proofs.Stopping.{refusal_map}
use Rattle.found_features.specs.declared.stop.QueryError.{QueryError}
use Rattle.found_features.specs.declared.stop.QueryError.TheVariants.{Refused}

pub refused_exit : {T : Type 0} (r : Result T QueryError) (broken : Broken) (P : Broken → Type 0) → IsErrAnd r (λ stop. stop ≡ Refused broken) → P broken → IfRefused r P
refused_exit (Ok x) broken P is holds = tt
refused_exit (Err stop) broken P is holds = subst (λ s. AtRefusal s P) (sym is) holds

-- a stop is passed on, and more is known of the refusal
pub refused_map : {T : Type 0} (r : Result T QueryError) (stop : QueryError) (P Q : Broken → Type 0) → IsErrAnd r (λ s. s ≡ stop) → ((b : Broken) → P b → Q b) → AtRefusal stop P → IfRefused r Q
refused_map (Ok x) stop P Q is more holds = tt
refused_map (Err s) stop P Q is more holds = subst (λ e. AtRefusal e Q) (sym is) (refusal_map stop P Q more holds)

-- what is known of the bytes, where they are told, whatever the result of the whole is
pub on_err_told : {T E : Type 0} (r : Result T E) (s : Source) (P : List ℕ → Type 0) → IfTold s P → OnErr r (IfTold s P)
on_err_told r s P holds = on_err r (IfTold s P) holds
