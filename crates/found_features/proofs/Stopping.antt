-- What a `?` stops a query with.
use Rattle.std.proofs.Common.{Result, Ok, Err, IsErrAnd, sym, subst}
use Rattle.std.specs.Prelude.{OnOk, IfErr}
use Rattle.flat_layout.specs.declared.Broken.{Broken}
use Rattle.read_stop.specs.Stops.{AtRefusal as AtReadRefusal}
use Rattle.read_stop.specs.declared.stop.ReadStop.{ReadStop}
use Rattle.read_stop.specs.declared.stop.ReadStop.TheVariants as read_stop
use Rattle.found_features.specs.Stops.{AtRefusal, IfRefused, IsReadCause, IsVisitCause}
use Rattle.found_features.specs.declared.stop.QueryError.{QueryError}
use Rattle.found_features.specs.declared.stop.QueryError.TheVariants.{Refused, SourceFailed, VisitorStopped, Memory}
use Rattle.found_features.specs.declared.visitor.VisitError.{VisitError}
use Rattle.found_features.specs.declared.visitor.VisitError.TheVariants as visit_error

-- the exit of the `?` of an error of another type
pub exit_cause : {T E : Type 0} (Cause : E → QueryError → Type 0) (r : Result T QueryError) (e : E) (Q : QueryError → Type 0) → IsErrAnd r (Cause e) → ((stop : QueryError) → Cause e stop → Q stop) → IfErr r Q
exit_cause Cause (Ok x) e Q is q = tt
exit_cause Cause (Err stop) e Q is q = q stop is

pub refusal_map : (stop : QueryError) (P Q : Broken → Type 0) → ((b : Broken) → P b → Q b) → AtRefusal stop P → AtRefusal stop Q
refusal_map (Refused b) P Q f p = f b p
refusal_map SourceFailed P Q f p = tt
refusal_map VisitorStopped P Q f p = tt
refusal_map Memory P Q f p = tt

-- more is known of what is done, and of a refusal
pub on_ok_map : {T E : Type 0} (r : Result T E) (P Q : Type 0) → (P → Q) → OnOk r P → OnOk r Q
on_ok_map (Ok x) P Q f p = f p
on_ok_map (Err e) P Q f p = tt

pub refused_map : {T : Type 0} (r : Result T QueryError) (P Q : Broken → Type 0) → ((b : Broken) → P b → Q b) → IfRefused r P → IfRefused r Q
refused_map (Ok x) P Q f p = tt
refused_map (Err stop) P Q f p = refusal_map stop P Q f p

-- a refusal is passed on, where it says as much
pub refusal_passed : (e : ReadStop) (stop : QueryError) (P Q : Broken → Type 0) → ((b : Broken) → P b → Q b) → IsReadCause e stop → AtReadRefusal e P → AtRefusal stop Q
refusal_passed (read_stop.Refused b) stop P Q f cause p = subst (λ s. AtRefusal s Q) (sym cause) (f b p)
refusal_passed read_stop.SourceFailed stop P Q f cause p = subst (λ s. AtRefusal s Q) (sym cause) tt
refusal_passed read_stop.Memory stop P Q f cause p = subst (λ s. AtRefusal s Q) (sym cause) tt

-- a visitor's error is no refusal
pub visit_unrefused : (e : VisitError) (stop : QueryError) (Q : Broken → Type 0) → IsVisitCause e stop → AtRefusal stop Q
visit_unrefused visit_error.Stopped stop Q cause = subst (λ s. AtRefusal s Q) (sym cause) tt
visit_unrefused visit_error.Memory stop Q cause = subst (λ s. AtRefusal s Q) (sym cause) tt
