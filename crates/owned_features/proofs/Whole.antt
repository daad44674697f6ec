-- A whole file that is read.
use Rattle.std.proofs.Common.{◌≡◌, ℕ, ◌+◌, ◌*◌, List, length, Option, Some, None, Result, Ok, Err, sym, ap, subst, ◌∙◌}
use Rattle.std.specs.Prelude.{IfOk, OnOk}
use Rattle.flat_layout.specs.declared.Broken.{Broken}
use Rattle.level_bounds.specs.Levels.{Shape, node_count}
use Rattle.fgb_outside.specs.Source.{Source}
use Rattle.fgb_outside.specs.Asked.{IsInside}
use Rattle.read_stop.specs.Asks.{AsksOnly}
use Rattle.read_stop.specs.Stops.{AtRefusal, IfRefused}
use Rattle.read_stop.specs.declared.stop.ReadStop.{ReadStop}
use Rattle.read_stop.proofs.Asking.{asks_weaken}
use Rattle.read_stop.proofs.Stopping.{refusal_map}
use Rattle.fgb_file.specs.File.{IsFile, IsOpen, IsValid, IsDeclared, first_place, header_end, of_features}
use Rattle.fgb_file.proofs.Opening.{open_same}
use Rattle.fgb_file.proofs.Passing.{file_sound}
use Rattle.fgb_check.specs.Verdicts.{IsFileOf, IsVerdict}
use Rattle.fgb_check.specs.declared.verdict.Verdict.{Verdict}
use Rattle.fgb_check.specs.declared.verdict.Verdict.TheVariants.{Accepted}

-- more is known of a result, and of a refusal
pub if_ok_map : {T E : Type 0} (r : Result T E) (P Q : T → Type 0) → ((x : T) → P x → Q x) → IfOk r P → IfOk r Q
if_ok_map (Ok x) P Q f p = f x p
if_ok_map (Err e) P Q f p = tt

pub refused_map : {T : Type 0} (r : Result T ReadStop) (P Q : Broken → Type 0) → ((e : Broken) → P e → Q e) → IfRefused r P → IfRefused r Q
refused_map (Ok x) P Q f p = tt
refused_map (Err stop) P Q f p = refusal_map stop P Q f p

-- whatever the result of the whole is
pub on_ok : {T E : Type 0} (r : Result T E) (P : Type 0) → P → OnOk r P
on_ok (Ok x) P p = p
on_ok (Err e) P p = tt

-- a file that was accepted breaks no rule
pub accepted_valid : (image : List ℕ) (verdict : Verdict) (features nodes : ℕ) → verdict ≡ Accepted features nodes → IsVerdict image verdict → IsValid image
accepted_valid image verdict features nodes is judged =
    let file : IsFileOf image features nodes = subst (IsVerdict image) is judged in
    file_sound image file.file.file

-- the index of a file ends where the first feature stands
pub first_behind : (image : List ℕ) (index : Option Shape) (pieces : List (List ℕ)) (place nodes : ℕ) (t : Shape) → IsFile image index pieces → place ≡ header_end image
    → IsOpen image (Some t) → nodes ≡ node_count t → place + 40 * nodes ≡ first_place image index
first_behind image index pieces place nodes t is behind opened counted =
    let same : Some t ≡ index = open_same image opened is.opened in
    ap (λ n. place + 40 * n) counted ∙ ap (λ n. n + 40 * node_count t) behind ∙ ap (first_place image) same

pub first_without : (image : List ℕ) (index : Option Shape) (pieces : List (List ℕ)) (place : ℕ) → IsFile image index pieces → place ≡ header_end image → IsOpen image None → place ≡ first_place image index
first_without image index pieces place is behind opened = let same : None ≡ index = open_same image opened is.opened in behind ∙ ap (first_place image) same

-- what is asked for between the first feature and the end may be asked for
pub declared_behind : (image : List ℕ) (index : Option Shape) (first end : ℕ) {s s' : Source} → IsOpen image index → first ≡ first_place image index → end ≡ length image
    → AsksOnly (IsInside first end) s s' → AsksOnly (IsDeclared image) s s'
declared_behind image index first end {s = s} {s' = s'} opened begins ends asks =
    asks_weaken (IsInside (first_place image index) (length image)) (IsDeclared image) (λ pair inside. of_features opened inside)
    (subst (λ n. AsksOnly (IsInside (first_place image index) n) s s') ends (subst (λ n. AsksOnly (IsInside n end) s s') begins asks))
