-- What a client is after a read.
use Rattle.std.proofs.Common.{◌≡◌, ℕ, ◌+◌, ◌-◌, ◌<◌, ◌≤◌, Bool, true, false, List, [], ◌∷◌, ◌++◌, length, take, refl, sym, ap, subst, ◌∙◌, arith, Option, Some, None, Ok, Err}
use Rattle.std.specs.Prelude.{if◌then◌else◌, Result, IsErrOf, IsSome, OnOk, is_err, slice_range}
use Rattle.std.proofs.lemmas.List.{length-take, take_all}
use Rattle.fgb_outside.specs.declared.sources.SourceError.{SourceError}
use Rattle.fgb_outside.specs.declared.sources.SourceError.TheVariants as source
use Rattle.fgb_outside.specs.Source.{IfTold, ReadsAt, Source, added}
use Rattle.fgb_outside.proofs.Shown.{added-told}
use Rattle.byte_links.specs.Exchange.{most_asks}
use Rattle.byte_links.specs.Link.{IfServes, LinkState}
use Rattle.range_client.specs.declared.demands.Demand.TheVariants.{Part}
use Rattle.range_client.specs.declared.faults.Fault.{Fault}
use Rattle.range_client.specs.declared.faults.Fault.TheVariants.{Memory}
use Rattle.range_client.specs.Faults.{source_error}
use Rattle.range_client.specs.Requests.{request}
use Rattle.range_client.specs.Exchanges.{Broke, Exchanged}
use Rattle.range_client.specs.Client.{IsInStep, IsSound}
use Rattle.range_client.proofs.Clients.{is_ask}
use Rattle.range_client.proofs.Honest.{Honestly, IsFor, broke_honest, exchanged_honest}

-- a client that is spent is in no step
pub sound_spent : (old new : LinkState) (path : List ℕ) (size : ℕ) (spent now : Option SourceError) (error : SourceError) → IsSound old path size spent
    → new.image ≡ old.image → now ≡ Some error → IsSound new path size now
sound_spent old new path size spent now error sound same is = record {
  small = sound.small;
  honest = λ image told.
      let h = sound.honest image (sym same ∙ told) in
      record { size_is = h.size_is; path_is = h.path_is; in_step = λ none. cc };
}

module _ (old new : LinkState) (path head : List ℕ) (size at len : ℕ) (sound : IsSound old path size None) (some : 0 < len) (inside : at + len ≤ size) where
  is_for : (image : List ℕ) → old.image ≡ Some image → IsFor (Part at (at + (len - 1)) size) image
  is_for image told = let h = sound.honest image told in (sym h.size_is, omega arith, omega arith)

  -- what was asked for, of the image that is served
  part_honest : (into : List ℕ) (learnt : ℕ) (x : Exchanged (Part at (at + (len - 1)) size) (request path at (at + (len - 1))) old new head into learnt) (image : List ℕ) (asks : ℕ)
      → old.image ≡ Some image → IsInStep old asks → Honestly (Part at (at + (len - 1)) size) image (take x.count into) learnt asks new
  part_honest into learnt x image asks told step =
      exchanged_honest (Part at (at + (len - 1)) size) (request path at (at + (len - 1))) old new head into learnt image asks x told (is_for image told)
      (is_ask old image path (Part at (at + (len - 1)) size) asks step (sound.honest image told).path_is (is_for image told))

  pub reads_in_step : (into : List ℕ) (learnt : ℕ) → Exchanged (Part at (at + (len - 1)) size) (request path at (at + (len - 1))) old new head into learnt
      → IfServes old (λ _. (asks : ℕ) → IsInStep old asks → IsInStep new (asks + 1))
  reads_in_step into learnt x = λ image told asks step. (part_honest into learnt x image asks told step).step

  pub reads_sound : (into : List ℕ) (learnt : ℕ) → Exchanged (Part at (at + (len - 1)) size) (request path at (at + (len - 1))) old new head into learnt → IsSound new path size None
  reads_sound into learnt x = record {
    small = sound.small;
    honest = λ image now.
        let told = sym x.keeps.image ∙ now in
        let h = sound.honest image told in
        let step = h.in_step refl in
        record { size_is = h.size_is; path_is = h.path_is; in_step = λ _. (step.0 + 1, (part_honest into learnt x image step.0 told step.1).step) };
  }

  -- the body is all of what is read
  whole : (into : List ℕ) (learnt : ℕ) → length into ≡ len → (x : Exchanged (Part at (at + (len - 1)) size) (request path at (at + (len - 1))) old new head into learnt)
      → take x.count into ≡ into
  whole into learnt same x =
      let count : length (take x.count into) ≡ at + (len - 1) - at + 1 = x.reply.good.wanted.count in
      take_all x.count into (omega (arith, count, length-take x.count into))

  pub reads_bytes : (into : List ℕ) (learnt : ℕ) → length into ≡ len → Exchanged (Part at (at + (len - 1)) size) (request path at (at + (len - 1))) old new head into learnt
      → IfServes old (λ image. into ≡ slice_range image at (at + length into))
  reads_bytes into learnt same x = λ image told.
      let step = (sound.honest image told).in_step refl in
      let end : at + (len - 1) + 1 ≡ at + length into = omega arith in
      sym (whole into learnt same x) ∙ (part_honest into learnt x image step.0 told step.1).body_is ∙ ap (slice_range image at) end

  -- a request that did not come through is no failure while there are asks left
  pub no_failure : (fault : Fault) → Broke (Part at (at + (len - 1)) size) (request path at (at + (len - 1))) old new head fault
      → IfServes old (λ _. (asks : ℕ) → IsInStep old asks → asks < most_asks → fault ≡ Memory)
  no_failure fault broke = λ image told asks step few.
      broke_honest (Part at (at + (len - 1)) size) (request path at (at + (len - 1))) old new head fault image asks broke told (is_for image told)
      (is_ask old image path (Part at (at + (len - 1)) size) asks step (sound.honest image told).path_is (is_for image told)) few

-- what a read that gave bytes says of a source
pub reads_at : {T : Type 0} {value : T} (old new : Source) (at : ℕ) (into : List ℕ) → new.image ≡ old.image → new.size ≡ old.size → old.faults ≤ new.faults
    → new.asked ≡ added old.asked ((at, length into) ∷ []) → IfTold old (λ image. into ≡ slice_range image at (at + length into)) → ReadsAt old new at into (Ok value)
reads_at old new at into image size later asked bytes = record {
  keeps = record { image = image; size = size; later = later; told = λ is. added-told old.asked ((at, length into) ∷ []) (subst (λ (a : Option (List (ℕ × ℕ))). IsSome a) asked is) };
  bytes = bytes;
  asked = asked;
  asked_failed = λ _. asked;
  asked_told = λ _. asked;
  failed = λ e. cc;
}

-- the list, with the pair at its end
pub noted : {T E : Type 0} (result : Result T E) (was now : Bool) (before after : List (ℕ × ℕ)) (pair : ℕ × ℕ) → is_err result ≡ false → OnOk result (now ≡ was)
    → (now ≡ true → (was ≡ true) × (after ≡ before ++ pair ∷ []))
    → (if now then Some after else None) ≡ added (if was then Some before else None) (pair ∷ [])
noted (Err e) was now before after pair fine ok told = cc
noted (Ok v) true true before after pair fine ok told = ap Some (told refl).1
noted (Ok v) true false before after pair fine ok told = cc
noted (Ok v) false true before after pair fine ok told = cc
noted (Ok v) false false before after pair fine ok told = refl

-- an answer after something that stopped a request is no failure where that was want of memory
pub fails_not : {T Few : Type 0} (P : Type 0) (result : Result T SourceError) (error : SourceError) (fault : Fault) → result ≡ Err error → error ≡ source_error fault
    → (Few → fault ≡ Memory) → (Few → ¬ IsErrOf result source.Failed) × OnOk result P
fails_not {T} P result error fault is same memory = (
  λ few failed. by_fault fault (memory few) (sym same ∙ error_of (sym is ∙ failed)),
  subst (λ (r : Result T SourceError). OnOk r P) (sym is) tt,
)
  where
    error_of : ◌≡◌ {A = Result T SourceError} (Err error) (Err source.Failed) → error ≡ source.Failed
    error_of e = cc

    by_fault : (f : Fault) → f ≡ Memory → source_error f ≡ source.Failed → ⊥
    by_fault f e failed = let m : source_error f ≡ source.Memory = ap source_error e in cc
