-- What each status says of the result that it is of.
use Rattle.std.proofs.Common.{◌≡◌, ◌≢◌, ◌⊎◌, inl, inr, ℕ, Result, Ok, Err, IsErrOf, refl, arith}
use Rattle.std.specs.Prelude.{OnOk}
use Rattle.flat_layout.specs.declared.Broken.{Broken}
use Rattle.fgb_outside.specs.Sink.{Sink}
use Rattle.command_words.specs.Statuses.{IsStatus, IfRefused}
use Rattle.command_words.specs.Texts.{Tells, refusal_text, source_text, sink_text, memory_text, too_large_text}
use Rattle.command_words.specs.declared.stop.Stop.{Stop}
use Rattle.command_words.specs.declared.stop.Stop.TheVariants.{Refused, SourceFailed, SinkFailed, Memory, TooLarge}

module _ {T : Type 0} (e e' : Sink) (status : ℕ) where
  pub statuses : (r : Result T Stop) → IsStatus r e e' status → (status ≡ 0) ⊎ (status ≡ 1) ⊎ (status ≡ 3) ⊎ (status ≡ 4) ⊎ (status ≡ 5) ⊎ (status ≡ 6)
  statuses (Ok done) is = inl is.0
  statuses (Err (Refused broken)) is = inr (inl is.0)
  statuses (Err SourceFailed) is = inr (inr (inl is.0))
  statuses (Err SinkFailed) is = inr (inr (inr (inl is.0)))
  statuses (Err Memory) is = inr (inr (inr (inr (inl is.0))))
  statuses (Err TooLarge) is = inr (inr (inr (inr (inr is.0))))

  -- of work that can't be too large
  pub statuses_of_small : (r : Result T Stop) → r ≢ Err TooLarge → IsStatus r e e' status → (status ≡ 0) ⊎ (status ≡ 1) ⊎ (status ≡ 3) ⊎ (status ≡ 4) ⊎ (status ≡ 5)
  statuses_of_small (Ok done) never is = inl is.0
  statuses_of_small (Err (Refused broken)) never is = inr (inl is.0)
  statuses_of_small (Err SourceFailed) never is = inr (inr (inl is.0))
  statuses_of_small (Err SinkFailed) never is = inr (inr (inr (inl is.0)))
  statuses_of_small (Err Memory) never is = inr (inr (inr (inr is.0)))
  statuses_of_small (Err TooLarge) never is = absurd (never refl)

  -- no result has the status of wrong words
  pub not_usage : (r : Result T Stop) → IsStatus r e e' status → status ≢ 2
  not_usage (Ok done) is usage = omega (arith, is.0, usage)
  not_usage (Err (Refused broken)) is usage = omega (arith, is.0, usage)
  not_usage (Err SourceFailed) is usage = omega (arith, is.0, usage)
  not_usage (Err SinkFailed) is usage = omega (arith, is.0, usage)
  not_usage (Err Memory) is usage = omega (arith, is.0, usage)
  not_usage (Err TooLarge) is usage = omega (arith, is.0, usage)

  pub at_done : (r : Result T Stop) (P : Type 0) → IsStatus r e e' status → OnOk r P → status ≡ 0 → P × (e' ≡ e)
  at_done (Ok done) P is p zero = (p, is.1)
  at_done (Err (Refused broken)) P is p zero = absurd (omega (arith, is.0, zero))
  at_done (Err SourceFailed) P is p zero = absurd (omega (arith, is.0, zero))
  at_done (Err SinkFailed) P is p zero = absurd (omega (arith, is.0, zero))
  at_done (Err Memory) P is p zero = absurd (omega (arith, is.0, zero))
  at_done (Err TooLarge) P is p zero = absurd (omega (arith, is.0, zero))

  pub at_refused : (r : Result T Stop) (P : Broken → Type 0) → IsStatus r e e' status → IfRefused r P → status ≡ 1 → (broken : Broken) × Tells e e' (refusal_text broken) × P broken
  at_refused (Ok done) P is p one = absurd (omega (arith, is.0, one))
  at_refused (Err (Refused broken)) P is p one = (broken, is.1, p)
  at_refused (Err SourceFailed) P is p one = absurd (omega (arith, is.0, one))
  at_refused (Err SinkFailed) P is p one = absurd (omega (arith, is.0, one))
  at_refused (Err Memory) P is p one = absurd (omega (arith, is.0, one))
  at_refused (Err TooLarge) P is p one = absurd (omega (arith, is.0, one))

  pub at_source : (r : Result T Stop) → IsStatus r e e' status → status ≡ 3 → IsErrOf r SourceFailed × Tells e e' source_text
  at_source (Ok done) is three = absurd (omega (arith, is.0, three))
  at_source (Err (Refused broken)) is three = absurd (omega (arith, is.0, three))
  at_source (Err SourceFailed) is three = (refl, is.1)
  at_source (Err SinkFailed) is three = absurd (omega (arith, is.0, three))
  at_source (Err Memory) is three = absurd (omega (arith, is.0, three))
  at_source (Err TooLarge) is three = absurd (omega (arith, is.0, three))

  pub at_sink : (r : Result T Stop) → IsStatus r e e' status → status ≡ 4 → IsErrOf r SinkFailed × Tells e e' sink_text
  at_sink (Ok done) is four = absurd (omega (arith, is.0, four))
  at_sink (Err (Refused broken)) is four = absurd (omega (arith, is.0, four))
  at_sink (Err SourceFailed) is four = absurd (omega (arith, is.0, four))
  at_sink (Err SinkFailed) is four = (refl, is.1)
  at_sink (Err Memory) is four = absurd (omega (arith, is.0, four))
  at_sink (Err TooLarge) is four = absurd (omega (arith, is.0, four))

  pub at_memory : (r : Result T Stop) → IsStatus r e e' status → status ≡ 5 → Tells e e' memory_text
  at_memory (Ok done) is five = absurd (omega (arith, is.0, five))
  at_memory (Err (Refused broken)) is five = absurd (omega (arith, is.0, five))
  at_memory (Err SourceFailed) is five = absurd (omega (arith, is.0, five))
  at_memory (Err SinkFailed) is five = absurd (omega (arith, is.0, five))
  at_memory (Err Memory) is five = is.1
  at_memory (Err TooLarge) is five = absurd (omega (arith, is.0, five))

  pub at_large : (r : Result T Stop) → IsStatus r e e' status → status ≡ 6 → (r ≡ Err TooLarge) × Tells e e' too_large_text
  at_large (Ok done) is six = absurd (omega (arith, is.0, six))
  at_large (Err (Refused broken)) is six = absurd (omega (arith, is.0, six))
  at_large (Err SourceFailed) is six = absurd (omega (arith, is.0, six))
  at_large (Err SinkFailed) is six = absurd (omega (arith, is.0, six))
  at_large (Err Memory) is six = absurd (omega (arith, is.0, six))
  at_large (Err TooLarge) is six = (refl, is.1)

  -- where neither source nor sink failed, all is done, or refused, or there was no memory, or it would be too large
  pub unfailed : (r : Result T Stop) → IsStatus r e e' status → (IsErrOf r SourceFailed → ⊥) → (IsErrOf r SinkFailed → ⊥) → (status ≡ 0) ⊎ (status ≡ 1) ⊎ (status ≡ 5) ⊎ (status ≡ 6)
  unfailed (Ok done) is source sink = inl is.0
  unfailed (Err (Refused broken)) is source sink = inr (inl is.0)
  unfailed (Err SourceFailed) is source sink = absurd (source refl)
  unfailed (Err SinkFailed) is source sink = absurd (sink refl)
  unfailed (Err Memory) is source sink = inr (inr (inl is.0))
  unfailed (Err TooLarge) is source sink = inr (inr (inr is.0))
