-- What a run promises, from what its making has left.
use Rattle.std.proofs.Common.{◌≡◌, ◌≢◌, ◌⊎◌, inl, inr, ℕ, Result, Ok, Err, OnOk, IsErrOf, subst}
use Rattle.std.specs.Prelude.{IfErr}
use Rattle.fgb_outside.specs.Source.{Source, Rose}
use Rattle.fgb_outside.specs.Sink.{Sink}
use Rattle.make_command.specs.Made.{WritesMade, WritesMadePart, IsFault}
use Rattle.command_words.specs.declared.stop.Stop.{Stop}
use Rattle.command_words.specs.declared.stop.Stop.TheVariants.{Refused, SourceFailed, SinkFailed, Memory, TooLarge}
use Rattle.command_words.specs.Statuses.{IsStatus}
use Rattle.command_words.specs.Requests.{Request, make}
use Rattle.command_words.proofs.Meanings.{not_usage, at_done, at_sink, at_memory}
use Rattle.fgb_tool.specs.Runs.{Makes, Does}

-- what a making leaves
pub record Made {T : Type 0} (count start : ℕ) (o o' : Sink) (result : Result T Stop) : Type 0 where
  pub done : OnOk result (WritesMade count start o o')
  pub part : WritesMadePart count start o o'
  pub own : IfErr result IsFault
  pub sink_failed : IsErrOf result SinkFailed → Rose o.faults o'.faults

module _ {T : Type 0} (e e' : Sink) (status : ℕ) where
  -- a making has three statuses
  made_statuses : (r : Result T Stop) → IfErr r IsFault → IsStatus r e e' status → (status ≡ 0) ⊎ (status ≡ 4) ⊎ (status ≡ 5)
  made_statuses (Ok done) own is = inl is.0
  made_statuses (Err (Refused broken)) own is = absurd own
  made_statuses (Err SourceFailed) own is = absurd own
  made_statuses (Err SinkFailed) own is = inr (inl is.0)
  made_statuses (Err Memory) own is = inr (inr is.0)
  made_statuses (Err TooLarge) own is = absurd own

-- without the second of three
done_or_memory : {A B C : Type 0} → (B → ⊥) → A ⊎ B ⊎ C → A ⊎ C
done_or_memory never (inl a) = inl a
done_or_memory never (inr (inl b)) = absurd (never b)
done_or_memory never (inr (inr c)) = inr c

module _ {T : Type 0} (s s' : Source) (o o' e e' : Sink) (status : ℕ) (r : Result T Stop) (is : IsStatus r e e' status) where
  makes : (count start : ℕ) → Made count start o o' r → s' ≡ s → Makes count start s s' o o' e e' status
  makes count start q same =
      let statuses = made_statuses e e' status r q.own is in
      record {
        done = λ zero. (at_done e e' status r _ is q.done zero).0;
        quiet = λ zero. (at_done e e' status r _ is q.done zero).1;
        sink_failed = λ four. let at = at_sink e e' status r is four in (q.sink_failed at.0, at.1);
        memory = at_memory e e' status r is;
        statuses = statuses;
        untouched = same;
        part = q.part;
        unfailed = λ sink. done_or_memory (λ four. sink (q.sink_failed (at_sink e e' status r is four).0)) statuses;
      }

  -- the promise at what the words ask for
  pub does_make : (count start : ℕ) (request : Request) → Made count start o o' r → s' ≡ s → make count start ≡ request → (status ≢ 2) × Does request s s' o o' e e' status
  does_make count start request q still same = (not_usage e e' status r is, subst (λ asked. Does asked s s' o o' e e' status) same (makes count start q still))
