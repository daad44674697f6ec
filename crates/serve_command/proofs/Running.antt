-- What a run promises, by the status of what its serving left.
use Rattle.std.proofs.Common.{◌≡◌, ◌≢◌, ◌⊎◌, inl, inr, ℕ, List, Result, Ok, Err, IsErrOf, refl, subst, arith}
use Rattle.fgb_outside.specs.Sink.{Sink}
use Rattle.byte_links.specs.Accept.{AcceptState}
use Rattle.command_words.specs.Requests.{Asks, IsServe, IsUsageOf, check, convert, make, pack, query, report, serve}
use Rattle.command_words.specs.Statuses.{IfRefused, IsStatus}
use Rattle.command_words.specs.declared.stop.Stop.{Stop}
use Rattle.command_words.specs.declared.stop.Stop.TheVariants.{Refused, SourceFailed, SinkFailed, Memory, TooLarge}
use Rattle.command_words.proofs.Meanings.{at_done, at_memory, at_sink, at_source, not_usage}
use Rattle.serve_command.specs.Runs.{ServesAndTells, ServesRun}

-- words that do not ask to serve
pub not_asked : {words : List (List ℕ)} → ((name : List ℕ) (port connections : ℕ) → Asks words (serve name port connections) → ⊥) → IsUsageOf IsServe words
not_asked none (query input boxes gap condition output) asks is = is
not_asked none (check input) asks is = is
not_asked none (pack input node_size) asks is = is
not_asked none (convert input from to) asks is = is
not_asked none (make count start) asks is = is
not_asked none (report input boxes gap) asks is = is
not_asked none (serve name port connections) asks is = none name port connections asks

-- requests to serve that are the same
pub same_connections : {name other : List ℕ} {port gate connections count : ℕ} → serve name port connections ≡ serve other gate count → connections ≡ count
same_connections e = cc

-- no count rose
done_or_memory : {status : ℕ} → (status ≢ 3) → (status ≢ 4) → (status ≡ 0) ⊎ (status ≡ 3) ⊎ (status ≡ 4) ⊎ (status ≡ 5) → (status ≡ 0) ⊎ (status ≡ 5)
done_or_memory source sink (inl zero) = inl zero
done_or_memory source sink (inr (inl three)) = absurd (source three)
done_or_memory source sink (inr (inr (inl four))) = absurd (sink four)
done_or_memory source sink (inr (inr (inr five))) = inr five

module _ {T : Type 0} (e e' : Sink) (status : ℕ) where
  -- serving has four statuses
  served_statuses : (r : Result T Stop) → IfRefused r (λ _. ⊥) → r ≢ Err TooLarge → IsStatus r e e' status → (status ≡ 0) ⊎ (status ≡ 3) ⊎ (status ≡ 4) ⊎ (status ≡ 5)
  served_statuses (Ok done) never small is = inl is.0
  served_statuses (Err (Refused broken)) never small is = absurd never
  served_statuses (Err SourceFailed) never small is = inr (inl is.0)
  served_statuses (Err SinkFailed) never small is = inr (inr (inl is.0))
  served_statuses (Err Memory) never small is = inr (inr (inr is.0))
  served_statuses (Err TooLarge) never small is = absurd (small refl)

  of_memory : (r : Result T Stop) → IsStatus r e e' status → status ≡ 5 → IsErrOf r Memory
  of_memory (Ok done) is five = absurd (omega (arith, is.0, five))
  of_memory (Err (Refused broken)) is five = absurd (omega (arith, is.0, five))
  of_memory (Err SourceFailed) is five = absurd (omega (arith, is.0, five))
  of_memory (Err SinkFailed) is five = absurd (omega (arith, is.0, five))
  of_memory (Err Memory) is five = refl
  of_memory (Err TooLarge) is five = absurd (omega (arith, is.0, five))

  serves : {image : List ℕ} {count : ℕ} {a a' : AcceptState} {o o' : Sink} (r : Result T Stop) → ServesAndTells image count a a' o o' r → IsStatus r e e' status
      → ServesRun image count a a' o o' e e' status
  serves r s is =
      let statuses = served_statuses r s.never_refused s.never_large is in
      record {
        entries = s.entries;
        ended = s.ended;
        fronts = s.fronts;
        within = s.within;
        done = λ zero. (at_done e e' status r _ is s.done zero).0;
        quiet = λ zero. (at_done e e' status r _ is s.done zero).1;
        accept_failed = λ three. let failed = at_source e e' status r is three in let left = s.accept_failed failed.0 in (left.0, left.1, failed.1);
        sink_failed = λ four. let failed = at_sink e e' status r is four in (s.sink_failed failed.0, failed.1);
        memory = λ five. (s.memory (of_memory r is five), at_memory e e' status r is five);
        statuses = statuses;
        part = s.part;
        unfailed = λ source sink.
            done_or_memory (λ three. source (s.accept_failed (at_source e e' status r is three).0).1) (λ four. sink (s.sink_failed (at_sink e e' status r is four).0)) statuses;
      }

  pub runs : {image : List ℕ} {asked count : ℕ} {a a' : AcceptState} {o o' : Sink} (r : Result T Stop) → asked ≡ count → ServesAndTells image asked a a' o o' r
      → IsStatus r e e' status → (status ≢ 2) × ServesRun image count a a' o o' e e' status
  runs {image = image} {a = a} {a' = a'} {o = o} {o' = o'} r same s is =
      (not_usage e e' status r is, serves r (subst (λ n. ServesAndTells image n a a' o o' r) same s) is)
