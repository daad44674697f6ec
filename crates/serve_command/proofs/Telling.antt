-- What is left where connections were served, and their line was written or not.
use Rattle.std.proofs.Common.{◌≡◌, inl, inr, ℕ, List, Result, Ok, Err, IsErrAnd, refl, sym, subst}
use Rattle.fgb_outside.specs.Sink.{Sink, Writes}
use Rattle.fgb_outside.specs.declared.sinks.SinkError.{SinkError}
use Rattle.fgb_outside.specs.declared.sinks.SinkError.TheVariants as sink
use Rattle.fgb_outside.proofs.Shown.{appends_part}
use Rattle.byte_links.specs.Accept.{AcceptState}
use Rattle.range_server.specs.declared.receipts.Receipt.{Receipt}
use Rattle.range_serving.specs.declared.refusals.ServingError.{ServingError}
use Rattle.range_serving.specs.declared.refusals.ServingError.TheVariants as serving
use Rattle.range_serving.specs.Serving.{ServesConnections}
use Rattle.command_words.specs.Causes.{IsSinkCause}
use Rattle.command_words.specs.declared.stop.Stop.{Stop}
use Rattle.serve_command.specs.Runs.{AllServed, ServesAndTells, line_of, stop_of, unwritten}
use Rattle.serve_command.specs.Texts.{served_text}

module _ {image : List ℕ} {count : ℕ} {a a' : AcceptState} where
  -- not all were served
  stopped : {U : Type 0} (o : Sink) (error : ServingError) → ServesConnections image count a a' (Err error) → ServesAndTells {T = U} image count a a' o o (Err (stop_of error))
  stopped o serving.AcceptFailed s = record {
    entries = s.entries;
    ended = s.ended;
    fronts = s.fronts;
    within = s.within;
    done = tt;
    part = unwritten refl;
    accept_failed = λ _. (refl, s.failed refl);
    sink_failed = λ e. cc;
    memory = λ e. cc;
    never_refused = tt;
    never_large = λ e. cc;
  }
  stopped o serving.Memory s = record {
    entries = s.entries;
    ended = s.ended;
    fronts = s.fronts;
    within = s.within;
    done = tt;
    part = unwritten refl;
    accept_failed = λ e. cc;
    sink_failed = λ e. cc;
    memory = λ _. inl refl;
    never_refused = tt;
    never_large = λ e. cc;
  }

  pub unserved : {U : Type 0} {o : Sink} {error : ServingError} (r : Result U Stop) → r ≡ Err (stop_of error) → ServesConnections image count a a' (Err error)
      → ServesAndTells image count a a' o o r
  unserved {o = o} {error = error} r is s = subst (ServesAndTells image count a a' o o) (sym is) (stopped o error s)

  all_served : {receipt : Receipt} (s : ServesConnections image count a a' (Ok receipt)) → AllServed image count s.entries receipt
  all_served s = record { counted = s.ok.0; served = s.ok.1; sums = s.ok.2 }

  -- all were served, and their line was written
  pub told : {T U : Type 0} {o o' : Sink} {receipt : Receipt} {x : T} {u : U} (r : Result U Stop) → r ≡ Ok u → ServesConnections image count a a' (Ok receipt)
      → Writes o o' (served_text count receipt) (Ok x) → ServesAndTells image count a a' o o' r
  told {o = o} {o' = o'} {receipt = receipt} r is s w = subst (ServesAndTells image count a a' o o') (sym is) (record {
    entries = s.entries;
    ended = s.ended;
    fronts = s.fronts;
    within = s.within;
    done = record { receipt = receipt; all = all_served s; written = w.written };
    part = line_of (all_served s) (appends_part o o' (served_text count receipt) w.written);
    accept_failed = λ e. cc;
    sink_failed = λ e. cc;
    memory = λ e. cc;
    never_refused = tt;
    never_large = λ e. cc;
  })

  -- all were served, and their line was not written whole
  pub untold : {T U : Type 0} {o o' : Sink} {receipt : Receipt} {error : SinkError} (r : Result U Stop) → IsErrAnd r (IsSinkCause error)
      → ServesConnections image count a a' (Ok receipt) → Writes {T = T} o o' (served_text count receipt) (Err error) → ServesAndTells image count a a' o o' r
  untold (Ok u) is s w = absurd is
  untold {U = U} {o = o} {o' = o'} {error = sink.Failed} (Err stop) is s w = subst (λ t. ServesAndTells {T = U} image count a a' o o' (Err t)) (sym is) (record {
    entries = s.entries;
    ended = s.ended;
    fronts = s.fronts;
    within = s.within;
    done = tt;
    part = line_of (all_served s) w.part;
    accept_failed = λ e. cc;
    sink_failed = λ _. w.failed refl;
    memory = λ e. cc;
    never_refused = tt;
    never_large = λ e. cc;
  })
  untold {U = U} {o = o} {o' = o'} {error = sink.Memory} (Err stop) is s w = subst (λ t. ServesAndTells {T = U} image count a a' o o' (Err t)) (sym is) (record {
    entries = s.entries;
    ended = s.ended;
    fronts = s.fronts;
    within = s.within;
    done = tt;
    part = line_of (all_served s) w.part;
    accept_failed = λ e. cc;
    sink_failed = λ e. cc;
    memory = λ _. inr (w.wanted refl);
    never_refused = tt;
    never_large = λ e. cc;
  })
