-- Connections, one after another.
use Rattle.std.proofs.Common.{◌≡◌, ℕ, ◌+◌, ◌≤◌, ◌<◌, List, [], ◌∷◌, ◌++◌, length, Option, Some, None, Result, Ok, Err, refl, sym, ap, ◌∙◌, subst, arith}
use Rattle.std.specs.Prelude.{IsSome, is_some}
use Rattle.std.specs.List.{AllByRecursion}
use Rattle.std.proofs.lemmas.List.{append_assoc, length-append}
use Rattle.fgb_outside.specs.Source.{added}
use Rattle.byte_links.specs.Accept.{AcceptState, Accepts, Served, TakesBack, served}
use Rattle.byte_links.specs.Link.{LinkState}
use Rattle.byte_links.specs.declared.links.LinkError.{LinkError}
use Rattle.byte_links.specs.declared.links.LinkError.TheVariants as link
use Rattle.range_server.specs.declared.receipts.Receipt.{Receipt}
use Rattle.range_server.specs.declared.receipts.ServeError.{ServeError}
use Rattle.range_server.specs.declared.receipts.ServeError.TheVariants as serve
use Rattle.range_server.specs.Serving.{Talked}
use Rattle.range_server.proofs.Talks.{added_nothing}
use Rattle.range_serving.specs.declared.refusals.ServingError.{ServingError}
use Rattle.range_serving.specs.Entries.{IsServed, SendsFront, nothing, plus}
use Rattle.range_serving.specs.Serving.{ServesConnections, ServesLink, error_of, outcome_of}
use Rattle.range_serving.proofs.Receipts.{sums_both, sums_none}
use Rattle.range_serving.proofs.Links.{Given, given}

all_both : {A : Type 0} (P : A → Type 0) (xs ys : List A) → AllByRecursion P xs → AllByRecursion P ys → AllByRecursion P (xs ++ ys)
all_both P [] ys front back = back
all_both P (x ∷ xs) ys front back = (front.0, all_both P xs ys front.1 back)

added_both : (o : Option (List Served)) (xs ys : List Served) → added (added o xs) ys ≡ added o (xs ++ ys)
added_both None xs ys = refl
added_both (Some told) xs ys = ap Some (append_assoc told xs ys)

-- one that is not accepted
refused : {L : Type 0} {shown : L → LinkState} (image : List ℕ) (old new : AcceptState) (error : LinkError) → Accepts shown old new (Err error)
    → ServesConnections image 1 old new (Err (error_of error))
refused image old new link.Failed a = record {
  entries = [];
  ended = a.ended ∙ sym (added_nothing old.ended);
  fronts = tt;
  within = omega arith;
  ok = tt;
  faults = a.faults;
  failed = λ _. a.failed refl;
}
refused image old new link.Memory a = record {
  entries = [];
  ended = a.ended ∙ sym (added_nothing old.ended);
  fronts = tt;
  within = omega arith;
  ok = tt;
  faults = a.faults;
  failed = λ e. cc;
}

pub not_accepted : {L : Type 0} {shown : L → LinkState} {old new : AcceptState} {error : LinkError} (image : List ℕ) (result : Result Receipt ServingError)
    → result ≡ Err (error_of error) → Accepts shown old new (Err error) → ServesConnections image 1 old new result
not_accepted {old = old} {new = new} {error = error} image result e a = subst (ServesConnections image 1 old new) (sym e) (refused image old new error a)

-- the list of a listener that tells it, or does not
ended_of : (before mid now : Option (List Served)) (more : List Served) → mid ≡ before → is_some now ≡ is_some mid → (IsSome before → now ≡ added mid more)
    → now ≡ added before more
ended_of None mid None more same told at_told = refl
ended_of None mid (Some xs) more same told at_told = let e = ap is_some same in cc
ended_of (Some xs) mid now more same told at_told = at_told refl ∙ ap (λ o. added o more) same

-- one that was accepted and served
module _ {L T : Type 0} {shown : L → LinkState} {old mid new : AcceptState} {handed : L} {end : LinkState} (image : List ℕ) where
  kept_back : (received sent : List ℕ) (error : LinkError) → Accepts shown old mid (Ok handed) → Talked (shown handed) end received sent
      → TakesBack {T = T} end mid new (Err error) → ServesConnections image 1 old new (Err (error_of error))
  kept_back received sent link.Failed a talked t = absurd (t.never_failed refl)
  kept_back received sent link.Memory a talked t = record {
    entries = [];
    ended =
        ended_of old.ended mid.ended new.ended [] a.ended t.told (λ told. t.memory received sent
        (talked.received_is ∙ ap (λ o. added o received) (a.tells told).0)
        (talked.sent_is ∙ ap (λ o. added o sent) (a.tells told).1) refl ∙ sym (added_nothing mid.ended));
    fronts = tt;
    within = omega arith;
    ok = tt;
    faults = omega (arith, a.faults, t.faults);
    failed = λ e. cc;
  }

  pub not_taken : {error : LinkError} (outcome result : Result Receipt ServingError) → result ≡ Err (error_of error) → Accepts shown old mid (Ok handed)
      → ServesLink image (shown handed) end outcome → TakesBack {T = T} end mid new (Err error) → ServesConnections image 1 old new result
  not_taken {error = error} outcome result e a s t =
      subst (ServesConnections image 1 old new) (sym e) (kept_back s.serves.received s.serves.sent error a s.serves.talked t)

  taken : (done : T) (outcome : Result Receipt ServeError) (received sent : List ℕ) → Accepts shown old mid (Ok handed) → Talked (shown handed) end received sent
      → Given image (served end received sent) outcome → TakesBack end mid new (Ok done) → ServesConnections image 1 old new (outcome_of outcome)
  taken done outcome received sent a talked g t =
      let ended : new.ended ≡ added old.ended (served end received sent ∷ []) =
      ended_of old.ended mid.ended new.ended (served end received sent ∷ []) a.ended t.told (λ told. t.ended received sent
      (talked.received_is ∙ ap (λ o. added o received) (a.tells told).0)
      (talked.sent_is ∙ ap (λ o. added o sent) (a.tells told).1)) in
      by outcome g ended
    where
      faults_of : old.faults ≤ new.faults
      faults_of = omega (arith, a.faults, t.faults)

      by : (outcome : Result Receipt ServeError) → Given image (served end received sent) outcome → new.ended ≡ added old.ended (served end received sent ∷ [])
          → ServesConnections image 1 old new (outcome_of outcome)
      by (Ok receipt) g ended = record {
        entries = served end received sent ∷ [];
        ended = ended;
        fronts = (g.front, tt);
        within = omega arith;
        ok = (refl, (g.ok.0, tt), g.ok.1);
        faults = faults_of;
        failed = λ e. cc;
      }
      by (Err (serve.LinkFailed receipt)) g ended = record {
        entries = served end received sent ∷ [];
        ended = ended;
        fronts = (g.front, tt);
        within = omega arith;
        ok = (refl, (g.ok.0, tt), g.ok.1);
        faults = faults_of;
        failed = λ e. cc;
      }
      by (Err (serve.Memory receipt)) g ended = record {
        entries = served end received sent ∷ [];
        ended = ended;
        fronts = (g.front, tt);
        within = omega arith;
        ok = tt;
        faults = faults_of;
        failed = λ e. cc;
      }

  pub served_one : {done : T} (result : Result Receipt ServingError) → Accepts shown old mid (Ok handed) → ServesLink image (shown handed) end result
      → TakesBack end mid new (Ok done) → ServesConnections image 1 old new result
  served_one {done = done} result a s t =
      subst (ServesConnections image 1 old new) (sym s.result_is)
      (taken done s.outcome s.serves.received s.serves.sent a s.serves.talked (given image (shown handed) end s.outcome a.fresh s.serves) t)

-- several
none : (image : List ℕ) (state : AcceptState) → ServesConnections image 0 state state (Ok nothing)
none image state = record {
  entries = [];
  ended = sym (added_nothing state.ended);
  fronts = tt;
  within = omega arith;
  ok = (refl, tt, sums_none);
  faults = omega arith;
  failed = λ e. cc;
}

pub turns_none : (image : List ℕ) (state : AcceptState) (total : Receipt) → total ≡ nothing → ServesConnections image 0 state state (Ok total)
turns_none image state total e = subst (λ r. ServesConnections image 0 state state (Ok r)) (sym e) (none image state)

joined : {image : List ℕ} {count : ℕ} {old mid new : AcceptState} {total receipt : Receipt} → ServesConnections image count old mid (Ok total)
    → ServesConnections image 1 mid new (Ok receipt) → ServesConnections image (count + 1) old new (Ok (plus total receipt))
joined {image = image} {count = count} {old = old} {total = total} {receipt = receipt} p q =
    let len : length (p.entries ++ q.entries) ≡ count + 1 = omega (arith, length-append p.entries q.entries, p.ok.0, q.ok.0) in
    record {
      entries = p.entries ++ q.entries;
      ended = q.ended ∙ ap (λ o. added o q.entries) p.ended ∙ added_both old.ended p.entries q.entries;
      fronts = all_both (SendsFront image) p.entries q.entries p.fronts q.fronts;
      within = omega (arith, len);
      ok = (
        len,
        all_both (IsServed image) p.entries q.entries p.ok.1 q.ok.1,
        sums_both p.entries q.entries total receipt p.ok.2 q.ok.2,
      );
      faults = omega (arith, p.faults, q.faults);
      failed = λ e. cc;
    }

pub turns_more : {image : List ℕ} {count : ℕ} {old mid new : AcceptState} {total receipt : Receipt} (all : Receipt) → all ≡ plus total receipt
    → ServesConnections image count old mid (Ok total) → ServesConnections image 1 mid new (Ok receipt) → ServesConnections image (count + 1) old new (Ok all)
turns_more {image = image} {count = count} {old = old} {new = new} all e p q =
    subst (λ r. ServesConnections image (count + 1) old new (Ok r)) (sym e) (joined p q)

stopped : {image : List ℕ} {done count : ℕ} {old mid new : AcceptState} {total : Receipt} {error : ServingError} → done < count
    → ServesConnections image done old mid (Ok total) → ServesConnections image 1 mid new (Err error) → ServesConnections image count old new (Err error)
stopped {image = image} {done = done} {count = count} {old = old} less p q = record {
  entries = p.entries ++ q.entries;
  ended = q.ended ∙ ap (λ o. added o q.entries) p.ended ∙ added_both old.ended p.entries q.entries;
  fronts = all_both (SendsFront image) p.entries q.entries p.fronts q.fronts;
  within = omega (arith, length-append p.entries q.entries, p.within, q.within, less);
  ok = tt;
  faults = omega (arith, p.faults, q.faults);
  failed = λ e. omega (arith, q.failed e, p.faults);
}

pub turns_refused : {image : List ℕ} {done count : ℕ} {old mid new : AcceptState} {total : Receipt} {error : ServingError} (result : Result Receipt ServingError) → done < count
    → result ≡ Err error → ServesConnections image done old mid (Ok total) → ServesConnections image 1 mid new (Err error) → ServesConnections image count old new result
turns_refused {image = image} {count = count} {old = old} {new = new} result less e p q = subst (ServesConnections image count old new) (sym e) (stopped less p q)

pub turns_all : {image : List ℕ} {done count : ℕ} {old new : AcceptState} {total : Receipt} → done ≤ count → count ≤ done
    → ServesConnections image done old new (Ok total) → ServesConnections image count old new (Ok total)
turns_all {image = image} {done = done} {count = count} {old = old} {new = new} {total = total} low high p =
    let e : done ≡ count = omega arith in
    subst (λ n. ServesConnections image n old new (Ok total)) e p
