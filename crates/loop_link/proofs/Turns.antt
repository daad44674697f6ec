-- What reads and writes do to a link to a server.
use Rattle.std.proofs.Common.{◌≡◌, ℕ, ◌+◌, ◌^◌, ◌<◌, ◌≤◌, Bool, true, false, List, [], ◌++◌, length, take, drop, refl, sym, ap, subst, ◌∙◌, arith, Option, Some, None, Ok, Err, inl, inr}
use Rattle.std.specs.Prelude.{◌↔◌, ◌==◌, ◌||◌, if◌then◌else◌, nat_le, nat_lt, IsErrOf, OnErr, OnOk, Result}
use Rattle.std.proofs.lemmas.Bool.{false≢true}
use Rattle.std.proofs.lemmas.Bool.Decides.{nat_tests}
use Rattle.fgb_outside.specs.Source.{Rose}
use Rattle.byte_links.specs.declared.links.LinkError.{LinkError}
use Rattle.byte_links.specs.declared.links.LinkError.TheVariants.{Failed}
use Rattle.byte_links.specs.Exchange.{IsWithin, give, most_asks}
use Rattle.byte_links.specs.Link.{IsAsk, IsSoundLink, KeepsLink, Receives, Sends, Step, asked}
use Rattle.range_reply.specs.Heads.{next_len}
use Rattle.range_reply.specs.Replies.{closes_after, reply_of}
use Rattle.range_server.specs.Core.{Core, behind_answer}
use Rattle.loop_link.specs.Asks.{AsksFor, FitsIn}
use Rattle.loop_link.specs.Looped.{IsAsking, IsInTurn, Looped, looped_link}
use Rattle.loop_link.proofs.Asking.{ask_next, ask_reply, ask_stays}

sound_link : (l : Looped) → length l.image ≤ 2 ^ 48 → IsSoundLink (looped_link l)
sound_link l small = λ image is.
    let same : l.image ≡ image = cc in
    (subst (λ (i : List ℕ). length i ≤ 2 ^ 48) same small, omega arith)

keeps_looped : (old new : Looped) → new.image ≡ old.image → old.ends ≤ new.ends → KeepsLink (looped_link old) (looped_link new)
keeps_looped old new same later = record {
  received = refl;
  sent = refl;
  image = ap Some same;
  faults = omega arith;
  ends = later;
  faultless = λ image is. refl;
}

-- the step of a link
step_of : Bool → List ℕ → ℕ → Option Step
step_of in_step coming asks = if in_step then Some (record { coming = coming; asks = asks }) else None

-- a link that has a step is in step
step_is : (v : Bool) (coming : List ℕ) (asks : ℕ) (step : Step) → step_of v coming asks ≡ Some step → (v ≡ true) × (step.coming ≡ coming) × (step.asks ≡ asks)
unfolding step_of
step_is true coming asks step e =
    let same : record { coming = coming; asks = asks } ≡ step = cc in
    (refl, ap (λ (s : Step). s.coming) (sym same), ap (λ (s : Step). s.asks) (sym same))
step_is false coming asks step e = cc

-- reads

pub receives_looped : (old new : Looped) (into : List ℕ) (n : ℕ) → length old.image ≤ 2 ^ 48 → n ≤ length into → new.image ≡ old.image
    → (n ≡ 0 → Rose old.ends new.ends) → (¬ (n ≡ 0) → new.ends ≡ old.ends) → old.ends ≤ new.ends → old.coming ≡ take n into ++ new.coming → (n ≡ 0) ↔ (old.coming ≡ [])
    → new.is_in_step ≡ old.is_in_step → new.asks ≡ old.asks → Receives (looped_link old) (looped_link new) into (Ok n)
unfolding step_of
receives_looped old new into n small fits same rose stays later front nothing in_step asks = record {
  sound = sound_link old small;
  keeps = keeps_looped old new same later;
  count = fits;
  received = refl;
  received_nothing = tt;
  sent = refl;
  failed = λ e. cc;
  unfailing = λ image is e. cc;
  ended = λ e. rose (ok_of e);
  goes_on = λ e. stays (λ none. e (ap Ok none));
  in_step = λ image is step at.
      let was = step_is old.is_in_step old.coming old.asks step at in
      let now : step_of new.is_in_step new.coming new.asks ≡ Some (record { coming = new.coming; asks = step.asks }) =
      ap (λ v. step_of v new.coming new.asks) (in_step ∙ was.0) ∙ ap (λ k. Some (step_at new.coming k)) (asks ∙ sym was.2) in
      record { rest = new.coming; front = was.1 ∙ front; still = now; nothing = (λ e. was.1 ∙ nothing.0 e, λ e. nothing.1 (sym was.1 ∙ e)) };
  out_of_step = λ image is. tt;
}
  where
    ok_of : ◌≡◌ {A = Result ℕ LinkError} (Ok n) (Ok 0) → n ≡ 0
    ok_of e = cc

    step_at : List ℕ → ℕ → Step
    step_at coming k = record { coming = coming; asks = k }

-- writes

-- an ask of the link, seen on its own state
pub asking_of : (l : Looped) (piece : List ℕ) (a b asks : ℕ) → IsAsk (looped_link l) l.image piece a b asks → IsAsking l piece × (asks ≡ l.asks)
unfolding step_of
asking_of l piece a b asks is =
    let was = step_is l.is_in_step l.coming l.asks (record { coming = []; asks = asks }) is.step in
    (record { in_step = was.0; nothing = sym was.1; first = a; last = b; asks_for = record { text = is.text; fits = is.within } }, was.2)

pub ask_of : (l : Looped) (piece : List ℕ) (is : IsAsking l piece) → IsAsk (looped_link l) l.image piece is.first is.last l.asks
ask_of l piece is = record {
  step = ap (λ v. if v then Some (record { coming = l.coming; asks = l.asks }) else None) is.in_step ∙ ap (λ c. Some (step_at c)) is.nothing;
  text = is.asks_for.text;
  within = is.asks_for.fits;
}
  where
    step_at : List ℕ → Step
    step_at coming = record { coming = coming; asks = l.asks }

no_step : {A : Type 0} (v : Bool) (x : A) → v ≡ false → (if v then Some x else None) ≡ None
no_step true x e = absurd (false≢true (sym e))
no_step false x e = refl

-- a write behind which the link is not in step: it failed, or was no ask
pub sends_other : {T : Type 0} (old new : Looped) (piece : List ℕ) (result : Result T LinkError) → length old.image ≤ 2 ^ 48 → new.image ≡ old.image
    → new.ends ≡ old.ends → new.is_in_step ≡ false → ¬ IsErrOf result Failed → OnOk result (¬ IsAsking old piece) → Sends (looped_link old) (looped_link new) piece result
sends_other {T} old new piece result small same ends out unfailing none = record {
  sound = sound_link old small;
  keeps = keeps_looped old new same (omega (arith, ends));
  sent = by_result result;
  part = (0, refl);
  received = refl;
  failed = λ e. absurd (unfailing e);
  unfailing = λ image is. unfailing;
  ends = ends;
  asks = λ image is a b asks ask. no_ask result none image is a b asks ask;
  asks_nothing = λ image is never. no_step new.is_in_step _ out;
  out_of_step = λ image is. when_err result;
}
  where
    by_result : (r : Result T LinkError) → OnOk r (◌≡◌ {A = Option (List ℕ)} None None)
    by_result (Ok v) = refl
    by_result (Err e) = tt

    when_err : (r : Result T LinkError) → OnErr r ((looped_link new).step ≡ None)
    when_err (Ok v) = tt
    when_err (Err e) = no_step new.is_in_step _ out

    no_ask : (r : Result T LinkError) → OnOk r (¬ IsAsking old piece) → (image : List ℕ) → Some old.image ≡ Some image → (a b asks : ℕ) → IsAsk (looped_link old) image piece a b asks
        → OnOk r ((looped_link new).step ≡ Some (asked image a b asks))
    no_ask (Err e) other image is a b asks ask = tt
    no_ask (Ok v) other image is a b asks ask =
        let equal : image ≡ old.image = cc in
        absurd (other (asking_of old piece a b asks (subst (λ (i : List ℕ). IsAsk (looped_link old) i piece a b asks) equal ask)).0)

-- what is coming behind an ask
pub replied : ℕ → List ℕ → List ℕ → List ℕ
replied asks image piece = if nat_lt asks most_asks then reply_of image piece else []

-- a write of an ask
pub sends_ask : {T : Type 0} {value : T} (old new : Looped) (piece : List ℕ) → length old.image ≤ 2 ^ 48 → new.image ≡ old.image → new.ends ≡ old.ends → IsAsking old piece
    → new.is_in_step ≡ true → new.asks ≡ old.asks + 1 → new.coming ≡ replied old.asks old.image piece → Sends (looped_link old) (looped_link new) piece (Ok value)
unfolding replied
sends_ask old new piece small same ends asking in_step count coming = record {
  sound = sound_link old small;
  keeps = keeps_looped old new same (omega (arith, ends));
  sent = refl;
  part = (0, refl);
  received = refl;
  failed = λ e. cc;
  unfailing = λ image is e. cc;
  ends = ends;
  asks = λ image is a b asks ask. given image is a b asks ask;
  asks_nothing = λ image is never. absurd (never asking.first asking.last old.asks (along image is));
  out_of_step = λ image is. tt;
}
  where
    along : (image : List ℕ) → Some old.image ≡ Some image → IsAsk (looped_link old) image piece asking.first asking.last old.asks
    along image is =
        let equal : old.image ≡ image = cc in
        subst (λ (i : List ℕ). IsAsk (looped_link old) i piece asking.first asking.last old.asks) equal (ask_of old piece asking)

    step_at : List ℕ → ℕ → Step
    step_at c k = record { coming = c; asks = k }

    given : (image : List ℕ) → Some old.image ≡ Some image → (a b asks : ℕ) → IsAsk (looped_link old) image piece a b asks → (looped_link new).step ≡ Some (asked image a b asks)
    given image is a b asks ask =
        let equal : old.image ≡ image = cc in
        let own = asking_of old piece a b asks (subst (λ (i : List ℕ). IsAsk (looped_link old) i piece a b asks) (sym equal) ask) in
        let reply : reply_of old.image piece ≡ give image a b =
        ap (reply_of old.image) ask.text ∙ ask_reply old.image a b small (subst (λ (i : List ℕ). IsWithin i a b) (sym equal) ask.within) ∙ ap (λ i. give i a b) equal in
        ap (λ v. if v then Some (step_at new.coming new.asks) else None) in_step
        ∙ ap (λ c. Some (step_at c new.asks)) (coming ∙ ap (λ r. if nat_lt old.asks most_asks then r else []) reply ∙ ap (λ n. if nat_lt n most_asks then give image a b else []) (sym own.1))
        ∙ ap (λ k. Some (step_at (asked image a b asks).coming k)) (count ∙ ap (λ n. n + 1) (sym own.1))

-- the core behind an ask

pub turn_over : (core new : Core) (asks : ℕ) → IsInTurn core asks → core.closed ≡ true → new ≡ core → IsInTurn new (asks + 1) × (most_asks ≤ asks)
turn_over core new asks turn closed same =
    let over : nat_le most_asks asks ≡ true = sym turn.closed ∙ closed in
    let many : most_asks ≤ asks = grind (arith, nat_tests) in
    let next : nat_le most_asks (asks + 1) ≡ true = grind (arith, nat_tests) in (
      subst (λ (c : Core). IsInTurn c (asks + 1)) (sym same) (record { kept = turn.kept; answered = turn.answered ∙ omega (arith, many); closed = closed ∙ sym next }),
      many,
    )

pub turn_next : (core new : Core) (asks : ℕ) (head : List ℕ) → IsInTurn core asks → core.closed ≡ false → closes_after head ≡ false → new ≡ behind_answer core head
    → IsInTurn new (asks + 1) × (asks < most_asks)
turn_next core new asks head turn going stays same =
    let under : nat_le most_asks asks ≡ false = sym turn.closed ∙ going in
    let few : asks < most_asks = grind (arith, nat_tests) in
    let count : core.answered ≡ asks = turn.answered ∙ omega (arith, few) in
    let last : (core.answered + 1 == most_asks) ≡ nat_le most_asks (asks + 1) = grind (arith, nat_tests, count) in (
      subst (λ (c : Core). IsInTurn c (asks + 1)) (sym same)
          (record { kept = refl; answered = omega (arith, count, few); closed = ap (λ v. v || (core.answered + 1 == most_asks)) stays ∙ last }),
      few,
    )

-- the places of an ask are small, and in order
fits_small : (size a b : ℕ) → size ≤ 2 ^ 48 → FitsIn size a b → (a ≤ b) × (b ≤ 2 ^ 48)
fits_small size a b small (inl fits) = (fits.0, omega (arith, fits.1))
fits_small size a b small (inr none) = (omega (arith, none.1), omega (arith, none.2))

-- what a core and its replies are behind an ask
pub asked_turn : (image bytes : List ℕ) (core new : Core) (asks first last at : ℕ) (cleared replies : List ℕ) → length image ≤ 2 ^ 48 → IsInTurn core asks
    → AsksFor (length image) bytes first last → cleared ≡ [] → at ≡ 0
    → (core.closed ≡ true → (new ≡ core) × (replies ≡ cleared))
    → (core.kept ≡ [] → core.closed ≡ false → next_len bytes ≡ Some (length bytes) → (new ≡ behind_answer core bytes) × (replies ≡ cleared ++ reply_of image bytes))
    → IsInTurn new (asks + 1) × (drop at replies ≡ replied asks image bytes)
unfolding replied
asked_turn image bytes core new asks first last at cleared replies small turn asking none start over next = by_closed core.closed refl
  where
    places : (first ≤ last) × (last ≤ 2 ^ 48)
    places = fits_small (length image) first last small asking.fits

    by_closed : (v : Bool) → core.closed ≡ v → IsInTurn new (asks + 1) × (drop at replies ≡ replied asks image bytes)
    by_closed true closed =
        let done = over closed in
        let now = turn_over core new asks turn closed done.0 in
        let many = now.1 in
        let left : nat_lt asks most_asks ≡ false = grind (arith, nat_tests) in
        (now.0, ap (λ l. drop at l) (done.1 ∙ none) ∙ ap (λ n. drop n []) start ∙ sym (ap (λ v. if v then reply_of image bytes else []) left))
    by_closed false going =
        let order = places.0 in
        let head : next_len bytes ≡ Some (length bytes) =
        subst (λ (b : List ℕ). next_len b ≡ Some (length b)) (sym asking.text) (ask_next first last (omega (arith, places)) places.1) in
        let stays : closes_after bytes ≡ false = ap closes_after asking.text ∙ ask_stays first last order places.1 in
        let done = next turn.kept going head in
        let now = turn_next core new asks bytes turn going stays done.0 in
        let few = now.1 in
        let left : nat_lt asks most_asks ≡ true = grind (arith, nat_tests) in
        (now.0, ap (λ n. drop n replies) start ∙ done.1 ∙ ap (λ l. l ++ reply_of image bytes) none ∙ sym (ap (λ v. if v then reply_of image bytes else []) left))
