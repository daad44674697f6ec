-- What several reads of a link do, put together.
use Rattle.std.proofs.Common.{◌≡◌, ℕ, ◌<◌, List, [], ◌++◌, take, refl, sym, ap, subst, ◌∙◌, arith, append_assoc, append-nil, Ok, Err}
use Rattle.fgb_outside.specs.Source.{Rose, added}
use Rattle.fgb_outside.proofs.Shown.{added-added, added-none}
use Rattle.byte_links.specs.declared.links.LinkError.{LinkError}
use Rattle.byte_links.specs.declared.links.LinkError.TheVariants as link
use Rattle.byte_links.specs.Link.{KeepsLink, LinkState, Receives}
use Rattle.byte_links.proofs.Keeping.{keeps_same, keeps_trans}
use Rattle.range_client.specs.declared.faults.BadKind.TheVariants.{Ended, Head, Status, ContentRange, Length}
use Rattle.range_client.specs.declared.faults.Fault.{Fault}
use Rattle.range_client.specs.declared.faults.Fault.TheVariants.{Memory, LinkFailed, Bad}
use Rattle.range_client.specs.Faults.{fault_of}
use Rattle.range_client.specs.Steps.{Stopped, Stops, Takes}

pub takes_nothing : (link : LinkState) → Takes link link []
takes_nothing link = record {
  keeps = keeps_same link;
  received = sym (added-none link.received);
  sent = refl;
  ends = refl;
  follows = λ image is step at. (step.coming, refl, at);
}

-- one read that gave bytes
pub takes_one : (old new : LinkState) (into : List ℕ) (n : ℕ) → Receives old new into (Ok n) → 0 < n → Takes old new (take n into)
takes_one old new into n r some = record {
  keeps = r.keeps;
  received = r.received;
  sent = r.sent;
  ends = r.goes_on (λ e. let none : n ≡ 0 = cc in omega arith);
  follows = λ image is step at. let front = r.in_step image is step at in (front.rest, front.front, front.still);
}

-- one that met the end
pub stops_at_end : (old new : LinkState) (into : List ℕ) → Receives old new into (Ok 0) → Stops old new [] (Bad Ended)
stops_at_end old new into r = record {
  keeps = r.keeps;
  received = r.received;
  sent = r.sent;
  cause = (r.ended refl, λ image is step at. let front = r.in_step image is step at in front.nothing.0 refl);
}

-- one that failed
pub stops_by : (old new : LinkState) (into : List ℕ) (error : LinkError) → Receives old new into (Err error) → Stops old new [] (fault_of error)
stops_by old new into link.Failed r = record {
  keeps = r.keeps;
  received = r.received_nothing ∙ sym (added-none old.received);
  sent = r.sent;
  cause = (r.failed refl, λ image is. r.unfailing image is refl);
}
stops_by old new into link.Memory r = record {
  keeps = r.keeps;
  received = r.received_nothing ∙ sym (added-none old.received);
  sent = r.sent;
  cause = tt;
}

pub takes_takes : (a b c : LinkState) (xs ys : List ℕ) → Takes a b xs → Takes b c ys → Takes a c (xs ++ ys)
takes_takes a b c xs ys p q = record {
  keeps = keeps_trans p.keeps q.keeps;
  received = q.received ∙ ap (λ told. added told ys) p.received ∙ added-added a.received xs ys;
  sent = q.sent ∙ p.sent;
  ends = q.ends ∙ p.ends;
  follows = λ image is step at.
      let first = p.follows image is step at in
      let more = q.follows image (p.keeps.image ∙ is) (record { coming = first.0; asks = step.asks }) first.2 in
      (more.0, first.1 ∙ ap (λ l. xs ++ l) more.1 ∙ sym (append_assoc xs ys more.0), more.2);
}

stopped_later : (a b c : LinkState) (xs ys : List ℕ) (fault : Fault) → Takes a b xs → KeepsLink b c → Stopped b c ys fault → Stopped a c (xs ++ ys) fault
stopped_later a b c xs ys Memory p k s = tt
stopped_later a b c xs ys LinkFailed p k s =
    let later = p.keeps.faults in
    let rose = s.0 in
    (omega arith, λ image is. s.1 image (p.keeps.image ∙ is))
stopped_later a b c xs ys (Bad Ended) p k s = (
  subst (λ (n : ℕ). Rose n c.ends) p.ends s.0,
  λ image is step at.
      let first = p.follows image is step at in
      first.1 ∙ ap (λ l. xs ++ l) (s.1 image (p.keeps.image ∙ is) (record { coming = first.0; asks = step.asks }) first.2),
)
stopped_later a b c xs ys (Bad Head) p k s = s
stopped_later a b c xs ys (Bad Status) p k s = s
stopped_later a b c xs ys (Bad ContentRange) p k s = s
stopped_later a b c xs ys (Bad Length) p k s = s

pub takes_stops : (a b c : LinkState) (xs ys : List ℕ) (fault : Fault) → Takes a b xs → Stops b c ys fault → Stops a c (xs ++ ys) fault
takes_stops a b c xs ys fault p q = record {
  keeps = keeps_trans p.keeps q.keeps;
  received = q.received ∙ ap (λ told. added told ys) p.received ∙ added-added a.received xs ys;
  sent = q.sent ∙ p.sent;
  cause = stopped_later a b c xs ys fault p q.keeps q.cause;
}

-- a read behind others that gave nothing
pub takes_then_stops : (a b c : LinkState) (xs : List ℕ) (fault : Fault) → Takes a b xs → Stops b c [] fault → Stops a c xs fault
takes_then_stops a b c xs fault p q = subst (λ (l : List ℕ). Stops a c l fault) (append-nil xs) (takes_stops a b c xs [] fault p q)
