-- What a request and what came for it do to a link.
use Rattle.std.proofs.Common.{◌≡◌, ℕ, ◌+◌, ◌<◌, ◌≤◌, Bool, true, false, List, [], ◌++◌, length, take, refl, sym, ap, subst, ◌∙◌, arith, append_assoc, append-nil, length-append, inl, inr, Some, Ok, Err}
use Rattle.std.specs.Prelude.{◌==◌, if◌then◌else◌}
use Rattle.std.proofs.lemmas.List.{take_all}
use Rattle.std.proofs.Math.Seq.{take-append_seam}
use Rattle.fgb_outside.specs.Source.{Rose, added}
use Rattle.byte_links.specs.declared.links.LinkError.{LinkError}
use Rattle.byte_links.specs.declared.links.LinkError.TheVariants as link
use Rattle.byte_links.specs.Link.{LinkState, Sends, asked}
use Rattle.byte_links.proofs.Keeping.{keeps_trans}
use Rattle.range_client.specs.declared.demands.Demand.{Demand}
use Rattle.range_client.specs.declared.demands.Demand.TheVariants.{FirstByte, Part}
use Rattle.range_client.specs.declared.faults.BadKind.{BadKind}
use Rattle.range_client.specs.declared.faults.BadKind.TheVariants.{Ended, Head, Status, ContentRange, Length}
use Rattle.range_client.specs.declared.faults.Fault.{Fault}
use Rattle.range_client.specs.declared.faults.Fault.TheVariants.{Memory, LinkFailed, Bad}
use Rattle.range_client.specs.declared.judge.Told.{Told}
use Rattle.range_client.specs.Demands.{HasRoom, IsOrdered, least_of, length_wanted}
use Rattle.range_client.specs.Faults.{fault_of}
use Rattle.range_client.specs.Fronts.{Begun, Fronted, Halted}
use Rattle.range_client.specs.Judged.{IsGood, IsWrong}
use Rattle.range_client.specs.Replies.{IsCut}
use Rattle.range_client.specs.Exchanges.{Broke, Exchanged, IfAsks, SendsPart}
use Rattle.range_client.specs.Steps.{Stops, Takes}
use Rattle.range_client.proofs.Taking.{takes_stops, takes_takes}

-- the room for a body

pub ordered : (demand : Demand) (room : ℕ) → HasRoom demand room → IsOrdered demand
ordered FirstByte room has = tt
ordered (Part first last size) room has = (has.0, has.1)

pub count_fits : (demand : Demand) (head : List ℕ) (told : Told) (room : ℕ) → HasRoom demand room → IsGood demand head told → told.count ≤ room
count_fits demand head told room has good = at demand _ good.wanted.count has
  where
    one : (v : Bool) → (if v then 1 else 0) ≤ 1
    one true = omega arith
    one false = omega arith

    at : (d : Demand) (status : ℕ) → told.count ≡ length_wanted d status → HasRoom d room → told.count ≤ room
    at FirstByte status e has = let least = one (status == 206) in omega (arith, e, has, least)
    at (Part first last size) status e has = omega (arith, e, has.2)

pub least_fits : (demand : Demand) (head : List ℕ) (told : Told) → IsGood demand head told → least_of demand ≤ told.count
least_fits demand head told good = at demand _ good.wanted.count
  where
    at : (d : Demand) (status : ℕ) → told.count ≡ length_wanted d status → least_of d ≤ told.count
    at FirstByte status e = omega arith
    at (Part first last size) status e = omega (arith, e)

-- the request, and what was received behind it

whole_part : (request : List ℕ) (old new : LinkState) → new.sent ≡ added old.sent request → SendsPart request old new
whole_part request old new sent = (length request, sent ∙ ap (added old.sent) (sym (take_all (length request) request (omega arith))))

pub part_as : (asked sent : List ℕ) (old new : LinkState) → new.sent ≡ added old.sent sent → sent ≡ asked → SendsPart asked old new
part_as asked sent old new all same = whole_part asked old new (all ∙ ap (added old.sent) same)

-- a write that failed
pub broke_by_write : {T : Type 0} (demand : Demand) (request : List ℕ) (old new : LinkState) (head : List ℕ) (error : LinkError)
    → Sends {T = T} old new request (Err error) → Broke demand request old new head (fault_of error)
broke_by_write demand request old new head link.Failed s = record {
  keeps = s.keeps;
  part = s.part;
  cause = (s.failed refl, λ image is. s.unfailing image is refl);
}
broke_by_write demand request old new head link.Memory s = record { keeps = s.keeps; part = s.part; cause = tt }

module _ {T : Type 0} {value : T} (demand : Demand) (request : List ℕ) (old mid : LinkState) (sends : Sends old mid request (Ok value)) where
  -- reads behind it are steps of the same talk
  follows : (new : LinkState) (got : List ℕ) → Takes mid new got
      → IfAsks request old (λ coming asks. (rest : List ℕ) × (coming ≡ got ++ rest) × (new.step ≡ Some (record { coming = rest; asks = asks + 1 })))
  follows new got t = λ image is a b asks ask. ((sends.sound image is).0, t.follows image (sends.keeps.image ∙ is) (asked image a b asks) (sends.asks image is a b asks ask))

  -- a read that gave nothing, in a reply that is cut off then
  pub broke_stopped : (new : LinkState) (got head : List ℕ) (fault : Fault) → IsCut demand got head → Stops mid new got fault → Broke demand request old new head fault
  broke_stopped new got head Memory cut s =
      record { keeps = keeps_trans sends.keeps s.keeps; part = whole_part request old new (s.sent ∙ sends.sent); cause = tt }
  broke_stopped new got head LinkFailed cut s =
      let rose = s.cause.0 in
      let later = sends.keeps.faults in
      record {
        keeps = keeps_trans sends.keeps s.keeps;
        part = whole_part request old new (s.sent ∙ sends.sent);
        cause = (omega arith, λ image is. s.cause.1 image (sends.keeps.image ∙ is));
      }
  broke_stopped new got head (Bad Ended) cut s = record {
    keeps = keeps_trans sends.keeps s.keeps;
    part = whole_part request old new (s.sent ∙ sends.sent);
    cause = (
      got,
      record {
        received = s.received ∙ ap (λ told. added told got) sends.received;
        bad = cut;
        ends = subst (λ (n : ℕ). Rose n new.ends) sends.ends s.cause.0;
      },
      λ image is a b asks ask.
          ((sends.sound image is).0, ([], s.cause.1 image (sends.keeps.image ∙ is) (asked image a b asks) (sends.asks image is a b asks ask) ∙ sym (append-nil got), refl)),
    );
  }
  broke_stopped new got head (Bad Head) cut s = absurd s.cause
  broke_stopped new got head (Bad Status) cut s = absurd s.cause
  broke_stopped new got head (Bad ContentRange) cut s = absurd s.cause
  broke_stopped new got head (Bad Length) cut s = absurd s.cause

  -- no head has come
  pub broke_in_head : (new : LinkState) (head : List ℕ) (fault : Fault) → Halted mid new head fault → Broke demand request old new head fault
  broke_in_head new head Memory h = broke_stopped new head head Memory (inl (refl, h.0, h.1)) h.2
  broke_in_head new head LinkFailed h = broke_stopped new head head LinkFailed (inl (refl, h.0, h.1)) h.2
  broke_in_head new head (Bad Ended) h = broke_stopped new head head (Bad Ended) (inl (refl, h.0, h.1)) h.2
  broke_in_head new head (Bad Head) h = record {
    keeps = keeps_trans sends.keeps h.2.keeps;
    part = whole_part request old new (h.2.sent ∙ sends.sent);
    cause = (
      head,
      record { received = h.2.received ∙ ap (λ told. added told head) sends.received; bad = inl (refl, h.0, h.1); ends = h.2.ends ∙ sends.ends },
      λ image is a b asks ask. let r = follows new head h.2 image is a b asks ask in (r.0, (r.1.0, r.1.1, tt)),
    );
  }
  broke_in_head new head (Bad Status) h = absurd h.2.cause
  broke_in_head new head (Bad ContentRange) h = absurd h.2.cause
  broke_in_head new head (Bad Length) h = absurd h.2.cause

  -- it is none that was asked for
  pub broke_in_judging : (new : LinkState) (front : Fronted) (ahead : ℕ) (kind : BadKind) → Begun mid new front ahead → IsWrong demand front.head kind
      → Broke demand request old new front.head (Bad kind)
  broke_in_judging new front ahead Ended begun wrong = absurd wrong.2
  broke_in_judging new front ahead Head begun wrong = record {
    keeps = keeps_trans sends.keeps begun.takes.keeps;
    part = whole_part request old new (begun.takes.sent ∙ sends.sent);
    cause = (
      front.head ++ front.rest,
      record {
        received = begun.takes.received ∙ ap (λ told. added told (front.head ++ front.rest)) sends.received;
        bad = inr ((front.rest, refl, begun.head, begun.short), wrong);
        ends = begun.takes.ends ∙ sends.ends;
      },
      λ image is a b asks ask. let r = follows new (front.head ++ front.rest) begun.takes image is a b asks ask in (r.0, (r.1.0, r.1.1, tt)),
    );
  }
  broke_in_judging new front ahead Status begun wrong = record {
    keeps = keeps_trans sends.keeps begun.takes.keeps;
    part = whole_part request old new (begun.takes.sent ∙ sends.sent);
    cause = (
      front.head ++ front.rest,
      record {
        received = begun.takes.received ∙ ap (λ told. added told (front.head ++ front.rest)) sends.received;
        bad = ((front.rest, refl, begun.head, begun.short), wrong);
        ends = begun.takes.ends ∙ sends.ends;
      },
      λ image is a b asks ask. let r = follows new (front.head ++ front.rest) begun.takes image is a b asks ask in (r.0, (r.1.0, r.1.1, tt)),
    );
  }
  broke_in_judging new front ahead ContentRange begun wrong = record {
    keeps = keeps_trans sends.keeps begun.takes.keeps;
    part = whole_part request old new (begun.takes.sent ∙ sends.sent);
    cause = (
      front.head ++ front.rest,
      record {
        received = begun.takes.received ∙ ap (λ told. added told (front.head ++ front.rest)) sends.received;
        bad = ((front.rest, refl, begun.head, begun.short), wrong);
        ends = begun.takes.ends ∙ sends.ends;
      },
      λ image is a b asks ask. let r = follows new (front.head ++ front.rest) begun.takes image is a b asks ask in (r.0, (r.1.0, r.1.1, tt)),
    );
  }
  broke_in_judging new front ahead Length begun wrong = record {
    keeps = keeps_trans sends.keeps begun.takes.keeps;
    part = whole_part request old new (begun.takes.sent ∙ sends.sent);
    cause = (
      front.head ++ front.rest,
      record {
        received = begun.takes.received ∙ ap (λ told. added told (front.head ++ front.rest)) sends.received;
        bad = ((front.rest, refl, begun.head, begun.short), wrong);
        ends = begun.takes.ends ∙ sends.ends;
      },
      λ image is a b asks ask. let r = follows new (front.head ++ front.rest) begun.takes image is a b asks ask in (r.0, (r.1.0, r.1.1, tt)),
    );
  }

  -- its body is cut off
  pub broke_in_body : (begun_at new : LinkState) (front : Fronted) (ahead : ℕ) (told : Told) (got : List ℕ) (fault : Fault) → Begun mid begun_at front ahead
      → IsGood demand front.head told → length front.rest + length got < told.count → Stops begun_at new got fault → Broke demand request old new front.head fault
  broke_in_body begun_at new front ahead told got fault begun good less stops =
      broke_stopped new ((front.head ++ front.rest) ++ got) front.head fault
      (inr ((front.rest ++ got, append_assoc front.head front.rest got, begun.head, begun.short), told, good, omega (arith, length-append front.rest got)))
      (takes_stops mid begun_at new (front.head ++ front.rest) got fault begun.takes stops)

  -- it has come
  pub exchanged : (begun_at new : LinkState) (front : Fronted) (ahead : ℕ) (told : Told) (got into : List ℕ) → Begun mid begun_at front ahead
      → IsGood demand front.head told → told.count ≤ length into → length (front.rest ++ got) ≡ told.count → take told.count into ≡ front.rest ++ got
      → Takes begun_at new got → Exchanged demand request old new front.head into told.size
  exchanged begun_at new front ahead told got into begun good room len body takes =
      let all : Takes mid new ((front.head ++ front.rest) ++ got) = takes_takes mid begun_at new (front.head ++ front.rest) got begun.takes takes in
      let same : (front.head ++ front.rest) ++ got ≡ front.head ++ take told.count into = append_assoc front.head front.rest got ∙ ap (λ l. front.head ++ l) (sym body) in
      let whole : Takes mid new (front.head ++ take told.count into) = subst (λ (l : List ℕ). Takes mid new l) same all in
      record {
        count = told.count;
        room = room;
        reply = record {
          ends = begun.head;
          short = begun.short;
          good = subst (λ (n : ℕ). IsGood demand front.head (record { size = told.size; count = n })) (sym (ap length body ∙ len)) good;
        };
        keeps = keeps_trans sends.keeps whole.keeps;
        sent = whole.sent ∙ sends.sent;
        received = whole.received ∙ ap (λ before. added before (front.head ++ take told.count into)) sends.received;
        ends = whole.ends ∙ sends.ends;
        in_step = follows new (front.head ++ take told.count into) whole;
      }

  -- the same, of a body at the front of the room for it
  pub exchanged_at : (begun_at new : LinkState) (front : Fronted) (ahead : ℕ) (told : Told) (first got part more : List ℕ) → Begun mid begun_at front ahead
      → IsGood demand front.head told → length part ≡ told.count → first ≡ front.rest → part ≡ first ++ got
      → Takes begun_at new got → Exchanged demand request old new front.head (part ++ more) told.size
  exchanged_at begun_at new front ahead told first got part more begun good len is whole takes =
      let parts : part ≡ front.rest ++ got = whole ∙ ap (λ l. l ++ got) is in
      let body : take told.count (part ++ more) ≡ part = ap (λ n. take n (part ++ more)) (sym len) ∙ take-append_seam part more in
      exchanged begun_at new front ahead told got (part ++ more) begun good (omega (arith, length-append part more, len)) (ap length (sym parts) ∙ len) (body ∙ parts) takes
