-- What a client is after its calls.
use Rattle.std.proofs.Common.{◌≡◌, ℕ, ◌^◌, ◌≤◌, Bool, true, false, List, [], take, refl, sym, ap, subst, ◌∙◌, arith, Some, None}
use Rattle.std.specs.Prelude.{◌==◌, codes, if◌then◌else◌, nat_le}
use Rattle.std.proofs.lemmas.Bool.Decides.{nat_tests}
use Rattle.fgb_outside.proofs.Shown.{added-none}
use Rattle.byte_links.specs.Exchange.{ask}
use Rattle.byte_links.specs.Link.{IfServes, IsAsk, LinkState}
use Rattle.byte_links.proofs.Keeping.{keeps_same}
use Rattle.range_client.specs.declared.demands.Demand.{Demand}
use Rattle.range_client.specs.declared.demands.Demand.TheVariants.{FirstByte}
use Rattle.range_client.specs.declared.faults.BadKind.{BadKind}
use Rattle.range_client.specs.declared.faults.ConnectError.{ConnectError}
use Rattle.range_client.specs.declared.faults.ConnectError.TheVariants as connect
use Rattle.range_client.specs.declared.faults.Fault.{Fault}
use Rattle.range_client.specs.declared.faults.Fault.TheVariants.{Memory, LinkFailed, Bad}
use Rattle.range_client.specs.declared.judge.Told.{Told}
use Rattle.range_client.specs.Demands.{first_of, last_of}
use Rattle.range_client.specs.Faults.{IsRefusal}
use Rattle.range_client.specs.Judged.{IsGood}
use Rattle.range_client.specs.Requests.{request}
use Rattle.range_client.specs.Exchanges.{Broke, CameBad, Exchanged}
use Rattle.range_client.specs.Client.{ClientState, Connected, IsInStep, IsSound, IsStart, Refused}
use Rattle.range_client.proofs.Honest.{Honestly, IsFor, broke_honest, exchanged_honest, for_within}

-- a request for the image is an ask
request_asks : (a b : ℕ) → request (codes "/map.fgb") a b ≡ ask a b
unfolding request ask
request_asks a b = refl

pub is_ask : (link : LinkState) (image path : List ℕ) (demand : Demand) (asks : ℕ) → IsInStep link asks → path ≡ codes "/map.fgb" → IsFor demand image
    → IsAsk link image (request path (first_of demand) (last_of demand)) (first_of demand) (last_of demand) asks
is_ask link image path demand asks step is for = record {
  step = step;
  text = ap (λ p. request p (first_of demand) (last_of demand)) is ∙ request_asks (first_of demand) (last_of demand);
  within = for_within demand image for;
}

-- the first request

-- the size that is learnt
first_size : (head : List ℕ) (told : Told) → IsGood FirstByte head told → told.size ≤ 2 ^ 48
first_size head told good = by_status _ good.wanted.range.1
  where
    by_status : (v : Bool) → (if v then nat_le told.size (2 ^ 48) else told.size == 0) ≡ true → told.size ≤ 2 ^ 48
    by_status true passes = grind (arith, nat_tests)
    by_status false passes = grind (arith, nat_tests)

module _ (old new : LinkState) (path head : List ℕ) (start : IfServes old (λ _. IsStart old path)) where
  first_honest : (into : List ℕ) (size : ℕ) (x : Exchanged FirstByte (request path 0 0) old new head into size) (image : List ℕ) → old.image ≡ Some image
      → Honestly FirstByte image (take x.count into) size 0 new
  first_honest into size x image is =
      exchanged_honest FirstByte (request path 0 0) old new head into size image 0 x is tt
      (is_ask old image path FirstByte 0 (start image is).0 (start image is).1 tt)

  pub connected_sound : (into : List ℕ) (size : ℕ) → Exchanged FirstByte (request path 0 0) old new head into size → IsSound new path size None
  connected_sound into size x = record {
    small = first_size head _ x.reply.good;
    honest = λ image is.
        let before = sym x.keeps.image ∙ is in
        let honestly = first_honest into size x image before in
        record { size_is = sym honestly.size_is; path_is = (start image before).1; in_step = λ _. (1, honestly.step) };
  }

  pub connected : (into : List ℕ) (size : ℕ) (client : ClientState) → Exchanged FirstByte (request path 0 0) old new head into size
      → client ≡ record { link = new; path = path; size = size; asked = Some []; spent = None; faults = 0; head = head } → Connected old path client
  connected into size client x is =
      subst (Connected old path) (sym is) (
      record {
        keeps = x.keeps;
        path_is = refl;
        body = take x.count into;
        reply = record { sent = x.sent; received = x.received; ends = x.ends; reply = x.reply };
        asked = refl;
        spent = refl;
        faults = refl;
        served = λ image told. let honestly = first_honest into size x image told in (sym honestly.size_is, honestly.step);
      }
      )

  first_broke : (fault : Fault) (image : List ℕ) → Broke FirstByte (request path 0 0) old new head fault → old.image ≡ Some image → fault ≡ Memory
  first_broke fault image broke is =
      broke_honest FirstByte (request path 0 0) old new head fault image 0 broke is tt
      (is_ask old image path FirstByte 0 (start image is).0 (start image is).1 tt) (omega arith)

  pub refused : (fault : Fault) (error : ConnectError) → Broke FirstByte (request path 0 0) old new head fault → IsRefusal head fault error → Refused path old new error
  refused fault connect.Memory broke told = record { keeps = broke.keeps; part = broke.part; why = tt; served = λ image is. refl }
  refused Memory connect.LinkFailed broke told = cc
  refused LinkFailed connect.LinkFailed broke told = record {
    keeps = broke.keeps;
    part = broke.part;
    why = broke.cause.0;
    served = λ image is. absurd (broke.cause.1 image is);
  }
  refused (Bad kind) connect.LinkFailed broke told = let same = told.0 in cc
  refused Memory (connect.BadReply kind text) broke told = cc
  refused LinkFailed (connect.BadReply kind text) broke told = cc
  refused (Bad other) (connect.BadReply kind text) broke told =
      let same : Bad kind ≡ Bad other = told.0 in
      let kinds : kind ≡ other = cc in
      record {
        keeps = broke.keeps;
        part = broke.part;
        why = (
          broke.cause.0,
          subst (λ (h : List ℕ). CameBad FirstByte old new broke.cause.0 h kind) (sym told.1)
              (subst (λ (k : BadKind). CameBad FirstByte old new broke.cause.0 head k) (sym kinds) broke.cause.1),
        );
        served = λ image is. let memory = first_broke (Bad other) image broke is in cc;
      }

-- no memory before anything was sent
pub refused_at_once : (link : LinkState) (path : List ℕ) → Refused path link link connect.Memory
refused_at_once link path = record {
  keeps = keeps_same link;
  part = (0, sym (added-none link.sent));
  why = tt;
  served = λ image is. refl;
}
