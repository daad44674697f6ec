-- What goes over a link.
use Rattle.std.proofs.Common.{◌≡◌, ℕ, ◌≤◌, List, [], ◌++◌, length, take, drop, Option, Some, None, Result, Ok, Err, refl, sym, ap, ◌∙◌, subst, arith}
use Rattle.std.specs.Io.{StartsWith}
use Rattle.std.proofs.Math.Seq.{take-append_seam}
use Rattle.std.proofs.lemmas.List.{append_assoc, append-nil, take-append-drop}
use Rattle.fgb_outside.specs.Source.{added}
use Rattle.byte_links.specs.Link.{LinkState, Receives, Sends}
use Rattle.byte_links.specs.declared.links.LinkError.{LinkError}
use Rattle.range_server.specs.Sending.{SendsReply}
use Rattle.range_server.specs.Serving.{Talked}

pub added_nothing : {A : Type 0} (o : Option (List A)) → added o [] ≡ o
added_nothing None = refl
added_nothing (Some xs) = ap Some (append-nil xs)

added_added : {A : Type 0} (o : Option (List A)) (xs ys : List A) → added (added o xs) ys ≡ added o (xs ++ ys)
added_added None xs ys = refl
added_added (Some told) xs ys = ap Some (append_assoc told xs ys)

-- nothing, and one thing after another
pub talked_nothing : (s : LinkState) → Talked s s [] []
talked_nothing s = record { faults = omega arith; ends = omega arith; received_is = sym (added_nothing s.received); sent_is = sym (added_nothing s.sent) }

pub talked_talked : {a b c : LinkState} {r s r' s' : List ℕ} → Talked a b r s → Talked b c r' s' → Talked a c (r ++ r') (s ++ s')
talked_talked {a = a} {b = b} {c = c} {r = r} {s = s} {r' = r'} {s' = s'} p q = record {
  faults = omega (arith, p.faults, q.faults);
  ends = omega (arith, p.ends, q.ends);
  received_is = q.received_is ∙ ap (λ o. added o r') p.received_is ∙ added_added a.received r r';
  sent_is = q.sent_is ∙ ap (λ o. added o s') p.sent_is ∙ added_added a.sent s s';
}

-- where nothing was received in one of two steps
pub talked_sent : {a b c : LinkState} {r s s' : List ℕ} → Talked a b r s → Talked b c [] s' → Talked a c r (s ++ s')
talked_sent {a = a} {c = c} {r = r} {s = s} {s' = s'} p q = subst (λ xs. Talked a c xs (s ++ s')) (append-nil r) (talked_talked p q)

pub talked_received : {a b c : LinkState} {r s r' : List ℕ} → Talked a b r s → Talked b c r' [] → Talked a c (r ++ r') s
talked_received {a = a} {c = c} {r = r} {s = s} {r' = r'} p q = subst (λ xs. Talked a c (r ++ r') xs) (append-nil s) (talked_talked p q)

pub talked_quiet : {a b c : LinkState} {r s : List ℕ} → Talked a b r s → Talked b c [] [] → Talked a c r s
talked_quiet {a = a} {c = c} {r = r} {s = s} p q = subst (λ xs. Talked a c r xs) (append-nil s) (talked_sent p q)

-- calls
pub talked_read : {old new : LinkState} {into : List ℕ} {n : ℕ} → Receives old new into (Ok n) → Talked old new (take n into) []
talked_read {old = old} h = record { faults = h.keeps.faults; ends = h.keeps.ends; received_is = h.received; sent_is = h.sent ∙ sym (added_nothing old.sent) }

pub talked_unread : {old new : LinkState} {into : List ℕ} {e : LinkError} → Receives old new into (Err e) → Talked old new [] []
talked_unread {old = old} h = record {
  faults = h.keeps.faults;
  ends = h.keeps.ends;
  received_is = h.received_nothing ∙ sym (added_nothing old.received);
  sent_is = h.sent ∙ sym (added_nothing old.sent);
}

talked_write : {T : Type 0} {old new : LinkState} {piece : List ℕ} {t : T} → Sends old new piece (Ok t) → Talked old new [] piece
talked_write {old = old} {new = new} h =
    let ends : old.ends ≤ new.ends = omega (arith, h.ends) in
    record { faults = h.keeps.faults; ends = ends; received_is = h.received ∙ sym (added_nothing old.received); sent_is = h.sent }

talked_part : {T : Type 0} {old new : LinkState} {piece : List ℕ} {result : Result T LinkError} → (h : Sends old new piece result) → Talked old new [] (take h.part.0 piece)
talked_part {old = old} {new = new} h =
    let ends : old.ends ≤ new.ends = omega (arith, h.ends) in
    record { faults = h.keeps.faults; ends = ends; received_is = h.received ∙ sym (added_nothing old.received); sent_is = h.part.1 }

-- fronts of a text
pub starts_with : (text front rest : List ℕ) → text ≡ front ++ rest → StartsWith text front
starts_with text front rest e = ap (take (length front)) e ∙ take-append_seam front rest

pub rest_of : (text front : List ℕ) → StartsWith text front → text ≡ front ++ drop (length front) text
rest_of text front is = sym (take-append-drop (length front) text) ∙ ap (λ xs. xs ++ drop (length front) text) is

starts_taken : (n : ℕ) (text more : List ℕ) → StartsWith (text ++ more) (take n text)
starts_taken n text more =
    starts_with (text ++ more) (take n text) (drop n text ++ more)
    (ap (λ xs. xs ++ more) (sym (take-append-drop n text)) ∙ append_assoc (take n text) (drop n text) more)

pub starts_behind : (front text part : List ℕ) → StartsWith text part → StartsWith (front ++ text) (front ++ part)
starts_behind front text part is =
    starts_with (front ++ text) (front ++ part) (drop (length part) text)
    (ap (λ xs. front ++ xs) (rest_of text part is) ∙ sym (append_assoc front part (drop (length part) text)))

pub starts_longer : (text more part : List ℕ) → StartsWith text part → StartsWith (text ++ more) part
starts_longer text more part is =
    starts_with (text ++ more) part (drop (length part) text ++ more)
    (ap (λ xs. xs ++ more) (rest_of text part is) ∙ append_assoc part (drop (length part) text) more)

-- a head and a body
pub sends_both : {S T : Type 0} {old mid new : LinkState} {s : S} (head body text : List ℕ) (result : Result T LinkError) → text ≡ head ++ body
    → Sends old mid head (Ok s) → Sends mid new body result → SendsReply old new text result
sends_both {old = old} {new = new} head body text (Ok t) e p q = record {
  sent = head ++ body;
  talked = talked_talked (talked_write p) (talked_write q);
  ok = sym e;
  err = tt;
  failed = λ h. cc;
}
sends_both {old = old} {mid = mid} {new = new} head body text (Err error) e p q = record {
  sent = head ++ take q.part.0 body;
  talked = talked_talked (talked_write p) (talked_part q);
  ok = tt;
  err =
      let at_body : StartsWith body (take q.part.0 body) = subst (λ xs. StartsWith xs (take q.part.0 body)) (append-nil body) (starts_taken q.part.0 body []) in
      subst (λ xs. StartsWith xs (head ++ take q.part.0 body)) (sym e) (starts_behind head body (take q.part.0 body) at_body);
  failed = λ h. omega (arith, q.failed h, p.keeps.faults);
}
