-- What a connection is served.
use Rattle.std.proofs.Common.{◌≡◌, ℕ, ◌+◌, ◌-◌, ◌*◌, ◌^◌, ◌<◌, ◌≤◌, ◌⊎◌, inl, inr, min, true, false, cond, List, [], ◌∷◌, ◌++◌, length, take, drop, Option, Some, None, Result, Ok, Err, refl, sym, ap, ◌∙◌, subst, arith}
use Rattle.std.specs.Prelude.{flat_map, IfNone, IfSome, slice_range}
use Rattle.std.specs.Io.{StartsWith}
use Rattle.std.specs.List.{list_any}
use Rattle.std.proofs.lemmas.List.{append_assoc, append-nil, length-append, length-drop, length-take-le, take-append-drop}
use Rattle.std.proofs.lemmas.Grind.{flat_map-append}
use Rattle.std.proofs.Math.Nat.{eq-or-lt_of_le}
use Rattle.byte_links.specs.Link.{LinkState, Receives}
use Rattle.byte_links.specs.declared.links.LinkError.{LinkError}
use Rattle.byte_links.specs.declared.links.LinkError.TheVariants.{Failed, Memory}
use Rattle.range_reply.specs.declared.written.Reply.{Reply}
use Rattle.range_reply.specs.Replies.{closes_after, reply_of}
use Rattle.range_reply.specs.Heads.{heads, most_heads, next_len, replies}
use Rattle.range_reply.specs.Written.{Answers, body_of, bytes_of, head_of}
use Rattle.range_server.specs.declared.receipts.Receipt.{Receipt}
use Rattle.range_server.specs.declared.receipts.ServeError.{ServeError}
use Rattle.range_server.specs.declared.receipts.ServeError.TheVariants.{LinkFailed}
use Rattle.range_server.specs.Core.{Core, IsSound, after, answered_with, new_core, used_len, used_of}
use Rattle.range_server.specs.Paths.{Path, heads_left, room}
use Rattle.range_server.specs.Sending.{AnswersAll, AnswersNext, AnswersPart, Counts, SendsReply, ServesPiece, counted, error_of, no_receipt}
use Rattle.range_server.specs.Serving.{IsFinished, IsPartOfNext, Serves, ServesAll, ServesFront, Talked, receipt_in, receipt_of}
use Rattle.range_server.proofs.Cuts.{used_some, uses_of}
use Rattle.range_server.proofs.Roads.{answered_none, answered_some, left_closed, left_nothing, path_none, path_of, path_path, room_some}
use Rattle.range_server.proofs.AnyPieces.{heads_new, sound_new}
use Rattle.range_server.proofs.Talks.{starts_behind, starts_longer, starts_with, talked_nothing, talked_quiet, talked_read, talked_received, talked_sent, talked_unread}

-- one step of a core
pub path_taken : (core end : Core) (piece : List ℕ) (n : ℕ) → IsSound core → n ≡ used_len core piece → end ≡ after core (take n piece)
    → Path core (take n piece) (answered_with core (take n piece)) end
path_taken core end piece n sound e is =
    let at_used = path_of core (used_of core piece) sound (uses_of core sound piece) in
    let at_n = subst (λ k. Path core (take k piece) (answered_with core (take k piece)) (after core (take k piece))) (sym e) at_used in
    subst (Path core (take n piece) (answered_with core (take n piece))) (sym is) at_n

-- receipts
counted_nothing : (image : List ℕ) (receipt : Receipt) → receipt.sent ≤ 2 ^ 64 - 1 → receipt ≡ counted image receipt []
counted_nothing image receipt fits = both receipt.requests receipt.sent fits
  where
    both : (requests sent : ℕ) → sent ≤ 2 ^ 64 - 1
        → (let r : Receipt = record { requests = requests; sent = sent } in r) ≡ record { requests = requests + 0; sent = min (sent + 0) (2 ^ 64 - 1) }
    both requests sent small =
        let e : requests ≡ requests + 0 = omega arith in
        let f : sent ≡ min (sent + 0) (2 ^ 64 - 1) = omega arith in
        let make : ℕ → ℕ → Receipt = λ a b. record { requests = a; sent = b } in
        ap (λ a. make a sent) e ∙ ap (λ b. make (requests + 0) b) f

counted_counted : (image : List ℕ) (receipt : Receipt) (hs ks : List (List ℕ)) → counted image (counted image receipt hs) ks ≡ counted image receipt (hs ++ ks)
counted_counted image receipt hs ks =
    let make : ℕ → ℕ → Receipt = λ a b. record { requests = a; sent = b } in
    let a = length (flat_map (reply_of image) hs) in
    let b = length (flat_map (reply_of image) ks) in
    let e : receipt.requests + length hs + length ks ≡ receipt.requests + length (hs ++ ks) = omega (arith, length-append hs ks) in
    let both : length (flat_map (reply_of image) (hs ++ ks)) ≡ a + b = ap length (flat_map-append (reply_of image) hs ks) ∙ length-append (flat_map (reply_of image) hs) (flat_map (reply_of image) ks) in
    let f : min (min (receipt.sent + a) (2 ^ 64 - 1) + b) (2 ^ 64 - 1) ≡ min (receipt.sent + length (flat_map (reply_of image) (hs ++ ks))) (2 ^ 64 - 1) =
    min_min receipt.sent a b _ (2 ^ 64 - 1) both in
    ap (λ x. make x (min (min (receipt.sent + a) (2 ^ 64 - 1) + b) (2 ^ 64 - 1))) e ∙ ap (λ y. make (receipt.requests + length (hs ++ ks)) y) f
  where
    min_min : (s a b c m : ℕ) → c ≡ a + b → min (min (s + a) m + b) m ≡ min (s + c) m
    min_min s a b c m e = omega arith

counted_one : (image : List ℕ) (receipt : Receipt) (head : List ℕ) (n : ℕ) → n ≡ length (reply_of image head)
    → (let r : Receipt = record { requests = receipt.requests + 1; sent = min (receipt.sent + n) (2 ^ 64 - 1) } in r) ≡ counted image receipt (head ∷ [])
counted_one image receipt head n e =
    let make : ℕ → Receipt = λ b. record { requests = receipt.requests + 1; sent = min (receipt.sent + b) (2 ^ 64 - 1) } in
    ap make (e ∙ ap length (sym (append-nil (reply_of image head))))

pub receipt_is : (image : List ℕ) (answered : List (List ℕ)) → counted image no_receipt answered ≡ receipt_of image answered
receipt_is image answered =
    let make : ℕ → ℕ → Receipt = λ a b. record { requests = a; sent = b } in
    let n = length (flat_map (reply_of image) answered) in
    let e : 0 + length answered ≡ length answered = omega arith in
    let f : min (0 + n) (2 ^ 64 - 1) ≡ min n (2 ^ 64 - 1) = omega arith in
    ap (λ a. make a (min (0 + n) (2 ^ 64 - 1))) e ∙ ap (make (length answered)) f

pub counts_along : {image : List ℕ} {start end : Core} {input rest sent : List ℕ} {before now : Receipt} → AnswersAll image start end input rest sent before now
    → Counts start before → Counts end now
counts_along {image = image} {start = start} {end = end} {before = before} {now = now} all counts = record {
  requests = ap (λ (r : Receipt). r.requests) all.counts ∙ ap (λ n. n + length all.heads) counts.requests ∙ sym all.path.count;
  sent = let e = ap (λ (r : Receipt). r.sent) all.counts in omega arith;
}

-- parts of the input, one after another
pub all_none : {image : List ℕ} {core : Core} (input : List ℕ) (receipt : Receipt) → IsSound core → receipt.sent ≤ 2 ^ 64 - 1
    → AnswersAll image core core input input [] receipt receipt
all_none {image = image} {core = core} input receipt sound fits = record {
  used = [];
  heads = [];
  whole = refl;
  path = path_none core sound;
  sent_is = refl;
  counts = counted_nothing image receipt fits;
}

pub all_all : {image : List ℕ} {a b c : Core} {input rest last s s' : List ℕ} {r r' r'' : Receipt} → AnswersAll image a b input rest s r r'
    → AnswersAll image b c rest last s' r' r'' → AnswersAll image a c input last (s ++ s') r r''
all_all {image = image} {a = a} {b = b} {c = c} {last = last} {s = s} {s' = s'} {r = r} p q = record {
  used = p.used ++ q.used;
  heads = p.heads ++ q.heads;
  whole = p.whole ∙ ap (λ xs. p.used ++ xs) q.whole ∙ sym (append_assoc p.used q.used last);
  path = path_path a b c p.used q.used p.heads q.heads p.path q.path;
  sent_is = ap (λ xs. xs ++ s') p.sent_is ∙ ap (λ xs. flat_map (reply_of image) p.heads ++ xs) q.sent_is ∙ sym (flat_map-append (reply_of image) p.heads q.heads);
  counts = q.counts ∙ ap (λ x. counted image x q.heads) p.counts ∙ counted_counted image r p.heads q.heads;
}

pub all_part : {image : List ℕ} {a b c : Core} {input rest s s' : List ℕ} {r r' r'' : Receipt} → AnswersAll image a b input rest s r r'
    → AnswersPart image b c rest s' r' r'' → AnswersPart image a c input (s ++ s') r r''
all_part {image = image} {a = a} {b = b} {c = c} {s = s} {s' = s'} {r = r} p q = record {
  used = p.used ++ q.used;
  rest = q.rest;
  heads = p.heads ++ q.heads;
  head = q.head;
  part = q.part;
  whole = p.whole ∙ ap (λ xs. p.used ++ xs) q.whole ∙ sym (append_assoc p.used q.used q.rest);
  path =
      subst (λ hs. Path a (p.used ++ q.used) hs c) (sym (append_assoc p.heads q.heads (q.head ∷ [])))
      (path_path a b c p.used q.used p.heads (q.heads ++ q.head ∷ []) p.path q.path);
  sent_is =
      ap (λ xs. xs ++ s') p.sent_is ∙ ap (λ xs. flat_map (reply_of image) p.heads ++ xs) q.sent_is
      ∙ sym (append_assoc (flat_map (reply_of image) p.heads) (flat_map (reply_of image) q.heads) q.part)
      ∙ ap (λ xs. xs ++ q.part) (sym (flat_map-append (reply_of image) p.heads q.heads));
  part_is = q.part_is;
  counts = q.counts ∙ ap (λ x. counted image x q.heads) p.counts ∙ counted_counted image r p.heads q.heads;
}

-- more input, where all was used
pub all_more : {image : List ℕ} {a b : Core} {input rest s : List ℕ} {r r' : Receipt} (more : List ℕ) → rest ≡ [] → AnswersAll image a b input rest s r r'
    → AnswersAll image a b (input ++ more) more s r r'
all_more {rest = rest} more none p = record {
  used = p.used;
  heads = p.heads;
  whole = ap (λ xs. xs ++ more) p.whole ∙ append_assoc p.used rest more ∙ ap (λ xs. p.used ++ (xs ++ more)) none;
  path = p.path;
  sent_is = p.sent_is;
  counts = p.counts;
}

at_none : {A : Type 0} (P : Type 0) (o : Option A) → o ≡ None → IfNone o P → P
at_none P o e h = subst (λ x. IfNone x P) e h

at_some : {A : Type 0} (P : A → Type 0) (o : Option A) (a : A) → o ≡ Some a → IfSome o P → P a
at_some P o a e h = subst (λ x. IfSome x P) e h

-- a step that ends no head
pub next_waits : (image : List ℕ) (core end : Core) (piece : List ℕ) (link : LinkState) (receipt : Receipt) (n : ℕ) (reply : Option Reply)
    → IsSound core → core.closed ≡ false → 0 < length piece → Counts core receipt → n ≡ used_len core piece → n ≤ length piece
    → end ≡ after core (take n piece) → reply ≡ None → IfNone reply (next_len (core.kept ++ take n piece) ≡ None)
    → AnswersNext image core end piece link link receipt receipt (Ok n)
next_waits image core end piece link receipt n reply sound going some counts is_used fits is_end is_none silent =
    let none = at_none (next_len (core.kept ++ take n piece) ≡ None) reply is_none silent in
    record {
      sent = [];
      talked = talked_nothing link;
      ok = (
        (let more = used_some core sound piece going some in omega arith),
        fits,
        record {
          used = take n piece;
          heads = [];
          whole = sym (take-append-drop n piece);
          path = subst (λ hs. Path core (take n piece) hs end) (answered_none core (take n piece) none) (path_taken core end piece n sound is_used is_end);
          sent_is = refl;
          counts = counted_nothing image receipt counts.sent;
        },
      );
      err = tt;
      failed = λ h. cc;
    }

-- one that ends a head, whose reply is sent
path_head : (core end : Core) (piece : List ℕ) (n : ℕ) → IsSound core → n ≡ used_len core piece → end ≡ after core (take n piece)
    → (let h = core.kept ++ take n piece in next_len h ≡ Some (length h)) → Path core (take n piece) ((core.kept ++ take n piece) ∷ []) end
path_head core end piece n sound is_used is_end ends =
    subst (λ hs. Path core (take n piece) hs end) (answered_some core (take n piece) _ ends) (path_taken core end piece n sound is_used is_end)

length_bytes : (image : List ℕ) (reply : Reply) → (body_of reply).0 + (body_of reply).1 ≤ length image
    → length (head_of reply) + (body_of reply).1 ≡ length (bytes_of image reply)
length_bytes image reply within =
    let first = (body_of reply).0 in
    let count = (body_of reply).1 in
    let dropped : length (drop first image) ≡ length image - first = length-drop first image in
    let fits : first + count - first ≤ length (drop first image) = omega arith in
    let part : length (slice_range image first (first + count)) ≡ first + count - first = length-take-le (first + count - first) (drop first image) fits in
    let all = length-append (head_of reply) (slice_range image first (first + count)) in
    omega arith

pub next_answers : {T : Type 0} {t : T} (image : List ℕ) (core end : Core) (piece : List ℕ) (old new : LinkState) (receipt now : Receipt) (n : ℕ) (given : Option Reply) (reply : Reply)
    → IsSound core → core.closed ≡ false → 0 < length piece → core.size ≡ length image → n ≡ used_len core piece → n ≤ length piece
    → end ≡ after core (take n piece)
    → given ≡ Some reply → IfSome given (λ r. let h = core.kept ++ take n piece in (next_len h ≡ Some (length h)) × Answers core.size h r)
    → SendsReply old new (bytes_of image reply) (Ok t)
    → now ≡ record { requests = receipt.requests + 1; sent = min (receipt.sent + (length (head_of reply) + (body_of reply).1)) (2 ^ 64 - 1) }
    → AnswersNext image core end piece old new receipt now (Ok n)
next_answers image core end piece old new receipt now n given reply sound going some size is_used fits is_end is_some ended sends is_now =
    let h = core.kept ++ take n piece in
    let answers = at_some (λ r. let h = core.kept ++ take n piece in (next_len h ≡ Some (length h)) × Answers core.size h r) given reply is_some ended in
    let text : bytes_of image reply ≡ reply_of image h = answers.1.bytes image (sym size) in
    record {
      sent = sends.sent;
      talked = sends.talked;
      ok = (
        (let more = used_some core sound piece going some in omega arith),
        fits,
        record {
          used = take n piece;
          heads = h ∷ [];
          whole = sym (take-append-drop n piece);
          path = path_head core end piece n sound is_used is_end answers.0;
          sent_is = sends.ok ∙ text ∙ sym (append-nil (reply_of image h));
          counts = is_now ∙ counted_one image receipt h _ (length_bytes image reply (let w = answers.1.within in omega arith) ∙ ap length text);
        },
      );
      err = tt;
      failed = λ e. cc;
    }

same_failed : {S T : Type 0} (x : LinkError) → (let r : Result S LinkError = Err x in r) ≡ Err Failed → (let r : Result T LinkError = Err x in r) ≡ Err Failed
same_failed x e = let f : x ≡ Failed = cc in ap Err f

-- one that ends a head, whose reply is sent in part
pub next_part : {T : Type 0} (image : List ℕ) (core end : Core) (piece : List ℕ) (old new : LinkState) (receipt : Receipt) (n : ℕ) (given : Option Reply) (reply : Reply)
    (error : LinkError) (result : Result ℕ LinkError) → IsSound core → core.size ≡ length image → Counts core receipt → n ≡ used_len core piece
    → end ≡ after core (take n piece)
    → given ≡ Some reply → IfSome given (λ r. let h = core.kept ++ take n piece in (next_len h ≡ Some (length h)) × Answers core.size h r)
    → SendsReply {T = T} old new (bytes_of image reply) (Err error) → result ≡ Err error → AnswersNext image core end piece old new receipt receipt result
next_part {T = T} image core end piece old new receipt n given reply error result sound size counts is_used is_end is_some ended sends is_err =
    subst (AnswersNext image core end piece old new receipt receipt) (sym is_err) at_error
  where
    at_error : AnswersNext image core end piece old new receipt receipt (Err error)
    at_error =
        let h = core.kept ++ take n piece in
        let answers = at_some (λ r. let h = core.kept ++ take n piece in (next_len h ≡ Some (length h)) × Answers core.size h r) given reply is_some ended in
        let text : bytes_of image reply ≡ reply_of image h = answers.1.bytes image (sym size) in
        record {
          sent = sends.sent;
          talked = sends.talked;
          ok = tt;
          err = record {
            used = take n piece;
            rest = drop n piece;
            heads = [];
            head = h;
            part = sends.sent;
            whole = sym (take-append-drop n piece);
            path = path_head core end piece n sound is_used is_end answers.0;
            sent_is = refl;
            part_is = subst (λ xs. StartsWith xs sends.sent) text sends.err;
            counts = counted_nothing image receipt counts.sent;
          };
          failed = λ (e : (let r : Result ℕ LinkError = Err error in r) ≡ Err Failed). sends.failed (same_failed error e);
        }

-- what of a piece was used until now
pub record HasUsed (image : List ℕ) (start end : Core) (piece rest : List ℕ) (old new : LinkState) (before now : Receipt) : Type 0 where
  pub sent : List ℕ
  pub talked : Talked old new [] sent
  pub all : AnswersAll image start end piece rest sent before now

pub used_nothing : (image : List ℕ) (core : Core) (piece : List ℕ) (link : LinkState) (receipt : Receipt) → IsSound core → Counts core receipt
    → HasUsed image core core piece piece link link receipt receipt
used_nothing image core piece link receipt sound counts = record { sent = []; talked = talked_nothing link; all = all_none piece receipt sound counts.sent }

pub used_more : {image : List ℕ} {a b c : Core} {piece rest last : List ℕ} {old mid new : LinkState} {r r' r'' : Receipt} {n : ℕ}
    → HasUsed image a b piece rest old mid r r' → AnswersNext image b c rest mid new r' r'' (Ok n) → last ≡ drop n rest
    → HasUsed image a c piece last old new r r''
used_more {image = image} {a = a} {c = c} {piece = piece} {old = old} {new = new} {r = r} {r'' = r''} p q is =
    subst (λ xs. HasUsed image a c piece xs old new r r'') (sym is)
    (record { sent = p.sent ++ q.sent; talked = talked_sent p.talked q.talked; all = all_all p.all q.ok.2 })

pub serves_all : {T : Type 0} {t : T} {image : List ℕ} {a b : Core} {piece rest : List ℕ} {old new : LinkState} {r r' : Receipt}
    → HasUsed image a b piece rest old new r r' → (rest ≡ []) ⊎ (b.closed ≡ true) → ServesPiece {T = T} image a b piece old new r r' (Ok t)
serves_all {rest = rest} p over = record { sent = p.sent; talked = p.talked; ok = (rest, p.all, over); err = tt; failed = λ h. cc }

pub serves_part : {T : Type 0} {image : List ℕ} {a b c : Core} {piece rest : List ℕ} {old mid new : LinkState} {r r' r'' : Receipt} {error : LinkError}
    (result : Result T LinkError) → HasUsed image a b piece rest old mid r r' → AnswersNext image b c rest mid new r' r'' (Err error) → result ≡ Err error
    → ServesPiece {T = T} image a c piece old new r r'' result
serves_part {T = T} {image = image} {a = a} {c = c} {piece = piece} {old = old} {new = new} {r = r} {r'' = r''} {error = error} result p q is =
    subst (ServesPiece {T = T} image a c piece old new r r'') (sym is) (record {
      sent = p.sent ++ q.sent;
      talked = talked_sent p.talked q.talked;
      ok = tt;
      err = all_part p.all q.err;
      failed = λ (e : (let x : Result T LinkError = Err error in x) ≡ Err Failed).
          let f : error ≡ Failed = cc in
          omega (arith, q.failed (ap Err f), p.talked.faults);
    })

-- the piece by another name
pub piece_along : {T : Type 0} {image : List ℕ} {a b : Core} {piece other : List ℕ} {old new : LinkState} {r r' : Receipt} {result : Result T LinkError}
    → piece ≡ other → ServesPiece image a b piece old new r r' result → ServesPiece image a b other old new r r' result
piece_along {image = image} {a = a} {b = b} {old = old} {new = new} {r = r} {r' = r'} {result = result} e p =
    subst (λ xs. ServesPiece image a b xs old new r r' result) e p

-- what a connection was served until now
pub record HasServed (image : List ℕ) (end : Core) (old new : LinkState) (now : Receipt) : Type 0 where
  pub received : List ℕ
  pub rest : List ℕ
  pub sent : List ℕ
  pub talked : Talked old new received sent
  pub all : AnswersAll image (new_core (length image)) end received rest sent no_receipt now
  pub over : (rest ≡ []) ⊎ (end.closed ≡ true)

pub served_nothing : (image : List ℕ) (core : Core) (link : LinkState) (receipt : Receipt) → core ≡ new_core (length image) → receipt ≡ no_receipt
    → HasServed image core link link receipt
served_nothing image core link receipt is_core is_receipt =
    subst (λ c. HasServed image c link link receipt) (sym is_core) (subst (HasServed image (new_core (length image)) link link) (sym is_receipt) (record {
      received = [];
      rest = [];
      sent = [];
      talked = talked_nothing link;
      all = all_none [] no_receipt (sound_new (length image)) (omega arith);
      over = inl refl;
    }))

-- nothing is left of what was received where the core is open
none_left : {image : List ℕ} {core : Core} {old new : LinkState} {now : Receipt} → (p : HasServed image core old new now) → core.closed ≡ false → p.rest ≡ []
none_left {core = core} p going = elim p.over [ inl none ↦ none | inr shut ↦ let e : true ≡ false = sym shut ∙ going in cc ]

counts_new : (size : ℕ) → Counts (new_core size) no_receipt
counts_new size = record { requests = refl; sent = omega arith }

pub counts_served : {image : List ℕ} {core : Core} {old new : LinkState} {now : Receipt} → HasServed image core old new now → Counts core now
counts_served {image = image} p = counts_along p.all (counts_new (length image))

pub served_more : {T : Type 0} {t : T} {image : List ℕ} {b c : Core} {into : List ℕ} {old mid read new : LinkState} {r r' : Receipt} {n : ℕ}
    → HasServed image b old mid r → b.closed ≡ false → Receives mid read into (Ok n)
    → ServesPiece {T = T} image b c (take n into) read new r r' (Ok t) → HasServed image c old new r'
served_more {into = into} {n = n} p going q serves = record {
  received = p.received ++ take n into;
  rest = serves.ok.0;
  sent = p.sent ++ serves.sent;
  talked = talked_sent (talked_received p.talked (talked_read q)) serves.talked;
  all = all_all (all_more (take n into) (none_left p going) p.all) serves.ok.1;
  over = serves.ok.2;
}

-- it uses less of what is left
pub room_falls : {T : Type 0} {t : T} {image : List ℕ} {b c : Core} (into : List ℕ) (n : ℕ) {old new : LinkState} {r r' : Receipt} → IsSound b
    → b.closed ≡ false → n ≤ length into → (n ≡ 0 → ⊥) → ServesPiece {T = T} image b c (take n into) old new r r' (Ok t) → room c < room b
room_falls {b = b} {c = c} into n sound going fits some serves = elim serves.ok.2 [
  | inl none ↦
      let used = serves.ok.1.used in
      let e : take n into ≡ used ++ [] = serves.ok.1.whole ∙ ap (λ xs. used ++ xs) none in
      let len : length (take n into) ≡ length used = ap length (e ∙ append-nil used) in
      let all : length (take n into) ≡ n = length-take-le n into fits in
      let any : 0 < n = elim (eq-or-lt_of_le (let low : 0 ≤ n = omega arith in low)) [ inl e ↦ absurd (some (sym e)) | inr more ↦ more ] in
      let less = serves.ok.1.path.room_left in
      omega arith
  | inr shut ↦
      let none : room c ≡ 0 = ap (λ x. cond x 0 ((most_heads - c.answered) * 8192 - length c.kept)) shut in
      let more = room_some b sound going in
      omega arith
]

-- the heads of all that was received
heads_all : {image : List ℕ} {core : Core} {input rest s : List ℕ} {r r' : Receipt} → (p : AnswersAll image (new_core (length image)) core input rest s r r')
    → (rest ≡ []) ⊎ (core.closed ≡ true) → heads input ≡ p.heads
heads_all {image = image} {core = core} {input = input} {rest = rest} p over =
    sym (heads_new (length image) input) ∙ ap (heads_left (new_core (length image))) p.whole ∙ p.path.left rest
    ∙ ap (λ hs. p.heads ++ hs) none ∙ append-nil p.heads
  where
    none : heads_left core rest ≡ []
    none = elim over [ inl e ↦ ap (heads_left core) e ∙ left_nothing core p.path.sound | inr shut ↦ left_closed core rest shut ]

replies_of : (image bytes : List ℕ) (hs : List (List ℕ)) → heads bytes ≡ hs → replies image bytes ≡ flat_map (reply_of image) hs
unfolding replies
replies_of image bytes hs e = ap (flat_map (reply_of image)) e

all_served : {image : List ℕ} {core : Core} {old new : LinkState} {now : Receipt} → (p : HasServed image core old new now) → ServesAll image p.received p.sent now
all_served {image = image} p =
    let e = heads_all p.all p.over in
    record {
      sent_is = p.all.sent_is ∙ sym (replies_of image p.received p.all.heads e);
      receipt_is = p.all.counts ∙ receipt_is image p.all.heads ∙ ap (receipt_of image) (sym e);
    }

-- the end of input
pub serves_to_end : {image : List ℕ} {core : Core} {old mid new : LinkState} {now : Receipt} {into : List ℕ} {n : ℕ} → HasServed image core old mid now
    → n ≡ 0 → Receives mid new into (Ok n) → Serves image old new (Ok now)
serves_to_end {image = image} {old = old} {mid = mid} {new = new} {now = now} {into = into} p none received =
    let q : Receives mid new into (Ok 0) = subst (λ k. Receives mid new into (Ok k)) none received in
    record {
      received = p.received;
      sent = p.sent;
      talked = talked_quiet p.talked (talked_read q);
      ok = all_served p;
      over = inl (omega (arith, q.ended refl, p.talked.ends));
      err = tt;
      front = tt;
      failed = λ receipt e. cc;
    }

-- a core that is closed
finished : {image : List ℕ} {core : Core} {old new : LinkState} {now : Receipt} → (p : HasServed image core old new now) → core.closed ≡ true → IsFinished p.received
finished {image = image} p shut =
    let e = heads_all p.all p.over in
    elim (p.all.path.closing shut) [
      | inl before ↦ let never : false ≡ true = before in cc
      | inr (inl any) ↦ inl (let h : list_any closes_after (heads p.received) ≡ true = ap (list_any closes_after) e ∙ any in h)
      | inr (inr most) ↦ inr (let n = p.all.path.count in let m = ap length e in omega arith)
    ]

pub serves_to_close : {image : List ℕ} {core : Core} {old new : LinkState} {now : Receipt} → HasServed image core old new now → core.closed ≡ true
    → Serves image old new (Ok now)
serves_to_close p shut = record {
  received = p.received;
  sent = p.sent;
  talked = p.talked;
  ok = all_served p;
  over = inr (finished p shut);
  err = tt;
  front = tt;
  failed = λ receipt e. cc;
}

-- refusals
error_receipt : (error : LinkError) (receipt : Receipt) → receipt_in (error_of error receipt) ≡ receipt
error_receipt Failed receipt = refl
error_receipt Memory receipt = refl

error_failed : (error : LinkError) (receipt other : Receipt) → error_of error receipt ≡ LinkFailed other → error ≡ Failed
error_failed Failed receipt other e = refl
error_failed Memory receipt other e = cc

pub serves_to_read : {image : List ℕ} {core : Core} {old mid new : LinkState} {now : Receipt} {into : List ℕ} {error : LinkError} → HasServed image core old mid now
    → Receives mid new into (Err error) → Serves image old new (Err (error_of error now))
serves_to_read {image = image} {old = old} {mid = mid} {new = new} {now = now} {error = error} p q =
    let all = all_served p in
    record {
      received = p.received;
      sent = p.sent;
      talked = talked_quiet p.talked (talked_unread q);
      ok = tt;
      over = tt;
      err = record {
        answered = heads p.received;
        others = [];
        part = [];
        heads_are = sym (append-nil (heads p.received));
        sent_is = all.sent_is ∙ replies_of image p.received (heads p.received) refl ∙ sym (append-nil (flat_map (reply_of image) (heads p.received)));
        part_is = refl;
        receipt_is = error_receipt error now ∙ all.receipt_is;
      };
      front = starts_with (replies image p.received) p.sent [] (sym all.sent_is ∙ sym (append-nil p.sent));
      failed = λ receipt e.
          let f = error_failed error now receipt (refused _ _ e) in
          omega (arith, q.failed (ap Err f), p.talked.faults);
    }
  where
    refused : (x y : ServeError) → (let r : Result Receipt ServeError = Err x in r) ≡ Err y → x ≡ y
    refused x y e = cc

front_served : {image input sent : List ℕ} {core : Core} {now : Receipt} → AnswersPart image (new_core (length image)) core input sent no_receipt now
    → ServesFront image input sent now
front_served {image = image} {input = input} {core = core} p = record {
  answered = p.heads;
  others = p.head ∷ heads_left core p.rest;
  part = p.part;
  heads_are =
      sym (heads_new (length image) input) ∙ ap (heads_left (new_core (length image))) p.whole ∙ p.path.left p.rest
      ∙ append_assoc p.heads (p.head ∷ []) (heads_left core p.rest);
  sent_is = p.sent_is;
  part_is = p.part_is;
  receipt_is = p.counts ∙ receipt_is image p.heads;
}

starts_front : (image input sent part : List ℕ) (answered others : List (List ℕ)) → heads input ≡ answered ++ others → sent ≡ flat_map (reply_of image) answered ++ part
    → IsPartOfNext image part others → StartsWith (replies image input) sent
starts_front image input sent part answered [] e is none =
    starts_with (replies image input) sent [] (replies_of image input answered (e ∙ append-nil answered)
    ∙ sym (is ∙ ap (λ xs. flat_map (reply_of image) answered ++ xs) none ∙ append-nil (flat_map (reply_of image) answered)) ∙ sym (append-nil sent))
starts_front image input sent part answered (head ∷ others) e is front =
    let all = replies_of image input (answered ++ head ∷ others) e ∙ flat_map-append (reply_of image) answered (head ∷ others) in
    let at_next = starts_behind (flat_map (reply_of image) answered) (flat_map (reply_of image) (head ∷ others)) part
    (starts_longer (reply_of image head) (flat_map (reply_of image) others) part front) in
    subst (λ xs. StartsWith xs sent) (sym all) (subst (StartsWith (flat_map (reply_of image) answered ++ flat_map (reply_of image) (head ∷ others))) (sym is) at_next)

pub serves_to_write : {T : Type 0} {image : List ℕ} {b c : Core} {into : List ℕ} {old mid read new : LinkState} {r r' : Receipt} {n : ℕ} {error : LinkError}
    → HasServed image b old mid r → b.closed ≡ false → Receives mid read into (Ok n)
    → ServesPiece {T = T} image b c (take n into) read new r r' (Err error) → Serves image old new (Err (error_of error r'))
serves_to_write {T = T} {image = image} {into = into} {old = old} {read = read} {new = new} {r' = r'} {n = n} {error = error} p going q serves =
    let part = all_part (all_more (take n into) (none_left p going) p.all) serves.err in
    let front = front_served part in
    let talked = talked_received p.talked (talked_read q) in
    record {
      received = p.received ++ take n into;
      sent = p.sent ++ serves.sent;
      talked = talked_sent talked serves.talked;
      ok = tt;
      over = tt;
      err = subst (ServesFront image (p.received ++ take n into) (p.sent ++ serves.sent)) (sym (error_receipt error r')) front;
      front = starts_front image (p.received ++ take n into) (p.sent ++ serves.sent) front.part front.answered front.others front.heads_are front.sent_is front.part_is;
      failed = λ receipt e.
          let f = error_failed error r' receipt (refused _ _ e) in
          omega (arith, serves.failed (ap Err f), talked.faults);
    }
  where
    refused : (x y : ServeError) → (let r : Result Receipt ServeError = Err x in r) ≡ Err y → x ≡ y
    refused x y e = cc
