-- An ask is one head, and the reply to it is what is given.
use Rattle.std.proofs.Common.{◌≡◌, ℕ, ◌+◌, ◌-◌, ◌^◌, ◌<◌, ◌≤◌, min, Bool, true, false, List, [], ◌∷◌, ◌++◌, length, refl, sym, ap, subst, ◌∙◌, arith, append_assoc, append-nil, length-append, inl, inr, lit≤, lit<, Option, Some, None}
use Rattle.std.specs.Prelude.{◌==◌, ◌&&◌, ◌||◌, codes, decimal, if◌then◌else◌, nat_eq, nat_lt, slice_range}
use Rattle.std.specs.List.{ends_with, flat_map, list_all}
use Rattle.std.specs.Option.{option_map_or}
use Rattle.std.proofs.lemmas.Bool.Decides.{nat_tests}
use Rattle.std.proofs.lemmas.Fmt.{decimal_digit}
use Rattle.std.proofs.lemmas.List.{take_all}
use Rattle.httparse.specs.Grammar.{ReadsRequest, is_token_byte, is_value_byte}
use Rattle.http1.specs.declared.error.WriteError.TheVariants.{InvalidHeader}
use Rattle.http1.specs.Fields.{Header}
use Rattle.http1.specs.Head.{are_headers, head_refusal, is_request_line, request_head, request_text}
use Rattle.http1.specs.Text.{eq_ignore_case}
use Rattle.http1.proofs.HeadLemmas.{request_text_is}
use Rattle.http1.proofs.TextLemmas.{list_all-append}
use Rattle.http1.proofs.HeadRoundTrip.{request_reads_back}
use Rattle.range_text.specs.declared.answers.ContentRange.TheVariants as content
use Rattle.range_text.specs.declared.answers.RangeAnswer.TheVariants.{Part, Unsatisfied, Whole}
use Rattle.range_text.specs.Ranges.{answer_to, between, content_text, range_text}
use Rattle.range_text.proofs.Digits.{decimal_room}
use Rattle.range_text.proofs.Written.{range_spelled}
use Rattle.request_head.specs.Requests.{IsRequest, RequestParts, asks_to_close, empty_line}
use Rattle.byte_links.specs.Exchange.{IsWithin, ask, give, head, line, nothing_given, part_given}
use Rattle.range_reply.specs.Heads.{next_len}
use Rattle.range_reply.specs.Replies.{answer_request, body_text, closes_after, closes_after_request, head_text, is_served, range_of_value, reply_of, request_of}
use Rattle.range_reply.proofs.Judging.{range_is, request_at}
use Rattle.range_server.proofs.Nexts.{next_is}
use Rattle.range_client.specs.Replies.{IsHead}
use Rattle.range_client.proofs.Lines.{head_of_lines, is_text}
use Rattle.range_client.proofs.Telling.{decimal_digits, digit_behind, digit_text, digit_value, digits_pass}

-- its text

abbrev pub ask_front : List ℕ
ask_front = codes "GET /map.fgb HTTP/1.1\r\nHost: 127.0.0.1\r\nRange: "

pub ask_text : (a b : ℕ) → ask a b ≡ ask_front ++ (range_text a b ++ codes "\r\n\r\n")
unfolding ask
ask_text a b =
    ap (λ l. ask_front ++ l)
    (ap (λ l. l ++ codes "\r\n") (append-nil (range_text a b ++ codes "\r\n")) ∙ append_assoc (range_text a b) (codes "\r\n") (codes "\r\n"))

-- the bytes of a range
range_passes : (test : ℕ → Bool) → ((d : ℕ) → 48 ≤ d → d ≤ 57 → test d ≡ true) → list_all test (codes "bytes=") ≡ true → list_all test (codes "-") ≡ true
    → (a b : ℕ) → a ≤ 2 ^ 48 → b ≤ 2 ^ 48 → list_all test (range_text a b) ≡ true
range_passes test each word dash a b first last =
    list_all-append test (codes "bytes=" ++ decimal a ++ codes "-") (decimal b)
    ∙ both (list_all-append test (codes "bytes=" ++ decimal a) (codes "-")
    ∙ both (list_all-append test (codes "bytes=") (decimal a) ∙ both word (digits_pass test each (decimal a) (decimal_digits a first).all)) dash)
    (digits_pass test each (decimal b) (decimal_digits b last).all)
  where
    both : {x y : Bool} → x ≡ true → y ≡ true → (x && y) ≡ true
    both p q = λ i. p i && q i

range_short : (a b : ℕ) → a ≤ 2 ^ 48 → b ≤ 2 ^ 48 → length (range_text a b) ≤ 37
range_short a b first last =
    let one = decimal_room a first in
    let two = decimal_room b last in
    simp length-append (omega arith)

text_short : (range : List ℕ) → length range ≤ 37 → length (ask_front ++ (range ++ codes "\r\n\r\n")) ≤ 8192
text_short range short = simp length-append (omega arith)

module _ (a b : ℕ) (first : a ≤ 2 ^ 48) (last : b ≤ 2 ^ 48) where
  ask_is_head : IsHead (ask a b)
  unfolding ask
  ask_is_head =
      head_of_lines (codes "GET /map.fgb HTTP/1.1") (codes "Host: 127.0.0.1" ∷ (codes "Range: " ++ range_text a b) ∷ []) (
        record { some = lit< tt; plain = refl },
        (record { some = lit< tt; plain = refl }, (record { some = omega arith; plain = range_passes is_text digit_text refl refl a b first last }, tt)),
      )

  ask_short : length (ask a b) ≤ 8192
  ask_short = subst (λ (l : List ℕ). length l ≤ 8192) (sym (ask_text a b)) (text_short (range_text a b) (range_short a b first last))

  -- it is one head
  pub ask_next : next_len (ask a b) ≡ Some (length (ask a b))
  ask_next = next_is (ask a b) (length (ask a b)) (
      record {
        within = omega arith;
        ends = ap (λ l. ends_with nat_eq l empty_line || (length (ask a b) == 8192)) (take_all (length (ask a b)) (ask a b) (omega arith))
            ∙ ap (λ v. v || (length (ask a b) == 8192)) ask_is_head.ended;
        first = λ m less.
            let other : (m == 8192) ≡ false = grind (arith, nat_tests, ask_short) in
            ap (λ v. v || (m == 8192)) (ask_is_head.first m less) ∙ other;
      }
      )

-- the request that it is

abbrev fields : ℕ → ℕ → List Header
fields a b = (codes "Host", codes "127.0.0.1") ∷ (codes "Range", range_text a b) ∷ []

abbrev parts : ℕ → ℕ → RequestParts
parts a b = record { method = codes "GET"; target = codes "/map.fgb"; minor = 1; fields = fields a b }

ask_is_text : (a b : ℕ) → ask a b ≡ request_text (codes "GET") (codes "/map.fgb") 1 (fields a b)
unfolding ask
ask_is_text a b =
    append_assoc (line (codes "GET /map.fgb HTTP/1.1")) (flat_map line (codes "Host: 127.0.0.1" ∷ (codes "Range: " ++ range_text a b) ∷ [])) (13 ∷ 10 ∷ [])
    ∙ request_text_is (codes "GET") (codes "/map.fgb") 1 (fields a b)

served : (a b : ℕ) → is_served (parts a b) ≡ true
unfolding eq_ignore_case
served a b = refl

stays : (a b : ℕ) → asks_to_close (parts a b) ≡ false
unfolding eq_ignore_case
stays a b = refl

module _ (a b : ℕ) (order : a ≤ b) (last : b ≤ 2 ^ 48) where
  valid : are_headers (fields a b) ≡ true
  unfolding are_headers is_token_byte
  valid =
      let behind = digit_behind (codes "bytes=" ++ decimal a ++ codes "-") (decimal b) (decimal_digits b last) in
      let bytes = range_passes is_value_byte digit_value refl refl a b (omega arith) last in
      λ i. (behind i && bytes i) && true

  accepted : head_refusal (is_request_line (codes "GET") (codes "/map.fgb") 1) (fields a b) ≡ None
  unfolding is_token_byte
  accepted = ap (λ v. if v then None else Some InvalidHeader) valid

  is_request : IsRequest (ask a b) (request_head (codes "GET") (codes "/map.fgb") 1 (fields a b))
  is_request = record {
    ended = (ask_is_head a b (omega arith) last).ended;
    reads = subst (λ (t : List ℕ). ReadsRequest t (request_head (codes "GET") (codes "/map.fgb") 1 (fields a b)) [])
        (append-nil (request_text (codes "GET") (codes "/map.fgb") 1 (fields a b)) ∙ sym (ask_is_text a b))
        (request_reads_back (codes "GET") (codes "/map.fgb") 1 (fields a b) [] accepted).reads;
    few = lit≤ tt;
  }

  with_fields : List Header → RequestParts
  with_fields fs = record { method = codes "GET"; target = codes "/map.fgb"; minor = 1; fields = fs }

  request_is : request_of (ask a b) ≡ Some (parts a b)
  unfolding with_fields
  request_is =
      request_at (ask a b) (request_head (codes "GET") (codes "/map.fgb") 1 (fields a b)) is_request
      ∙ ap (λ fs. Some (with_fields fs)) (request_reads_back (codes "GET") (codes "/map.fgb") 1 (fields a b) [] accepted).fields

  pub ask_stays : closes_after (ask a b) ≡ false
  ask_stays =
      ap (λ r. option_map_or closes_after_request r true) request_is ∙ ap (λ v. if v then asks_to_close (parts a b) else true) (served a b) ∙ stays a b

-- the reply to it

-- lines of a head, grouped anew
regroup : (s a c l e : List ℕ) → (((s ++ (a ++ c)) ++ l) ++ []) ++ e ≡ (s ++ (a ++ (c ++ (l ++ [])))) ++ e
regroup s a c l e = simp append_assoc

-- the head of a part, with this length
part_head : List ℕ → ℕ → ℕ → ℕ → List ℕ
part_head image a b count = head (codes "HTTP/1.1 206 Partial Content" ∷ codes "Accept-Ranges: bytes" ∷ (codes "Content-Range: " ++ content_text (content.Part a b (length image))) ∷ (codes "Content-Length: " ++ decimal count) ∷ [])

part_text : (image : List ℕ) (a b : ℕ) → a ≤ b
    → (((line (codes "HTTP/1.1 206 Partial Content") ++ (line (codes "Accept-Ranges: bytes") ++ line (codes "Content-Range: " ++ content_text (content.Part a b (length image)))))
    ++ line (codes "Content-Length: " ++ decimal (b + 1 - a)) ++ []) ++ line []) ++ slice_range image a (b + 1)
    ≡ part_given image a b
unfolding part_given part_head
part_text image a b order =
    let count : b + 1 - a ≡ b - a + 1 = omega arith in
    ap (λ l. l ++ slice_range image a (b + 1))
    (regroup (line (codes "HTTP/1.1 206 Partial Content")) (line (codes "Accept-Ranges: bytes")) (line (codes "Content-Range: " ++ content_text (content.Part a b (length image))))
    (line (codes "Content-Length: " ++ decimal (b + 1 - a))) (line [])
    ∙ ap (part_head image a b) count)

nothing_head : List ℕ → List ℕ
nothing_head digits = head (codes "HTTP/1.1 416 Range Not Satisfiable" ∷ codes "Accept-Ranges: bytes" ∷ (codes "Content-Range: " ++ content_text (content.Unsatisfied 0)) ∷ (codes "Content-Length: " ++ digits) ∷ [])

nothing_text :
    (((line (codes "HTTP/1.1 416 Range Not Satisfiable") ++ (line (codes "Accept-Ranges: bytes") ++ line (codes "Content-Range: " ++ content_text (content.Unsatisfied 0))))
    ++ line (codes "Content-Length: " ++ decimal 0) ++ []) ++ line []) ++ []
    ≡ nothing_given
unfolding nothing_given nothing_head
nothing_text =
    append-nil ((((line (codes "HTTP/1.1 416 Range Not Satisfiable") ++ (line (codes "Accept-Ranges: bytes") ++ line (codes "Content-Range: " ++ content_text (content.Unsatisfied 0))))
    ++ line (codes "Content-Length: " ++ decimal 0) ++ []) ++ line []))
    ∙ regroup (line (codes "HTTP/1.1 416 Range Not Satisfiable")) (line (codes "Accept-Ranges: bytes")) (line (codes "Content-Range: " ++ content_text (content.Unsatisfied 0)))
    (line (codes "Content-Length: " ++ decimal 0)) (line [])
    ∙ ap nothing_head (decimal_digit 0 (lit< tt))

-- a request that is answered 400
abbrev nobody : RequestParts
nobody = record { method = []; target = []; minor = 1; fields = [] }

-- the reply to what may be a request
abbrev reply_by : List ℕ → Option RequestParts → List ℕ
reply_by image request =
    head_text (length image) (option_map_or (answer_request (length image)) request (answer_request 0 nobody)) (option_map_or closes_after_request request true)
    ++ body_text image (option_map_or (answer_request (length image)) request (answer_request 0 nobody))

reply_is : (image bytes : List ℕ) → reply_of image bytes ≡ reply_by image (request_of bytes)
unfolding reply_of
reply_is image bytes = refl

by_part : (image : List ℕ) (a b : ℕ) → a ≤ b → range_of_value (length image) (range_text a b) ≡ Part a b → reply_by image (Some (parts a b)) ≡ part_given image a b
unfolding eq_ignore_case
by_part image a b order is = rw is (part_text image a b order)

by_none : range_of_value 0 (range_text 0 0) ≡ Unsatisfied → reply_by [] (Some (parts 0 0)) ≡ nothing_given
unfolding eq_ignore_case
by_none is = rw is nothing_text

range_told : (size a b : ℕ) → a ≤ b → b ≤ 2 ^ 48 → range_of_value size (range_text a b) ≡ answer_to size (between a b)
range_told size a b order last = range_is size (range_text a b) (between a b) (range_spelled (range_text a b) a b refl order last)

-- the answer to places of an image
pub answer_inside : (size a b : ℕ) → a ≤ b → b < size → answer_to size (between a b) ≡ Part a b
answer_inside size a b order inside =
    let forward : nat_lt b a ≡ false = grind (arith, nat_tests) in
    let within : nat_lt a size ≡ true = grind (arith, nat_tests) in
    let least : min b (size - 1) ≡ b = omega arith in
    ap (λ v. if v then Whole else (if nat_lt a size then Part a (min b (size - 1)) else Unsatisfied)) forward
    ∙ ap (λ v. if v then Part a (min b (size - 1)) else Unsatisfied) within
    ∙ ap (Part a) least

pub ask_reply : (image : List ℕ) (a b : ℕ) → length image ≤ 2 ^ 48 → IsWithin image a b → reply_of image (ask a b) ≡ give image a b
ask_reply image a b small (inl fits) =
    let order : a ≤ b = fits.0 in
    let last : b ≤ 2 ^ 48 = omega (arith, fits.1) in
    let some : (length image == 0) ≡ false = by_length (length image) fits.1 in
    reply_is image (ask a b)
    ∙ ap (reply_by image) (request_is a b order last)
    ∙ by_part image a b order (range_told (length image) a b order last ∙ answer_inside (length image) a b order fits.1)
    ∙ sym (ap (λ v. if v then nothing_given else part_given image a b) some)
  where
    by_length : (n : ℕ) → b < n → (n == 0) ≡ false
    by_length n less = grind (arith, nat_tests)
ask_reply [] a b small (inr none) =
    ap (λ n. reply_of [] (ask n b)) none.1 ∙ ap (λ n. reply_of [] (ask 0 n)) none.2
    ∙ reply_is [] (ask 0 0) ∙ ap (reply_by []) (request_is 0 0 (lit≤ tt) (lit≤ tt)) ∙ by_none (range_told 0 0 0 (lit≤ tt) (lit≤ tt))
ask_reply (x ∷ image) a b small (inr none) = absurd (omega (arith, none.0))
