-- The head that a link in step gives is one that was asked for.
use Rattle.std.proofs.Common.{◌≡◌, ℕ, ◌+◌, ◌^◌, ◌<◌, ◌≤◌, Bool, true, false, List, [], ◌∷◌, ◌++◌, length, refl, sym, ap, subst, ◌∙◌, arith, append_assoc, append-nil, length-append, lit≤, lit<, Some, None, reverse}
use Rattle.std.specs.Prelude.{◌&&◌, bytes_eq, codes, decimal, if◌then◌else◌}
use Rattle.std.specs.Option.{option_map_or}
use Rattle.std.specs.List.{list_all, AllByRecursion, flat_map}
use Rattle.std.specs.Str.{all_ascii_digits}
use Rattle.std.proofs.lemmas.Bool.Decides.{nat_tests}
use Rattle.std.proofs.lemmas.List.{reverse-append}
use Rattle.std.proofs.lemmas.Slice.Eq.{bytes_eq-Decides}
use Rattle.httparse.specs.Grammar.{ReadsResponse, is_token_byte, is_value_byte}
use Rattle.http1.specs.Fields.{Header, values_named}
use Rattle.http1.specs.declared.error.WriteError.TheVariants.{InvalidHeader, InvalidStartLine}
use Rattle.http1.specs.Head.{are_headers, head_refusal, is_status_line, response_head, response_text, starts_visible, status_digits}
use Rattle.http1.specs.Text.{eq_ignore_case}
use Rattle.http1.proofs.HeadLemmas.{response_text_is}
use Rattle.http1.proofs.HeadRoundTrip.{response_reads_back}
use Rattle.http1.proofs.TextLemmas.{list_all-append}
use Rattle.range_text.specs.declared.answers.ContentRange.{ContentRange as Content}
use Rattle.range_text.specs.declared.answers.ContentRange.TheVariants as content
use Rattle.range_text.specs.Ranges.{IsTellable, content_text}
use Rattle.range_text.proofs.Digits.{decimal_room, decimal_spells, number_parts}
use Rattle.range_text.proofs.Written.{content_spelled}
use Rattle.request_head.specs.Requests.{only}
use Rattle.byte_links.specs.Exchange.{head, line}
use Rattle.response_head.specs.Responses.{IsResponse, ResponseParts, only_value, parts_of}
use Rattle.range_client.specs.declared.demands.Demand.{Demand}
use Rattle.range_client.specs.Demands.{is_size, is_status, length_wanted, range_wanted}
use Rattle.range_client.specs.Judged.{IsGood, IsWanted, TellsRange}
use Rattle.range_client.specs.Replies.{IsHead}
use Rattle.range_client.proofs.Lines.{IsLine, head_of_lines, is_text}

-- digits

-- decimal digits, at least one
pub record AreDigits (digits : List ℕ) : Type 0 where
  pub some : 1 ≤ length digits
  pub all : all_ascii_digits digits ≡ true

pub decimal_digits : (n : ℕ) → n ≤ 2 ^ 48 → AreDigits (decimal n)
decimal_digits n small = let parts = number_parts (decimal n) (decimal_spells n small).form in record { some = parts.0; all = parts.2 }

-- digits pass a test that each digit passes
pub digits_pass : (test : ℕ → Bool) → ((d : ℕ) → 48 ≤ d → d ≤ 57 → test d ≡ true) → (digits : List ℕ) → all_ascii_digits digits ≡ true → list_all test digits ≡ true
digits_pass test each [] all = refl
digits_pass test each (d ∷ digits) all =
    let rest : all_ascii_digits digits ≡ true = grind arith in
    let low : 48 ≤ d = grind (arith, nat_tests) in
    let high : d ≤ 57 = grind (arith, nat_tests) in
    λ i. each d low high i && digits_pass test each digits rest i

pub digit_value : (d : ℕ) → 48 ≤ d → d ≤ 57 → is_value_byte d ≡ true
digit_value d low high = grind (arith, nat_tests)

pub digit_text : (d : ℕ) → 48 ≤ d → d ≤ 57 → is_text d ≡ true
digit_text d low high = grind (arith, nat_tests)

-- text with a digit at its end is visible from behind
visible_behind : (digits more : List ℕ) → 1 ≤ length digits → all_ascii_digits digits ≡ true → starts_visible (reverse digits ++ more) ≡ true
visible_behind [] more some all = absurd (omega arith)
visible_behind (d ∷ []) more some all = grind (arith, nat_tests)
visible_behind (d ∷ e ∷ digits) more some all =
    let rest : all_ascii_digits (e ∷ digits) ≡ true = grind arith in
    ap (λ l. starts_visible (l ++ more)) (reverse-append (d ∷ []) (e ∷ digits))
    ∙ ap starts_visible (append_assoc (reverse (e ∷ digits)) (d ∷ []) more)
    ∙ visible_behind (e ∷ digits) (d ∷ more) (omega arith) rest

pub digit_behind : (front digits : List ℕ) → AreDigits digits → starts_visible (reverse (front ++ digits)) ≡ true
digit_behind front digits are =
    ap starts_visible (reverse-append front digits) ∙ visible_behind digits (reverse front) are.some are.all

-- what a Content-Range field tells
range_passes : (test : ℕ → Bool) → ((d : ℕ) → 48 ≤ d → d ≤ 57 → test d ≡ true) → list_all test (codes "bytes ") ≡ true → list_all test (codes "-") ≡ true
    → list_all test (codes "/") ≡ true → list_all test (codes "bytes */") ≡ true → (range : Content) → IsTellable range → list_all test (content_text range) ≡ true
range_passes test each word dash slash star (content.Part a b n) told =
    let first = digits_pass test each (decimal a) (decimal_digits a (omega arith)).all in
    let last = digits_pass test each (decimal b) (decimal_digits b (omega arith)).all in
    let size = digits_pass test each (decimal n) (decimal_digits n (omega arith)).all in
    list_all-append test (codes "bytes " ++ decimal a ++ codes "-" ++ decimal b ++ codes "/") (decimal n)
    ∙ both (list_all-append test (codes "bytes " ++ decimal a ++ codes "-" ++ decimal b) (codes "/")
    ∙ both (list_all-append test (codes "bytes " ++ decimal a ++ codes "-") (decimal b)
    ∙ both (list_all-append test (codes "bytes " ++ decimal a) (codes "-")
    ∙ both (list_all-append test (codes "bytes ") (decimal a) ∙ both word first) dash) last) slash) size
  where
    both : {x y : Bool} → x ≡ true → y ≡ true → (x && y) ≡ true
    both p q = λ i. p i && q i
range_passes test each word dash slash star (content.Unsatisfied n) told =
    list_all-append test (codes "bytes */") (decimal n)
    ∙ (λ i. star i && digits_pass test each (decimal n) (decimal_digits n told).all i)

range_front : (range : Content) → starts_visible (content_text range) ≡ true
range_front (content.Part a b n) = refl
range_front (content.Unsatisfied n) = refl

range_behind : (range : Content) → IsTellable range → starts_visible (reverse (content_text range)) ≡ true
range_behind (content.Part a b n) told = digit_behind (codes "bytes " ++ decimal a ++ codes "-" ++ decimal b ++ codes "/") (decimal n) (decimal_digits n (omega arith))
range_behind (content.Unsatisfied n) told = digit_behind (codes "bytes */") (decimal n) (decimal_digits n told)

-- the fields

abbrev fields : Content → ℕ → List Header
fields range count = (codes "Accept-Ranges", codes "bytes") ∷ (codes "Content-Range", content_text range) ∷ (codes "Content-Length", decimal count) ∷ []

fields_valid : (range : Content) (count : ℕ) → IsTellable range → count ≤ 2 ^ 48 → are_headers (fields range count) ≡ true
unfolding are_headers is_token_byte
fields_valid range count told small =
    let front = range_front range in
    let back = range_behind range told in
    let bytes = range_passes is_value_byte digit_value refl refl refl refl range told in
    let digits = decimal_digits count small in
    let count_behind = digit_behind [] (decimal count) digits in
    let count_bytes = digits_pass is_value_byte digit_value (decimal count) digits.all in
    let count_front : starts_visible (decimal count) ≡ true = visible_front (decimal count) digits in
    λ i. (front i && (back i && bytes i)) && ((count_front i && (count_behind i && count_bytes i)) && true)
  where
    visible_front : (ds : List ℕ) → AreDigits ds → starts_visible ds ≡ true
    visible_front [] are = let some = are.some in absurd (omega arith)
    visible_front (d ∷ ds) are = let all = are.all in grind (arith, nat_tests)

-- a head of this status, which tells this range and this length
abbrev pub lines_behind : Content → ℕ → List (List ℕ)
lines_behind range count = codes "Accept-Ranges: bytes" ∷ (codes "Content-Range: " ++ content_text range) ∷ (codes "Content-Length: " ++ decimal count) ∷ []

abbrev pub given_head : ℕ → List ℕ → Content → ℕ → List ℕ
given_head status reason range count = head ((codes "HTTP/1.1 " ++ status_digits status ++ 32 ∷ reason) ∷ lines_behind range count)

given_text : (status : ℕ) (reason : List ℕ) (range : Content) (count : ℕ) → given_head status reason range count ≡ response_text 1 status reason (fields range count)
given_text status reason range count =
    append_assoc (line (codes "HTTP/1.1 " ++ status_digits status ++ 32 ∷ reason)) (flat_map line (lines_behind range count)) (13 ∷ 10 ∷ [])
    ∙ response_text_is 1 status reason (fields range count)

-- what such a head has to tell
pub record Given (demand : Demand) (status : ℕ) (reason : List ℕ) (range : Content) (size count : ℕ) : Type 0 where
  pub line_is : is_status_line 1 status reason ≡ true
  pub plain : list_all is_text (codes "HTTP/1.1 " ++ status_digits status ++ 32 ∷ reason) ≡ true
  pub tellable : IsTellable range
  pub small : count ≤ 2 ^ 48
  pub wanted : is_status demand status ≡ true
  pub range_is : range ≡ range_wanted demand status size
  pub size_is : is_size demand status size ≡ true
  pub count_is : count ≡ length_wanted demand status

range_named : (range : Content) (count : ℕ) → only (values_named (codes "content-range") (fields range count)) ≡ Some (content_text range)
unfolding eq_ignore_case
range_named range count = refl

length_named : (range : Content) (count : ℕ) → only (values_named (codes "content-length") (fields range count)) ≡ Some (decimal count)
unfolding eq_ignore_case
length_named range count = refl

module _ (demand : Demand) (status : ℕ) (reason : List ℕ) (range : Content) (size count : ℕ) (given : Given demand status reason range size count) where
  lines_are : AllByRecursion IsLine ((codes "HTTP/1.1 " ++ status_digits status ++ 32 ∷ reason) ∷ lines_behind range count)
  lines_are = (
    record { some = omega arith; plain = given.plain },
    (
      record { some = lit< tt; plain = refl },
      (
        record { some = omega arith; plain = range_passes is_text digit_text refl refl refl refl range given.tellable },
        (record { some = omega arith; plain = digits_pass is_text digit_text (decimal count) (decimal_digits count given.small).all }, tt),
      ),
    ),
  )

  pub given_is_head : IsHead (given_head status reason range count)
  given_is_head = head_of_lines (codes "HTTP/1.1 " ++ status_digits status ++ 32 ∷ reason) (lines_behind range count) lines_are

  accepted : head_refusal (is_status_line 1 status reason) (fields range count) ≡ None
  accepted =
      ap (λ b. if b then (if are_headers (fields range count) then None else Some InvalidHeader) else Some InvalidStartLine) given.line_is
      ∙ ap (λ b. if b then None else Some InvalidHeader) (fields_valid range count given.tellable given.small)

  reads : IsResponse (given_head status reason range count) (response_head 1 status reason (fields range count))
  reads = record {
    ended = given_is_head.ended;
    reads = subst (λ (b : List ℕ). ReadsResponse b (response_head 1 status reason (fields range count)) [])
        (append-nil (response_text 1 status reason (fields range count)) ∙ sym (given_text status reason range count))
        (response_reads_back 1 status reason (fields range count) [] accepted).reads;
    few = lit≤ tt;
  }

  wanted_at : (r : ResponseParts) → r.status ≡ status → r.fields ≡ fields range count → IsWanted demand r (record { size = size; count = count })
  wanted_at r e same =
      let is : range ≡ range_wanted demand r.status size = given.range_is ∙ ap (λ s. range_wanted demand s size) (sym e) in
      let only_range : only_value (codes "content-range") r ≡ Some (content_text range) = ap (λ fs. only (values_named (codes "content-range") fs)) same ∙ range_named range count in
      let only_length : only_value (codes "content-length") r ≡ Some (decimal count) = ap (λ fs. only (values_named (codes "content-length") fs)) same ∙ length_named range count in
      record {
        status = ap (is_status demand) e ∙ given.wanted;
        range = (
          subst (λ (t : Content). TellsRange r t) is
              (record { value = content_text range; only = only_range; spells = content_spelled (content_text range) range refl given.tellable }),
          ap (λ s. is_size demand s size) e ∙ given.size_is,
        );
        count = given.count_is ∙ ap (length_wanted demand) (sym e);
        length_is = ap (λ o. option_map_or (λ value. bytes_eq value (decimal count)) o false) only_length ∙ (bytes_eq-Decides (decimal count) (decimal count)).1 refl;
      }

  pub given_is_good : IsGood demand (given_head status reason range count) (record { size = size; count = count })
  given_is_good =
      let back = response_reads_back 1 status reason (fields range count) [] accepted in
      record {
        tree = response_head 1 status reason (fields range count);
        reads = reads;
        wanted = wanted_at (parts_of (response_head 1 status reason (fields range count))) back.code back.fields;
      }

-- it is short
length_four : (a b c d : List ℕ) → length (head (a ∷ b ∷ c ∷ d ∷ [])) ≡ length a + length b + length c + length d + 10
length_four a b c d = simp length-append (omega arith)

range_short : (range : Content) → IsTellable range → length (content_text range) ≤ 53
range_short (content.Part a b n) told =
    let first = decimal_room a (omega arith) in
    let last = decimal_room b (omega arith) in
    let size = decimal_room n (omega arith) in
    simp length-append (omega arith)
range_short (content.Unsatisfied n) told = let size = decimal_room n told in omega arith

pub given_short : (status : ℕ) (reason : List ℕ) (range : Content) (count : ℕ) → IsTellable range → count ≤ 2 ^ 48 → length reason ≤ 100
    → length (given_head status reason range count) < 8192
given_short status reason range count told small short =
    let room = range_short range told in
    let digits = decimal_room count small in
    let sum = length_four (codes "HTTP/1.1 " ++ status_digits status ++ 32 ∷ reason) (codes "Accept-Ranges: bytes") (codes "Content-Range: " ++ content_text range) (codes "Content-Length: " ++ decimal count) in
    omega arith
