-- Over a link that serves its image what comes is what was asked for.
use Rattle.std.proofs.Common.{◌≡◌, ℕ, ◌+◌, ◌-◌, ◌^◌, ◌<◌, ◌≤◌, true, false, List, [], ◌∷◌, ◌++◌, length, take, drop, refl, sym, ap, subst, ◌∙◌, arith, append_assoc, append-nil, length-append, inl, inr, ⊎_elim, lit≤, lit<}
use Rattle.std.specs.Prelude.{◌==◌, nat_eq, nat_lt, codes, if◌then◌else◌, slice_range, Some}
use Rattle.std.specs.List.{ends_with}
use Rattle.std.proofs.lemmas.Bool.{cases_lt, false≢true}
use Rattle.std.proofs.lemmas.Bool.Decides.{nat_tests}
use Rattle.std.proofs.lemmas.List.{take_all, length-take, length-drop, take-append-le, nil_from_length}
use Rattle.std.proofs.Math.Seq.{take-append_seam, drop-append_seam}
use Rattle.range_text.specs.declared.answers.ContentRange.TheVariants as content
use Rattle.range_text.specs.Ranges.{content_text}
use Rattle.std.proofs.lemmas.Fmt.{decimal_digit}
use Rattle.request_head.specs.Requests.{empty_line}
use Rattle.byte_links.specs.Exchange.{IsWithin, give, head, most_asks, nothing_given, part_given}
use Rattle.byte_links.specs.Link.{IsAsk, LinkState, Step, asked}
use Rattle.range_client.specs.declared.demands.Demand.{Demand}
use Rattle.range_client.specs.declared.demands.Demand.TheVariants.{FirstByte, Part}
use Rattle.range_client.specs.declared.faults.BadKind.{BadKind}
use Rattle.range_client.specs.declared.faults.BadKind.TheVariants.{Ended, Head, Status, ContentRange, Length}
use Rattle.range_client.specs.declared.faults.Fault.{Fault}
use Rattle.range_client.specs.declared.faults.Fault.TheVariants.{Memory, LinkFailed, Bad}
use Rattle.range_client.specs.Demands.{first_of, last_of}
use Rattle.range_client.specs.Judged.{IsGood, IsWrong}
use Rattle.range_client.specs.Replies.{BeginsWith, IsBad, IsCut, IsEndless, IsHead, IsReply}
use Rattle.range_client.specs.Exchanges.{Broke, Exchanged, LeavesNothing}
use Rattle.range_client.proofs.Judging.{good_wrong, one_good}
use Rattle.range_client.proofs.Telling.{Given, given_head, given_is_good, given_is_head, given_short}

-- heads at the front

-- a front of what has no end is endless bytes' own
front_of : (a b x y : List ℕ) → a ++ x ≡ b ++ y → length a ≤ length b → take (length a) b ≡ a
front_of a b x y e order = sym (take-append-le (length a) b y order) ∙ ap (take (length a)) (sym e) ∙ take-append_seam a x

true≢false : true ≡ false → ⊥
true≢false e = false≢true (sym e)

-- endless bytes are shorter than a head that begins as they do
pub endless_short : (got head x y : List ℕ) → got ++ x ≡ head ++ y → IsEndless got → IsHead head → length got < length head
endless_short got head x y e endless is =
    ⊎_elim (λ (less : length got < length head). less) (λ (more : length head ≤ length got).
    absurd (true≢false (sym is.ended ∙ ap (λ t. ends_with nat_eq t empty_line) (sym (front_of head got y x (sym e) more)) ∙ endless (length head) more)))
    (cases_lt (length got) (length head))

-- two heads that begin the same bytes are the same
no_shorter : (a b x y : List ℕ) → a ++ x ≡ b ++ y → IsHead a → IsHead b → length a < length b → ⊥
no_shorter a b x y e first second less =
    true≢false (sym first.ended ∙ ap (λ t. ends_with nat_eq t empty_line) (sym (front_of a b x y e (omega arith))) ∙ second.first (length a) less)

pub one_head : (a b x y : List ℕ) → a ++ x ≡ b ++ y → IsHead a → IsHead b → (a ≡ b) × (x ≡ y)
one_head a b x y e first second =
    ⊎_elim (λ (less : length a < length b). absurd (no_shorter a b x y e first second less)) (λ (more : length b ≤ length a).
    ⊎_elim (λ (greater : length b < length a). absurd (no_shorter b a y x (sym e) second first greater)) (λ (same : length a ≤ length b).
    let equal : length b ≡ length a = omega arith in
    let head : a ≡ b = sym (front_of a b x y e same) ∙ take_all (length a) b more in
    (head, sym (drop-append_seam a x) ∙ ap (drop (length a)) e ∙ ap (λ n. drop n (b ++ y)) (sym equal) ∙ drop-append_seam b y))
    (cases_lt (length b) (length a))) (cases_lt (length a) (length b))

-- what is given

-- a reply that is wanted, by its text
record IsGiven (text : List ℕ) (demand : Demand) (size : ℕ) (body : List ℕ) : Type 0 where
  head : List ℕ
  ends : IsHead head
  good : IsGood demand head (record { size = size; count = length body })
  short : length head ≤ 8192
  whole : text ≡ head ++ body

-- the demand is for a part of this image
abbrev pub IsFor : Demand → List ℕ → Type 0
IsFor FirstByte image = Unit {0}
IsFor (Part first last size) image = (size ≡ length image) × (first ≤ last) × (last < size)

pub for_within : (demand : Demand) (image : List ℕ) → IsFor demand image → IsWithin image (first_of demand) (last_of demand)
for_within FirstByte [] is = inr (refl, refl, refl)
for_within FirstByte (x ∷ image) is = inl (omega arith, omega arith)
for_within (Part first last size) image is = inl (is.1, omega (arith, is.0, is.2))

at_most_short : {n : ℕ} → n < 8192 → n ≤ 8192
at_most_short less = omega arith

-- a part of an image
given_part : (demand : Demand) (image : List ℕ) (a b : ℕ) → a ≤ b → b < length image
    → Given demand 206 (codes "Partial Content") (content.Part a b (length image)) (length image) (b - a + 1)
    → IsGiven (give image a b) demand (length image) (slice_range image a (b + 1))
unfolding part_given
given_part demand image a b order inside given =
    let some : (length image == 0) ≡ false = grind (arith, nat_tests) in
    let count : length (slice_range image a (b + 1)) ≡ b - a + 1 = simp (length-take, length-drop) (omega arith) in
    record {
      head = given_head 206 (codes "Partial Content") (content.Part a b (length image)) (b - a + 1);
      ends = given_is_head demand 206 (codes "Partial Content") (content.Part a b (length image)) (length image) (b - a + 1) given;
      good = subst (λ (n : ℕ). IsGood demand (given_head 206 (codes "Partial Content") (content.Part a b (length image)) (b - a + 1)) (record { size = length image; count = n })) (sym count)
          (given_is_good demand 206 (codes "Partial Content") (content.Part a b (length image)) (length image) (b - a + 1) given);
      short = at_most_short (given_short 206 (codes "Partial Content") (content.Part a b (length image)) (b - a + 1) given.tellable given.small (lit≤ tt));
      whole = ap (λ v. if v then nothing_given else part_given image a b) some;
    }

-- the head of the reply that there are no bytes, with these digits of its length
empty_text : List ℕ → List ℕ
empty_text digits = head (codes "HTTP/1.1 416 Range Not Satisfiable" ∷ codes "Accept-Ranges: bytes" ∷ (codes "Content-Range: " ++ content_text (content.Unsatisfied 0)) ∷ (codes "Content-Length: " ++ digits) ∷ [])

given_of : (demand : Demand) (image : List ℕ) → length image ≤ 2 ^ 48 → IsFor demand image
    → IsGiven (give image (first_of demand) (last_of demand)) demand (length image) (slice_range image (first_of demand) (last_of demand + 1))
unfolding nothing_given empty_text
given_of FirstByte [] small is =
    let given : Given FirstByte 416 (codes "Range Not Satisfiable") (content.Unsatisfied 0) 0 0 = record { line_is = refl; plain = refl; tellable = lit≤ tt; small = lit≤ tt; wanted = refl; range_is = refl; size_is = refl; count_is = refl } in
    record {
      head = given_head 416 (codes "Range Not Satisfiable") (content.Unsatisfied 0) 0;
      ends = given_is_head FirstByte 416 (codes "Range Not Satisfiable") (content.Unsatisfied 0) 0 0 given;
      good = given_is_good FirstByte 416 (codes "Range Not Satisfiable") (content.Unsatisfied 0) 0 0 given;
      short = at_most_short (given_short 416 (codes "Range Not Satisfiable") (content.Unsatisfied 0) 0 (lit≤ tt) (lit≤ tt) (lit≤ tt));
      whole = ap empty_text (sym (decimal_digit 0 (lit< tt))) ∙ sym (append-nil (given_head 416 (codes "Range Not Satisfiable") (content.Unsatisfied 0) 0));
    }
given_of FirstByte (x ∷ image) small is =
    given_part FirstByte (x ∷ image) 0 0 (omega arith) (omega arith)
    (record { line_is = refl; plain = refl; tellable = (omega arith, (omega arith, small)); small = lit≤ tt; wanted = refl; range_is = refl; size_is = grind (arith, nat_tests); count_is = refl })
given_of (Part first last size) image small is =
    let known : size ≡ length image = is.0 in
    let order : first ≤ last = is.1 in
    let inside : last < length image = omega (arith, is.2) in
    given_part (Part first last size) image first last order inside
    (record { line_is = refl; plain = refl; tellable = (order, (inside, small)); small = omega arith; wanted = refl; range_is = refl; size_is = grind (arith, nat_tests); count_is = refl })

-- what is coming behind an ask
coming_is : (image : List ℕ) (a b asks : ℕ) → asks < most_asks → (asked image a b asks).coming ≡ give image a b
coming_is image a b asks few =
    let left : nat_lt asks most_asks ≡ true = grind (arith, nat_tests) in
    ap (λ v. if v then give image a b else []) left

coming_none : (image : List ℕ) (a b asks : ℕ) → most_asks ≤ asks → (asked image a b asks).coming ≡ []
coming_none image a b asks many =
    let none : nat_lt asks most_asks ≡ false = grind (arith, nat_tests) in
    ap (λ v. if v then give image a b else []) none

-- a given reply is not bad

module _ (demand : Demand) (text body : List ℕ) (size : ℕ) (g : IsGiven text demand size body) (got head rest : List ℕ) (e : text ≡ got ++ rest) where
  both : got ++ rest ≡ g.head ++ body
  both = sym e ∙ g.whole

  begins : (more : List ℕ) → got ≡ head ++ more → IsHead head → (head ≡ g.head) × (more ++ rest ≡ body)
  begins more is ends =
      one_head head g.head (more ++ rest) body (sym (append_assoc head more rest) ∙ ap (λ l. l ++ rest) (sym is) ∙ both) ends g.ends

  not_wrong : (kind : BadKind) → BeginsWith got head → IsWrong demand head kind → ⊥
  not_wrong kind front wrong =
      let same = begins front.0 front.1 front.2 in
      good_wrong demand g.head (record { size = size; count = length body }) kind g.good (subst (λ (h : List ℕ). IsWrong demand h kind) same.0 wrong)

  not_endless : got ≡ head → IsEndless head → length head < length g.head
  not_endless is endless = endless_short head g.head rest body (ap (λ l. l ++ rest) (sym is) ∙ both) endless g.ends

  not_cut : IsCut demand got head → rest ≡ [] → ⊥
  not_cut (inl c) none =
      let less = not_endless c.0 c.1 in
      let same : length (got ++ rest) ≡ length (g.head ++ body) = ap length both in
      let all : length rest ≡ 0 = ap length none in
      let is : length got ≡ length head = ap length c.0 in
      omega (arith, length-append {A = ℕ}, same, all, is, less)
  not_cut (inr c) none =
      let same = begins c.0.0 c.0.1 c.0.2 in
      let count = (one_good demand g.head c.1 (record { size = size; count = length body }) (subst (λ (h : List ℕ). IsGood demand h c.1) same.0 c.2) g.good).1 in
      let len : length (c.0.0 ++ rest) ≡ length body = ap length same.1 in
      let all : length rest ≡ 0 = ap length none in
      omega (arith, length-append {A = ℕ}, count, len, all, c.3)

  not_bad : (kind : BadKind) → IsBad demand got head kind → LeavesNothing kind rest → ⊥
  not_bad Ended bad none = not_cut bad none
  not_bad Head (inl b) none = let less = not_endless b.0 b.1 in let short = g.short in let full = b.2 in omega arith
  not_bad Head (inr b) none = not_wrong Head b.0 b.1
  not_bad Status bad none = not_wrong Status bad.0 bad.1
  not_bad ContentRange bad none = not_wrong ContentRange bad.0 bad.1
  not_bad Length bad none = not_wrong Length bad.0 bad.1

leaves : (kind : BadKind) → LeavesNothing kind []
leaves Ended = refl
leaves Head = tt
leaves Status = tt
leaves ContentRange = tt
leaves Length = tt

-- a wanted reply is not bad
pub wanted_not_bad : (demand : Demand) (head body kept : List ℕ) (size : ℕ) (kind : BadKind) → IsReply demand head body size → IsBad demand (head ++ body) kept kind → ⊥
wanted_not_bad demand head body kept size kind reply bad =
    not_bad demand (head ++ body) body size (record { head = head; ends = reply.ends; good = reply.good; short = reply.short; whole = refl }) (head ++ body) kept []
    (sym (append-nil (head ++ body))) kind bad (leaves kind)

-- nothing but want of memory stops a request
pub broke_honest : (demand : Demand) (request : List ℕ) (old new : LinkState) (head : List ℕ) (fault : Fault) (image : List ℕ) (asks : ℕ)
    → Broke demand request old new head fault → old.image ≡ Some image → IsFor demand image
    → IsAsk old image request (first_of demand) (last_of demand) asks → asks < most_asks → fault ≡ Memory
broke_honest demand request old new head Memory image asks broke is for ask few = refl
broke_honest demand request old new head LinkFailed image asks broke is for ask few = absurd (broke.cause.1 image is)
broke_honest demand request old new head (Bad kind) image asks broke is for ask few =
    let came = broke.cause in
    let small : length image ≤ 2 ^ 48 = (came.2 image is (first_of demand) (last_of demand) asks ask).0 in
    let rest = (came.2 image is (first_of demand) (last_of demand) asks ask).1 in
    let text : give image (first_of demand) (last_of demand) ≡ came.0 ++ rest.0 = sym (coming_is image (first_of demand) (last_of demand) asks few) ∙ rest.1 in
    absurd (not_bad demand _ _ (length image) (given_of demand image small for) came.0 head rest.0 text kind came.1.bad rest.2)

-- what a client has then
pub record Honestly (demand : Demand) (image body : List ℕ) (size asks : ℕ) (new : LinkState) : Type 0 where
  pub size_is : size ≡ length image
  pub body_is : body ≡ slice_range image (first_of demand) (last_of demand + 1)
  pub step : new.step ≡ Some (record { coming = []; asks = asks + 1 })

nothing_ends : (head more : List ℕ) → [] ≡ head ++ more → IsHead head → ⊥
nothing_ends [] more e is = true≢false (sym is.ended)
nothing_ends (x ∷ head) more e is = cc

same_front : (body rest all : List ℕ) → body ++ rest ≡ all → length body ≡ length all → (body ≡ all) × (rest ≡ [])
same_front body rest all e same =
    let sum : length (body ++ rest) ≡ length all = ap length e in
    let none : length rest ≡ 0 = omega (arith, length-append {A = ℕ}) in
    let empty : rest ≡ [] = nil_from_length rest none in
    (sym (append-nil body) ∙ ap (λ l. body ++ l) (sym empty) ∙ e, empty)

pub exchanged_honest : (demand : Demand) (request : List ℕ) (old new : LinkState) (head into : List ℕ) (size : ℕ) (image : List ℕ) (asks : ℕ)
    → (x : Exchanged demand request old new head into size) → old.image ≡ Some image → IsFor demand image
    → IsAsk old image request (first_of demand) (last_of demand) asks → Honestly demand image (take x.count into) size asks new
exchanged_honest demand request old new head into size image asks x is for ask =
    ⊎_elim (λ (few : asks < most_asks).
    let text : give image (first_of demand) (last_of demand) ≡ head ++ (body ++ rest.0) = sym (coming_is image (first_of demand) (last_of demand) asks few) ∙ rest.1 ∙ append_assoc head body rest.0 in
    let g = given_of demand image (x.in_step image is (first_of demand) (last_of demand) asks ask).0 for in
    let same = one_head head g.head (body ++ rest.0) (slice_range image (first_of demand) (last_of demand + 1)) (sym text ∙ g.whole) x.reply.ends g.ends in
    let told = one_good demand g.head (record { size = size; count = length body }) (record { size = length image; count = length (slice_range image (first_of demand) (last_of demand + 1)) })
    (subst (λ (h : List ℕ). IsGood demand h (record { size = size; count = length body })) same.0 x.reply.good) g.good in
    let parts = same_front body rest.0 _ same.1 told.1 in
    let still : Honestly demand image body size asks new = record {
      size_is = told.0;
      body_is = parts.0;
      step = rest.2 ∙ ap (λ (l : List ℕ). Some (step_of l)) parts.1;
    } in
    still)
    (λ (many : most_asks ≤ asks).
    absurd (nothing_ends head (body ++ rest.0) (sym (coming_none image (first_of demand) (last_of demand) asks many) ∙ rest.1 ∙ append_assoc head body rest.0) x.reply.ends))
    (cases_lt asks most_asks)
  where
    body : List ℕ
    body = take x.count into

    rest : (r : List ℕ) × ((asked image (first_of demand) (last_of demand) asks).coming ≡ (head ++ take x.count into) ++ r) × (new.step ≡ Some (record { coming = r; asks = asks + 1 }))
    rest = (x.in_step image is (first_of demand) (last_of demand) asks ask).1

    step_of : List ℕ → Step
    step_of l = record { coming = l; asks = asks + 1 }
