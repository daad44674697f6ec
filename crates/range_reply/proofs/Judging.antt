-- Answers, and what they answer.
use Rattle.std.proofs.Common.{◌≡◌, ◌≤◌, ◌+◌, ◌-◌, ◌∙◌, ℕ, refl, sym, ap, subst, arith, Bool, true, false, List, ◌++◌, length, slice_range, Option, Some, None}
use Rattle.std.specs.Prelude.{◌==◌, if◌then◌else◌, IfSome, IfNone, min, nat_lt}
use Rattle.std.specs.Option.{option_map, option_map_or}
use Rattle.std.proofs.lemmas.Bool.Decides.{nat_tests}
use Rattle.httparse.specs.Grammar.{RequestHead}
use Rattle.range_text.specs.declared.answers.RangeAnswer.{RangeAnswer}
use Rattle.range_text.specs.declared.answers.RangeAnswer.TheVariants.{Whole, Part, Unsatisfied}
use Rattle.range_text.specs.Ranges.{Range, SpellsRange, answer_to, at_end, between, from_on}
use Rattle.range_text.proofs.Forms.{range_found}
use Rattle.request_head.specs.Requests.{IsRequest, RequestParts, asks_to_close, parts_of}
use Rattle.request_head.proofs.Founds.{found_none, found_one, request_found, request_lacks}
use Rattle.range_reply.specs.declared.rows.Answer.TheVariants.{BadRequest}
use Rattle.range_reply.specs.declared.written.Reply.{Reply}
use Rattle.range_reply.specs.Spelled.{range_in}
use Rattle.range_reply.specs.Replies.{answer_of, answer_request, answer_served, closes_after, closes_after_request, head_text, is_served, range_of_value, reply_of, request_of}
use Rattle.range_reply.specs.Parts.{IsPartWithin}
use Rattle.range_reply.specs.Written.{Answers, Gives, body_of, bytes_of}
use Rattle.range_reply.proofs.Texts.{body_is, part_fits}

-- the answer of `read_range` is that to the value
told_at : (size : ℕ) (value : List ℕ) (found : Option Range) (result : RangeAnswer) → IfSome found (SpellsRange value)
    → IfNone found ((range : Range) → ¬ (SpellsRange value range))
    → ((range : Range) → SpellsRange value range → result ≡ answer_to size range)
    → (((range : Range) → SpellsRange value range → ⊥) → result ≡ Whole)
    → result ≡ option_map_or (answer_to size) found Whole
told_at size value None result some none spelled other = other none
told_at size value (Some range) result some none spelled other = spelled range some

pub range_told : (size : ℕ) (value : List ℕ) (result : RangeAnswer)
    → ((range : Range) → SpellsRange value range → result ≡ answer_to size range)
    → (((range : Range) → SpellsRange value range → ⊥) → result ≡ Whole)
    → result ≡ range_of_value size value
range_told size value result spelled other = told_at size value (range_in value).found result (range_in value).fits (range_in value).nothing spelled other

-- a part of the answer lies in the image
within_either : (size : ℕ) (b : Bool) (x y : RangeAnswer) → (b ≡ true → IsPartWithin size x) → (b ≡ false → IsPartWithin size y)
    → IsPartWithin size (if b then x else y)
within_either size true x y yes_x no_y = yes_x refl
within_either size false x y yes_x no_y = no_y refl

answer_within : (size : ℕ) (range : Range) → IsPartWithin size (answer_to size range)
answer_within size (between a b) =
    within_either size (nat_lt b a) Whole (if nat_lt a size then Part a (min b (size - 1)) else Unsatisfied) (λ _. tt) (λ order.
    within_either size (nat_lt a size) (Part a (min b (size - 1))) Unsatisfied (λ inside. grind (arith, nat_tests)) (λ _. tt))
answer_within size (from_on a) =
    within_either size (nat_lt a size) (Part a (size - 1)) Unsatisfied (λ inside. grind (arith, nat_tests)) (λ _. tt)
answer_within size (at_end k) =
    within_either size (k == 0) Unsatisfied (if size == 0 then Whole else Part (size - k) (size - 1)) (λ _. tt) (λ some.
    within_either size (size == 0) Whole (Part (size - k) (size - 1)) (λ _. tt) (λ filled. grind (arith, nat_tests)))

value_within : (size : ℕ) (found : Option Range) → IsPartWithin size (option_map_or (answer_to size) found Whole)
value_within size None = tt
value_within size (Some range) = answer_within size range

pub range_within : (size : ℕ) (value : List ℕ) (result : RangeAnswer) → result ≡ range_of_value size value → IsPartWithin size result
range_within size value result e = subst (IsPartWithin size) (sym e) (value_within size (range_in value).found)

-- which request the bytes are
pub request_is : (bytes : List ℕ) (request : RequestParts) → ((tree : RequestHead) × IsRequest bytes tree × (request ≡ parts_of tree))
    → request_of bytes ≡ Some request
request_is bytes request read = ap (option_map parts_of) (request_found bytes read.0 read.1) ∙ ap Some (sym read.2)

pub request_is_none : (bytes : List ℕ) → ((tree : RequestHead) → ¬ (IsRequest bytes tree)) → request_of bytes ≡ None
request_is_none bytes none = ap (option_map parts_of) (request_lacks bytes none)

-- a reply that gives the answer to a head answers it
bytes_at : (image head : List ℕ) (reply : Reply) → Gives (length image) (answer_of (length image) head) (closes_after head) reply
    → bytes_of image reply ≡ reply_of image head
unfolding reply_of
bytes_at image head reply gives =
    ap (λ (h : List ℕ). h ++ slice_range image (body_of reply).0 ((body_of reply).0 + (body_of reply).1)) gives.head
    ∙ ap (λ (p : ℕ × ℕ). head_text (length image) (answer_of (length image) head) (closes_after head) ++ slice_range image p.0 (p.0 + p.1)) gives.body
    ∙ ap (λ (b : List ℕ). head_text (length image) (answer_of (length image) head) (closes_after head) ++ b)
    (body_is image (answer_of (length image) head) gives.fits)

pub gives_answers : (size : ℕ) (head : List ℕ) (reply : Reply) → Gives size (answer_of size head) (closes_after head) reply → Answers size head reply
gives_answers size head reply gives = record {
  bytes = λ image e. bytes_at image head reply (subst (λ (s : ℕ). Gives s (answer_of s head) (closes_after head) reply) (sym e) gives);
  within = subst (λ (p : ℕ × ℕ). p.0 + p.1 ≤ size) (sym gives.body) (part_fits size (answer_of size head) gives.fits);
  closes = gives.closing;
}

answers_at : (size : ℕ) (head : List ℕ) (reply : Reply) (request : Option RequestParts) → request_of head ≡ request
    → Gives size (option_map_or (answer_request size) request BadRequest) (option_map_or closes_after_request request true) reply → Answers size head reply
answers_at size head reply request e gives =
    gives_answers size head reply
    (subst (λ (r : Option RequestParts). Gives size (option_map_or (answer_request size) r BadRequest) (option_map_or closes_after_request r true) reply) (sym e) gives)

pub answers_request : (size : ℕ) (head : List ℕ) (reply : Reply) (request : RequestParts)
    → ((tree : RequestHead) × IsRequest head tree × (request ≡ parts_of tree))
    → Gives size (answer_request size request) (closes_after_request request) reply → Answers size head reply
answers_request size head reply request read gives = answers_at size head reply (Some request) (request_is head request read) gives

pub answers_none : (size : ℕ) (head : List ℕ) (reply : Reply) → ((tree : RequestHead) → ¬ (IsRequest head tree))
    → Gives size BadRequest true reply → Answers size head reply
answers_none size head reply none gives = answers_at size head reply None (request_is_none head none) gives

-- a bad request
pub gives_bad : (size : ℕ) (request : RequestParts) (reply : Reply) → is_served request ≡ false → Gives size BadRequest true reply
    → Gives size (answer_request size request) (closes_after_request request) reply
gives_bad size request reply bad gives =
    subst (λ b. Gives size (if b then answer_served size request else BadRequest) (if b then asks_to_close request else true) reply) (sym bad) gives

pub request_at : (bytes : List ℕ) (tree : RequestHead) → IsRequest bytes tree → request_of bytes ≡ Some (parts_of tree)
request_at bytes tree is = ap (option_map parts_of) (request_found bytes tree is)

-- which range the value spells
one_range : (value : List ℕ) (a b : Range) → SpellsRange value a → SpellsRange value b → a ≡ b
one_range value a b first second = let found = range_found value a first in let same = range_found value b second in cc

pub range_is : (size : ℕ) (value : List ℕ) (range : Range) → SpellsRange value range → range_of_value size value ≡ answer_to size range
range_is size value range spelled =
    ap (λ found. option_map_or (answer_to size) found Whole) (found_one (range_in value) range spelled (λ other fits. one_range value other range fits spelled))

pub range_is_none : (size : ℕ) (value : List ℕ) → ((range : Range) → ¬ (SpellsRange value range)) → range_of_value size value ≡ Whole
range_is_none size value none = ap (λ found. option_map_or (answer_to size) found Whole) (found_none (range_in value) none)
