-- Receipts of links, and their sums.
use Rattle.std.proofs.Common.{◌≡◌, ℕ, zero, suc, ◌+◌, ◌≤◌, Bool, true, false, not, cond, List, [], ◌∷◌, ◌++◌, length, take, drop, Option, Some, None, refl, sym, ap, ◌∙◌, subst, arith}
use Rattle.std.specs.Prelude.{IsFalse, flat_map, sum_by}
use Rattle.std.specs.List.{AllByRecursion}
use Rattle.std.specs.Option.{option_map_or}
use Rattle.std.proofs.lemmas.List.{length-append}
use Rattle.std.proofs.lemmas.List.Elements.{filter-append}
use Rattle.std.proofs.lemmas.List.Sums.{sum_by-append}
use Rattle.byte_links.specs.Accept.{Served}
use Rattle.range_reply.specs.Replies.{closes_after, reply_of}
use Rattle.range_reply.specs.Heads.{heads, heads_within, most_heads, next_len, replies}
use Rattle.range_server.specs.declared.receipts.Receipt.{Receipt}
use Rattle.range_server.specs.Serving.{ServesAll, ServesFront}
use Rattle.range_serving.specs.Entries.{IsAtMost, Sums, capped, nothing, plus, totals, unfailed}

-- a receipt with these numbers
abbrev make : ℕ → ℕ → Receipt
make requests sent = record { requests = requests; sent = sent }

at_most_both : (a b : Receipt) → IsAtMost a b → IsAtMost b a → a ≡ b
at_most_both a b p q =
    let e : a.requests ≡ b.requests = omega (arith, p.0, q.0) in
    let f : a.sent ≡ b.sent = omega (arith, p.1, q.1) in
    ap (λ n. make n a.sent) e ∙ ap (λ n. make b.requests n) f

at_most_self : (a : Receipt) → IsAtMost a a
at_most_self a = (omega arith, omega arith)

pub at_most_same : {a b : Receipt} → a ≡ b → IsAtMost a b
at_most_same {a = a} e = subst (IsAtMost a) e (at_most_self a)

plus_most : (a b c d : Receipt) → IsAtMost a b → IsAtMost c d → IsAtMost (plus a c) (plus b d)
plus_most a b c d p q = (omega (arith, p.0, q.0), omega (arith, p.1, q.1))

totals_plus : (xs ys : List Served) → totals (xs ++ ys) ≡ plus (totals xs) (totals ys)
totals_plus xs ys =
    let received : Served → ℕ = λ entry. length (heads entry.received) in
    let sent : Served → ℕ = λ entry. length entry.sent in
    ap (λ n. make n (capped (sum_by sent (xs ++ ys)))) (both _ _ _ (sum_by-append received xs ys))
    ∙ ap (λ n. make (capped (capped (sum_by received xs) + capped (sum_by received ys))) n) (both _ _ _ (sum_by-append sent xs ys))
  where
    both : (a b c : ℕ) → c ≡ a + b → capped c ≡ capped (capped a + capped b)
    both a b c e = omega arith

all_unfailed : (entries : List Served) → AllByRecursion (λ (entry : Served). IsFalse entry.failed) entries → unfailed entries ≡ entries
all_unfailed [] all = refl
all_unfailed (entry ∷ entries) all =
    ap (λ b. cond (not b) (entry ∷ unfailed entries) (unfailed entries)) all.0 ∙ ap (λ xs. entry ∷ xs) (all_unfailed entries all.1)

-- sums from their bounds
sums_of : (entries : List Served) (receipt : Receipt) → IsAtMost (totals (unfailed entries)) receipt → IsAtMost receipt (totals entries) → Sums entries receipt
sums_of entries receipt least most = record {
  exact = λ all. at_most_both receipt (totals entries) most (subst (λ xs. IsAtMost (totals xs) receipt) (all_unfailed entries all) least);
  least = least;
  most = most;
}

pub sums_none : Sums [] nothing
sums_none = sums_of [] nothing (omega arith, omega arith) (omega arith, omega arith)

pub sums_both : (xs ys : List Served) (a b : Receipt) → Sums xs a → Sums ys b → Sums (xs ++ ys) (plus a b)
sums_both xs ys a b p q =
    let parts : unfailed (xs ++ ys) ≡ unfailed xs ++ unfailed ys = filter-append (λ (entry : Served). not entry.failed) xs ys in
    sums_of (xs ++ ys) (plus a b)
    (subst (λ t. IsAtMost t (plus a b)) (sym (ap totals parts ∙ totals_plus (unfailed xs) (unfailed ys))) (plus_most (totals (unfailed xs)) a (totals (unfailed ys)) b p.least q.least))
    (subst (IsAtMost (plus a b)) (sym (totals_plus xs ys)) (plus_most a (totals xs) b (totals ys) p.most q.most))

pub sums_one : (entry : Served) (receipt : Receipt) → IsAtMost receipt (totals (entry ∷ [])) → (IsFalse entry.failed → receipt ≡ totals (entry ∷ [])) → Sums (entry ∷ []) receipt
sums_one entry receipt most whole = sums_of (entry ∷ []) receipt (least entry.failed whole) most
  where
    least : (failed : Bool) → (IsFalse failed → receipt ≡ totals (entry ∷ [])) → IsAtMost (totals (cond (not failed) (entry ∷ []) [])) receipt
    least true at_false = (omega arith, omega arith)
    least false at_false = subst (IsAtMost (totals (entry ∷ []))) (sym (at_false refl)) (at_most_self (totals (entry ∷ [])))

-- no more heads are answered than may be
one_head : (left : ℕ) (bytes : List ℕ) (o : Option ℕ) → ((n : ℕ) → length (heads_within left (drop n bytes)) ≤ left)
    → length (option_map_or (λ n. take n bytes ∷ (cond (closes_after (take n bytes)) [] (heads_within left (drop n bytes)))) o []) ≤ left + 1
one_head left bytes None others = omega arith
one_head left bytes (Some n) others = behind (closes_after (take n bytes)) (heads_within left (drop n bytes)) (others n)
  where
    behind : (closes : Bool) (hs : List (List ℕ)) → length hs ≤ left → length (take n bytes ∷ (cond closes [] hs)) ≤ left + 1
    behind true hs few = omega arith
    behind false hs few = omega arith

heads_few : (left : ℕ) (bytes : List ℕ) → length (heads_within left bytes) ≤ left
unfolding heads_within
heads_few zero bytes = omega arith
heads_few (suc left) bytes =
    let h = one_head left bytes (next_len bytes) (λ n. heads_few left (drop n bytes)) in
    omega (arith, h)

heads_fit : (bytes : List ℕ) → length (heads bytes) ≤ most_heads
unfolding heads
heads_fit bytes = heads_few most_heads bytes

-- the receipt of a link that was served wholly
pub whole_receipt : (image received sent : List ℕ) (failed ended : Bool) (receipt : Receipt) → ServesAll image received sent receipt
    → receipt ≡ totals (record { received = received; sent = sent; failed = failed; ended = ended } ∷ [])
unfolding replies
whole_receipt image received sent failed ended receipt all =
    let few = heads_fit received in
    let e : length (heads received) ≡ capped (0 + length (heads received)) = omega (arith, few) in
    let f : capped (length (flat_map (reply_of image) (heads received))) ≡ capped (0 + length sent) = capped_same _ _ (ap length (sym all.sent_is)) in
    all.receipt_is ∙ ap (λ n. make n (capped (length (flat_map (reply_of image) (heads received))))) e ∙ ap (make (capped (0 + length (heads received)))) f
  where
    capped_same : (a b : ℕ) → a ≡ b → capped a ≡ capped (0 + b)
    capped_same a b e = omega arith

-- of one that was served in part
pub part_receipt : (image received sent : List ℕ) (failed ended : Bool) (receipt : Receipt) → ServesFront image received sent receipt
    → IsAtMost receipt (totals (record { received = received; sent = sent; failed = failed; ended = ended } ∷ []))
part_receipt image received sent failed ended receipt front =
    let few = heads_fit received in
    let text = flat_map (reply_of image) front.answered in
    let e : length (heads received) ≡ length front.answered + length front.others = ap length front.heads_are ∙ length-append front.answered front.others in
    let f : length sent ≡ length text + length front.part = ap length front.sent_is ∙ length-append text front.part in
    subst (λ r. IsAtMost r (totals (record { received = received; sent = sent; failed = failed; ended = ended } ∷ []))) (sym front.receipt_is)
    (requests_fit _ _ _ e few, sent_fit _ _ _ f)
  where
    requests_fit : (a b c : ℕ) → c ≡ a + b → c ≤ most_heads → a ≤ capped (0 + c)
    requests_fit a b c e few = omega arith

    sent_fit : (a b c : ℕ) → c ≡ a + b → capped a ≤ capped (0 + c)
    sent_fit a b c e = omega arith
