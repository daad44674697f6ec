-- Places sorted by their ranks are the order of the features.
use Rattle.std.proofs.Common.{◌≡◌, ℕ, ◌+◌, ◌<◌, ◌≤◌, false, List, [], ◌∷◌, ◌++◌, zero, suc, add-one, length, map, get_or, sym, ap, ◌∙◌, subst, ⊎_elim, arith, eqb}
use Rattle.std.specs.List.{All, IsDistinct, range_with_len}
use Rattle.std.specs.List.Sorted.{IsNonDecreasingBy, IsPermutation, IsSortedByKey, IsStableByKey}
use Rattle.std.specs.Ordering.{is_lt, nat_cmp}
use Rattle.std.proofs.lemmas.Bool.{cases_lt}
use Rattle.std.proofs.lemmas.Bool.Decides.{nat_tests}
use Rattle.std.proofs.lemmas.List.{get_or-map, get_or_default, map-append, length-map}
use Rattle.std.proofs.lemmas.List.Elements.{All-push, All-same}
use Rattle.std.proofs.lemmas.List.FromFn.{get_or-range_with_len, length-range_with_len}
use Rattle.std.proofs.lemmas.List.Sorted.{All-permutation, IsPermutation-map, ties_still_rise}
use Rattle.std.proofs.lemmas.Map.Keys.{IsDistinct-IsPermutation, IsDistinct-from_apart, apart_from_distinct}
use Rattle.order_keys.specs.declared.bounds.Bounds.{Bounds}
use Rattle.order_keys.specs.Boxes.{empty}
use Rattle.feature_order.specs.declared.rank.Place.{Place}
use Rattle.feature_order.specs.Order.{ComesBefore, IsOrder, IsRank, extent}
use Rattle.feature_order.specs.Order.ComesBefore.{by_rank, by_number}
use Rattle.feature_order.specs.Places.{IsPlace}
use Rattle.feature_order.proofs.Extents.{nothing}

eqb_flips : (x y : ℕ) → eqb x y ≡ eqb y x
eqb_flips x y = grind (arith, nat_tests)

eqb_false : (x y : ℕ) → x < y → eqb x y ≡ false
eqb_false x y h = grind (arith, nat_tests)

eqb_self : (x y : ℕ) → x ≡ y → eqb x y ≡ false → ⊥
eqb_self x y e h = grind (arith, nat_tests)

not_lt : (x y : ℕ) → x ≤ y → is_lt (nat_cmp y x) ≡ false
not_lt x y h = grind (arith, nat_tests)

-- the numbers of all features are distinct, in any order
range_distinct : (n : ℕ) → IsDistinct eqb (range_with_len 0 n)
range_distinct n =
    IsDistinct-from_apart eqb (range_with_len 0 n) (λ i j d before there.
    let in_j : j < n = omega (arith, length-range_with_len 0 n) in
    let in_i : i < n = omega arith in
    let e = get_or-range_with_len 0 n i d in_i in
    let f = get_or-range_with_len 0 n j d in_j in
    eqb_false (get_or (range_with_len 0 n) i d) (get_or (range_with_len 0 n) j d) (omega arith))

abbrev pub numbers_of : List Place → List ℕ
numbers_of ps = map (λ (p : Place). p.number) ps

range_more : (a n j : ℕ) → a + n ≡ j → range_with_len a (suc n) ≡ range_with_len a n ++ j ∷ []
range_more a zero j e = ap (λ m. m ∷ []) (let f : a ≡ j = omega arith in f)
range_more a (suc n) j e = ap (λ ns. a ∷ ns) (range_more (a + 1) n j (omega arith))

-- one more place
pub numbers_more : (ps qs : List Place) (p : Place) → qs ≡ ps ++ p ∷ [] → numbers_of ps ≡ range_with_len 0 p.number → numbers_of qs ≡ range_with_len 0 (p.number + 1)
numbers_more ps qs p more is =
    ap numbers_of more
    ∙ map-append (λ (p : Place). p.number) ps (p ∷ [])
    ∙ ap (λ ns. ns ++ p.number ∷ []) is
    ∙ sym (ap (range_with_len 0) (add-one p.number) ∙ range_more 0 p.number p.number (omega arith))

pub place_is : (boxes : List Bounds) (around : Bounds) (p : Place) → around ≡ extent boxes → p.number < length boxes → IsRank around (get_or boxes p.number nothing) p.rank → IsPlace boxes p
place_is boxes around p e there h =
    subst (λ (b : Bounds). IsRank (extent boxes) b p.rank) (get_or_default boxes p.number nothing empty there)
    (subst (λ (a : Bounds). IsRank a (get_or boxes p.number nothing) p.rank) e h)

pub ranks_more : (boxes : List Bounds) (ps qs : List Place) (p : Place) → qs ≡ ps ++ p ∷ [] → All (IsPlace boxes) ps → IsPlace boxes p → All (IsPlace boxes) qs
ranks_more boxes ps qs p more all is = All-same (IsPlace boxes) qs (ps ++ p ∷ []) more (All-push (IsPlace boxes) ps p all is)

-- places by their numbers rise by them
numbers_rise : (n : ℕ) (ps : List Place) → numbers_of ps ≡ range_with_len 0 n → IsSortedByKey (λ (p : Place). p.number) nat_cmp ps
numbers_rise n ps is k d low there =
    let long : length ps ≡ n = sym (length-map ps (λ (p : Place). p.number)) ∙ ap length is ∙ length-range_with_len 0 n in
    let one = sym (get_or-map (λ (p : Place). p.number) ps k d 0 (omega arith)) ∙ ap (λ ns. get_or ns k 0) is ∙ get_or-range_with_len 0 n k 0 (omega arith) in
    let next = sym (get_or-map (λ (p : Place). p.number) ps (k + 1) d 0 there) ∙ ap (λ ns. get_or ns (k + 1) 0) is ∙ get_or-range_with_len 0 n (k + 1) 0 (omega arith) in
    not_lt (get_or ps k d).number (get_or ps (k + 1) d).number (omega arith)

comes_before : (boxes : List Bounds) (p q : Place) → IsPlace boxes p → IsPlace boxes q → p.rank ≤ q.rank → (p.rank ≡ q.rank → p.number ≤ q.number)
    → (p.number ≡ q.number → ⊥) → ComesBefore boxes p.number q.number
comes_before boxes p q in_p in_q rises ties apart = ⊎_elim
    (λ (below : p.rank < q.rank). by_rank p.rank q.rank in_p in_q below)
    (λ (above : q.rank ≤ p.rank).
    let same : q.rank ≡ p.rank = omega arith in
    by_number p.rank in_p (subst (IsRank (extent boxes) (get_or boxes q.number empty)) same in_q) (let least = ties (sym same) in omega arith))
    (cases_lt p.rank q.rank)

none : Place
none = record { rank = 0; number = 0 }

pub sorted_is_order : (boxes : List Bounds) (ps qs : List Place) → numbers_of ps ≡ range_with_len 0 (length boxes) → All (IsPlace boxes) ps
    → IsPermutation ps qs → IsNonDecreasingBy (λ (p : Place). p.rank) qs → IsStableByKey (λ (p : Place). p.rank) nat_cmp ps qs
    → IsOrder boxes (numbers_of qs)
sorted_is_order boxes ps qs is ranks moved sorted stable =
    let all : IsPermutation (range_with_len 0 (length boxes)) (numbers_of qs) =
    subst (λ ns. IsPermutation ns (numbers_of qs)) is (IsPermutation-map (λ (p : Place). p.number) ps qs moved) in
    let distinct = IsDistinct-IsPermutation eqb eqb_flips (range_with_len 0 (length boxes)) (numbers_of qs) all (range_distinct (length boxes)) in
    let placed = All-permutation (IsPlace boxes) ps qs moved ranks in
    record {
      all = all;
      rises = λ i there.
          let long : length (numbers_of qs) ≡ length qs = length-map qs (λ (p : Place). p.number) in
          let next : i + 1 < length qs = omega arith in
          let first : i < length qs = omega arith in
          let e = get_or-map (λ (p : Place). p.number) qs i none 0 first in
          let f = get_or-map (λ (p : Place). p.number) qs (i + 1) none 0 next in
          let ties = ties_still_rise (λ (p : Place). p.number) (λ (p : Place). p.rank) ps qs (numbers_rise (length boxes) ps is) stable i none next in
          let apart = apart_from_distinct eqb (numbers_of qs) i (i + 1) 0 distinct (omega arith) there in
          rw (e, f) (comes_before boxes (get_or qs i none) (get_or qs (i + 1) none) (placed i none first) (placed (i + 1) none next) (sorted i (i + 1) none (omega arith) next) ties
          (λ same. eqb_self (get_or (numbers_of qs) i 0) (get_or (numbers_of qs) (i + 1) 0) (e ∙ same ∙ sym f) apart));
    }
