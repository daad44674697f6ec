-- Numbers of hits, and lists that rise.
use Rattle.std.proofs.Common.{◌≡◌, ℕ, zero, suc, ◌+◌, ◌-◌, ◌<◌, ◌≤◌, true, List, [], ◌∷◌, ◌++◌, length, take, get_or, None, IsTrue, nat_eq, ◌↔◌, refl, sym, ap, subst, ◌∙◌, arith}
use Rattle.std.specs.List.{AllByRecursion}
use Rattle.std.proofs.lemmas.List.{map-append, take_more, length-map, take-map}
use Rattle.fgb_outside.specs.Asked.{Ascends}
use Rattle.level_bounds.specs.Levels.{IsNode, Shape, children_end, width}
use Rattle.tree_search.specs.declared.search.Hit.{Hit as Plain}
use Rattle.tree_search.specs.Descent.{first_number, numbers}
use Rattle.box_search.specs.declared.nodes.Hit.{Hit}
use Rattle.box_search.specs.Hits.{IsFollowed, number_at, plain, plains}
use Rattle.box_search.specs.Runs.{AreNear, ends_at, is_near}

-- what a read past the end would give
abbrev pub blank : Hit
blank = record {
  number = 0;
  item = record { bounds = record { min_x = record { 0 = 0 }; min_y = record { 0 = 0 }; max_x = record { 0 = 0 }; max_y = record { 0 = 0 } }; offset = 0 };
  next = None;
}

abbrev pub nums : List Hit → List ℕ
nums hits = numbers (plains hits)

pub length_plains : (hits : List Hit) → length (plains hits) ≡ length hits
length_plains hits = length-map hits plain

pub length_nums : (hits : List Hit) → length (nums hits) ≡ length hits
length_nums hits = length-map (plains hits) (λ (h : Plain). h.number) ∙ length_plains hits

pub number_is : (hits : List Hit) (i : ℕ) (d : Hit) → i < length hits → (get_or hits i d).number ≡ number_at hits i
number_is [] i d under = absurd (omega arith)
number_is (h ∷ hits) zero d under = refl
number_is (h ∷ hits) (suc i) d under = number_is hits i d (omega arith)

pub item_is : (hits : List Hit) (i : ℕ) (d : Hit) (P : Plain → Type 0) → AllByRecursion P (plains hits) → i < length hits → P (plain (get_or hits i d))
item_is [] i d P all under = absurd (omega arith)
item_is (h ∷ hits) zero d P all under = all.0
item_is (h ∷ hits) (suc i) d P all under = item_is hits i d P all.1 (omega arith)

-- one more
pub plains_more : (hits : List Hit) (h : Hit) → plains (hits ++ h ∷ []) ≡ plains hits ++ plain h ∷ []
plains_more hits h = map-append plain hits (h ∷ [])

pub take_nums : (hits : List Hit) (n : ℕ) → take n (nums hits) ≡ nums (take n hits)
take_nums hits n = take-map (λ (h : Plain). h.number) n (plains hits) ∙ ap numbers (take-map plain n hits)

pub nums_split : (hits run later : List Hit) → hits ≡ run ++ later → nums hits ≡ nums run ++ nums later
nums_split hits run later split = ap nums split ∙ ap numbers (map-append plain run later) ∙ map-append (λ (h : Plain). h.number) (plains run) (plains later)

-- lists that rise
pub rise_low : (low high : ℕ) (xs : List ℕ) → Ascends low high xs → low ≤ high
rise_low low high [] rise = rise
rise_low low high (x ∷ xs) rise = omega (arith, rise.0, rise_low (x + 1) high xs rise.1)

pub rise_at : (low high : ℕ) (xs : List ℕ) (i : ℕ) → Ascends low high xs → i < length xs → (low ≤ get_or xs i 0) × (get_or xs i 0 < high)
rise_at low high [] i rise under = absurd (omega arith)
rise_at low high (x ∷ xs) zero rise under = (rise.0, omega (arith, rise_low (x + 1) high xs rise.1))
rise_at low high (x ∷ xs) (suc i) rise under =
    let more = rise_at (x + 1) high xs i rise.1 (omega arith) in
    (omega (arith, rise.0, more.0), more.1)

pub rise_on : (low high : ℕ) (xs : List ℕ) (i : ℕ) → Ascends low high xs → i + 1 < length xs → get_or xs i 0 < get_or xs (i + 1) 0
rise_on low high [] i rise under = absurd (omega arith)
rise_on low high (x ∷ []) i rise under = absurd (omega arith)
rise_on low high (x ∷ y ∷ xs) zero rise under = omega (arith, rise.1.0)
rise_on low high (x ∷ y ∷ xs) (suc i) rise under =
    let e : suc i + 1 ≡ suc (i + 1) = omega arith in
    rw e (rise_on (x + 1) high (y ∷ xs) i rise.1 (omega arith))

pub rise_parts : (low high : ℕ) (xs ys : List ℕ) → Ascends low high (xs ++ ys) → (mid : ℕ) × (Ascends low mid xs × Ascends mid high ys)
rise_parts low high [] ys rise = (low, (omega arith, rise))
rise_parts low high (x ∷ xs) ys rise =
    let more = rise_parts (x + 1) high xs ys rise.1 in
    (more.0, ((rise.0, more.1.0), more.1.1))

-- where the children of the last one end
pub ends_is : (t : Shape) (k : ℕ) (xs : List ℕ) (i : ℕ) → i + 1 ≡ length xs → ends_at t k xs ≡ children_end t k (get_or xs i 0)
ends_is t k [] i e = absurd (omega arith)
ends_is t k (x ∷ []) i e = let first : 0 ≡ i = omega arith in ap (λ n. children_end t k (get_or (x ∷ []) n 0)) first
ends_is t k (x ∷ y ∷ xs) zero e = absurd (omega arith)
ends_is t k (x ∷ y ∷ xs) (suc i) e = ends_is t k (y ∷ xs) i (omega arith)

pub last_below : (low mid : ℕ) (xs : List ℕ) (i : ℕ) → Ascends low mid xs → i + 1 ≡ length xs → get_or xs i 0 < mid
last_below low mid xs i rise e = (rise_at low mid xs i rise (omega arith)).1

-- each and the next are near
pub near_at : (t : Shape) (k gap : ℕ) (xs : List ℕ) (i : ℕ) → AreNear t k gap xs → i + 1 < length xs → is_near t k gap (get_or xs i 0) (get_or xs (i + 1) 0) ≡ true
near_at t k gap [] i near under = absurd (omega arith)
near_at t k gap (x ∷ []) i near under = absurd (omega arith)
near_at t k gap (x ∷ y ∷ xs) zero near under = near.0
near_at t k gap (x ∷ y ∷ xs) (suc i) near under =
    let e : suc i + 1 ≡ suc (i + 1) = omega arith in
    rw e (near_at t k gap (y ∷ xs) i near.1 (omega arith))

pub near_one : (t : Shape) (k gap : ℕ) (xs : List ℕ) → AreNear t k gap (take 1 xs)
near_one t k gap [] = tt
near_one t k gap (x ∷ xs) = tt

near_suc : (t : Shape) (k gap : ℕ) (xs : List ℕ) (i : ℕ) → suc i < length xs → AreNear t k gap (take (suc i) xs) → is_near t k gap (get_or xs i 0) (get_or xs (suc i) 0) ≡ true
    → AreNear t k gap (take (suc (suc i)) xs)
near_suc t k gap [] i under near more = absurd (omega arith)
near_suc t k gap (x ∷ []) i under near more = absurd (omega arith)
near_suc t k gap (x ∷ y ∷ xs) zero under near more = (more, tt)
near_suc t k gap (x ∷ y ∷ xs) (suc i) under near more = (near.0, near_suc t k gap (y ∷ xs) i (omega arith) near.1 more)

pub near_more : (t : Shape) (k gap : ℕ) (xs : List ℕ) (i : ℕ) → 1 ≤ i → i < length xs → AreNear t k gap (take i xs) → is_near t k gap (get_or xs (i - 1) 0) (get_or xs i 0) ≡ true
    → AreNear t k gap (take (i + 1) xs)
near_more t k gap xs zero some under near more = absurd (omega arith)
near_more t k gap xs (suc i) some under near more =
    let before : suc i - 1 ≡ i = omega arith in
    let e : suc (suc i) ≡ suc i + 1 = omega arith in
    subst (λ n. AreNear t k gap (take n xs)) e (near_suc t k gap xs i under near (subst (λ n. is_near t k gap (get_or xs n 0) (get_or xs (suc i) 0) ≡ true) before more))

pub rise_between : (low high : ℕ) (xs : List ℕ) (i j : ℕ) → Ascends low high xs → i < j → j < length xs → get_or xs i 0 < get_or xs j 0
rise_between low high [] i j rise lt under = absurd (omega arith)
rise_between low high (x ∷ xs) i zero rise lt under = absurd (omega arith)
rise_between low high (x ∷ xs) zero (suc j) rise lt under = omega (arith, (rise_at (x + 1) high xs j rise.1 (omega arith)).0)
rise_between low high (x ∷ xs) (suc i) (suc j) rise lt under = rise_between (x + 1) high xs i j rise.1 (omega arith) (omega arith)

pub first_at : (hits : List Hit) → 0 < length hits → get_or (nums hits) 0 0 ≡ first_number (plains hits)
first_at [] some = absurd (omega arith)
first_at (h ∷ hits) some = refl

-- a node of the level of a list that rises through it
pub node_there : (t : Shape) (k low : ℕ) (hits : List Hit) (i : ℕ) (d : Hit) → k < t.top → Ascends low (width t (k + 1)) (nums hits) → i < length hits → IsNode t (k + 1) (get_or hits i d).number
node_there t k low hits i d below rise under =
    let len = length_nums hits in
    record {
      level = omega (arith, below);
      there = rw (number_is hits i d under) ((rise_at low (width t (k + 1)) (nums hits) i rise (omega (arith, len, under))).1);
    }

pub followed : (hits : List Hit) (i a b : ℕ) → i + 1 < length hits → a ≡ number_at hits (i + 1) → b ≡ number_at hits i → IsTrue (nat_eq a (b + 1)) ↔ IsFollowed hits i
followed hits i a b under first second = (
  λ e. let next : a ≡ b + 1 = grind (arith, e) in (under, omega (arith, first, second, next)),
  λ f. let next : a ≡ b + 1 = omega (arith, first, second, f.1) in grind (arith, next),
)
