-- The box of points whose patterns are those of numbers is a box.
use Rattle.std.proofs.Common.{◌≡◌, ◌⊎◌, inl, inr, ◌||◌, ◌&&◌, ℕ, ◌<◌, ◌^◌, Bool, true, false, List, [], ◌∷◌, map, Some, refl, sym, subst, arith}
use Rattle.std.specs.Prelude.{find}
use Rattle.std.specs.List.{AllByRecursion, list_all}
use Rattle.std.proofs.lemmas.Bool.{cases_Bool, and_parts, and_from, both_ways}
use Rattle.std.proofs.lemmas.Int.{ints}
use Rattle.order_keys.specs.declared.coord.Coord.{Coord}
use Rattle.order_keys.specs.declared.bounds.Bounds.{Bounds}
use Rattle.order_keys.specs.Keys.{at_most, is_finite}
use Rattle.order_keys.specs.Boxes.{empty, is_box}
use Rattle.tree_writer.proofs.Boxes.{HasPatterns, empty_patterns}
use Rattle.fgb_schema.specs.Paths.{IsAmong}
use Rattle.fgb_schema.specs.Shapes.{box_of_points, first_least, first_greatest}
use Rattle.packed_file.proofs.Alls.{among_all, all_of_map, all_weaker}

-- the pattern of a number, and a point of two
pub record IsNumber (x : ℕ) : Type 0 where
  pub stored : x < 2 ^ 64
  pub finite : is_finite x ≡ true

pub record IsPoint (p : ℕ × ℕ) : Type 0 where
  pub x : IsNumber p.0
  pub y : IsNumber p.1

-- a pattern of a list that comes in front of each of them, in some order
pub record IsBest (le : ℕ → ℕ → Bool) (xs : List ℕ) (m : ℕ) : Type 0 where
  pub among : IsAmong m xs
  pub before : list_all (le m) xs ≡ true

-- the first that a search finds
record IsFound (test : ℕ → Bool) (xs : List ℕ) (n : ℕ) : Type 0 where
  pub found : find test xs ≡ Some n
  pub among : IsAmong n xs
  pub passes : test n ≡ true

search_finds : (test : ℕ → Bool) (xs : List ℕ) (m : ℕ) → IsAmong m xs → test m ≡ true → (n : ℕ) × IsFound test xs n
search_finds test [] m among passes = absurd among
search_finds test (x ∷ xs) m among passes = elim (cases_Bool (test x)) [
  | inl is ↦ (x, record { found = rw is refl; among = inl refl; passes = is })
  | inr fails ↦ later fails (search_finds test xs m (behind fails among) passes)
]
  where
    behind : test x ≡ false → IsAmong m (x ∷ xs) → IsAmong m xs
    behind fails (inl same) = absurd (both_ways (test x) fails (subst (λ z. test z ≡ true) same passes))
    behind fails (inr rest) = rest

    later : test x ≡ false → (n : ℕ) × IsFound test xs n → (n : ℕ) × IsFound test (x ∷ xs) n
    later fails rest = (rest.0, record { found = rw fails rest.1.found; among = inr rest.1.among; passes = rest.1.passes })

module _ (le : ℕ → ℕ → Bool) (through : (p q r : ℕ) → le p q ≡ true → le q r ≡ true → le p r ≡ true) (either : (p q : ℕ) → (le p q ≡ true) ⊎ (le q p ≡ true)) where
  itself : (p : ℕ) → le p p ≡ true
  itself p = elim (either p p) [ inl is ↦ is | inr is ↦ is ]

  all_through : (x y : ℕ) (zs : List ℕ) → le x y ≡ true → list_all (le y) zs ≡ true → list_all (le x) zs ≡ true
  all_through x y [] is all = refl
  all_through x y (z ∷ zs) is all =
      let both = and_parts (le y z) (list_all (le y) zs) all in
      and_from (le x z) (list_all (le x) zs) (through x y z is both.0) (all_through x y zs is both.1)

  some_best : (x : ℕ) (xs : List ℕ) → (m : ℕ) × IsBest le (x ∷ xs) m
  some_best x [] = (x, record { among = inl refl; before = and_from (le x x) true (itself x) refl })
  some_best x (y ∷ ys) = choose (some_best y ys)
    where
      choose : (m : ℕ) × IsBest le (y ∷ ys) m → (m : ℕ) × IsBest le (x ∷ y ∷ ys) m
      choose rest = elim (either x rest.0) [
        | inl is ↦ (x, record { among = inl refl; before = and_from (le x x) (list_all (le x) (y ∷ ys)) (itself x) (all_through x rest.0 (y ∷ ys) is rest.1.before) })
        | inr is ↦ (rest.0, record { among = inr rest.1.among; before = and_from (le rest.0 x) (list_all (le rest.0) (y ∷ ys)) is rest.1.before })
      ]

  first_best : (x : ℕ) (xs : List ℕ) → (n : ℕ) × IsFound (λ z. list_all (le z) (x ∷ xs)) (x ∷ xs) n
  first_best x xs = let best = some_best x xs in search_finds (λ z. list_all (le z) (x ∷ xs)) (x ∷ xs) best.0 best.1.among best.1.before

least_through : (p q r : ℕ) → at_most p q ≡ true → at_most q r ≡ true → at_most p r ≡ true
least_through p q r pq qr = grind (arith, ints)

least_either : (p q : ℕ) → (at_most p q ≡ true) ⊎ (at_most q p ≡ true)
least_either p q = elim (cases_Bool (at_most p q)) [ inl is ↦ inl is | inr not ↦ inr (flipped p q not) ]
  where
    flipped : (p q : ℕ) → at_most p q ≡ false → at_most q p ≡ true
    flipped p q not = grind (arith, ints)

abbrev turned : ℕ → ℕ → Bool
turned p q = at_most q p

-- the least of some numbers, and the greatest: both are among them, and one comes in front of the other
record AreEnds (xs : List ℕ) (low high : ℕ) : Type 0 where
  pub low_is : IsNumber low
  pub high_is : IsNumber high
  pub ordered : at_most low high ≡ true
  pub least : first_least xs ≡ Some low
  pub greatest : first_greatest xs ≡ Some high

ends_of : (x : ℕ) (xs : List ℕ) → AllByRecursion IsNumber (x ∷ xs) → (low : ℕ) × (high : ℕ) × AreEnds (x ∷ xs) low high
ends_of x xs all =
    let low = first_best at_most least_through least_either x xs in
    let high = first_best turned (λ p q r pq qr. least_through r q p qr pq) (λ p q. least_either q p) x xs in (
      low.0,
      high.0,
      record {
        low_is = among_all IsNumber low.0 (x ∷ xs) low.1.among all;
        high_is = among_all IsNumber high.0 (x ∷ xs) high.1.among all;
        ordered = least_through low.0 x high.0 (and_parts (at_most low.0 x) (list_all (at_most low.0) xs) low.1.passes).0 (and_parts (turned high.0 x) (list_all (turned high.0) xs) high.1.passes).0;
        least = low.1.found;
        greatest = high.1.found;
      },
    )

abbrev of_fields : Coord → Coord → Coord → Coord → Bounds
of_fields a b c d = record { min_x = a; min_y = b; max_x = c; max_y = d }

abbrev coord : ℕ → Coord
coord x = record { 0 = x }

tested : (e f g h i j k : Bool) → f ≡ true → g ≡ true → h ≡ true → i ≡ true → j ≡ true → k ≡ true → (e || ((f && g && h && i) && (j && k))) ≡ true
tested e f g h i j k a b c d l m = grind arith

-- a box that can be stored
pub record IsStoredBox (b : Bounds) : Type 0 where
  pub box : is_box b ≡ true
  pub patterns : HasPatterns b

of_ends : (a b c d : ℕ) → IsNumber a → IsNumber b → IsNumber c → IsNumber d → at_most a c ≡ true → at_most b d ≡ true → IsStoredBox (of_fields (coord a) (coord b) (coord c) (coord d))
of_ends a b c d na nb nc nd in_x in_y = record {
  box = tested _ (is_finite a) (is_finite b) (is_finite c) (is_finite d) (at_most a c) (at_most b d) na.finite nb.finite nc.finite nd.finite in_x in_y;
  patterns = record { min_x = na.stored; min_y = nb.stored; max_x = nc.stored; max_y = nd.stored };
}

pub empty_stored : IsStoredBox empty
empty_stored = record { box = refl; patterns = empty_patterns }

pub points_box : (ps : List (ℕ × ℕ)) → AllByRecursion IsPoint ps → IsStoredBox (box_of_points ps)
points_box [] all = empty_stored
points_box (p ∷ ps) all =
    let xs = ends_of p.0 (map (λ q. q.0) ps) (all_of_map IsNumber (λ q. q.0) (p ∷ ps) (all_weaker IsPoint (λ q. IsNumber q.0) (p ∷ ps) (λ q is. is.x) all)) in
    let ys = ends_of p.1 (map (λ q. q.1) ps) (all_of_map IsNumber (λ q. q.1) (p ∷ ps) (all_weaker IsPoint (λ q. IsNumber q.1) (p ∷ ps) (λ q is. is.y) all)) in
    let same : box_of_points (p ∷ ps) ≡ of_fields (coord xs.0) (coord ys.0) (coord xs.1) (coord ys.1) =
    rw (xs.2.least, ys.2.least, xs.2.greatest, ys.2.greatest) refl in
    subst IsStoredBox (sym same) (of_ends xs.0 ys.0 xs.1 ys.1 xs.2.low_is ys.2.low_is xs.2.high_is ys.2.high_is xs.2.ordered ys.2.ordered)
