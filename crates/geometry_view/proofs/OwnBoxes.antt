-- The box of some points is the join of the boxes of their parts: the first of the least patterns, and of the greatest.
use Rattle.std.proofs.Common.{◌≡◌, inl, inr, IsTrue, ℕ, ◌+◌, ◌<◌, ◌++◌, ◌^◌, Bool, true, false, List, [], ◌∷◌, length, map, take, Option, Some, refl, ap, sym, subst, ◌∙◌, arith}
use Rattle.std.specs.Prelude.{find, flat_map, slice_get, if◌then◌else◌}
use Rattle.std.specs.List.{list_all}
use Rattle.std.proofs.lemmas.Bool.{cases_Bool, and_parts, and_from, false_from_ne_true, true≢false}
use Rattle.std.proofs.lemmas.Int.{ints}
use Rattle.std.proofs.lemmas.List.{map-append, append-nil, flat_map_more, take_all, take_more}
use Rattle.std.proofs.lemmas.Option.{get_or_from_slice_get, slice_get_within}
use Rattle.order_keys.specs.declared.coord.Coord.{Coord}
use Rattle.order_keys.specs.declared.bounds.Bounds.{Bounds}
use Rattle.order_keys.specs.Keys.{key_of, at_most, IsAtMost, is_finite}
use Rattle.order_keys.specs.Boxes.{empty, of_point, lesser, greater, join, IsBox, AreFinite}
use Rattle.order_keys.proofs.Order.{point_is_box}
use Rattle.fgb_schema.specs.Shapes.{Shape, shape, Shapes, none, more, Ordinates, points, points_of_all, points_in, parts_in, first_least, first_greatest, or_else, box_of_points}

-- in any order, the first element of a list that comes at or before each
module _ (le : ℕ → ℕ → Bool) (through : (p q r : ℕ) → le p q ≡ true → le q r ≡ true → le p r ≡ true) (either : (p q : ℕ) → le p q ≡ false → le q p ≡ true) where
  abbrev best : List ℕ → Option ℕ
  best xs = find (λ x. list_all (le x) xs) xs

  abbrev sooner : ℕ → ℕ → ℕ
  sooner x y = if le x y then x else y

  -- the same of a list with a first element
  abbrev best_of : ℕ → List ℕ → ℕ
  best_of x [] = x
  best_of x (y ∷ ys) = sooner x (best_of y ys)

  itself : (p : ℕ) → le p p ≡ true
  itself p = elim (cases_Bool (le p p)) [ inl is ↦ is | inr not ↦ either p p not ]

  sooner_is : (x y : ℕ) → le x y ≡ true → sooner x y ≡ x
  sooner_is x y is = rw is refl

  sooner_not : (x y : ℕ) → le x y ≡ false → sooner x y ≡ y
  sooner_not x y not = rw not refl

  all_through : (x y : ℕ) (zs : List ℕ) → le x y ≡ true → list_all (le y) zs ≡ true → list_all (le x) zs ≡ true
  all_through x y [] is all = refl
  all_through x y (z ∷ zs) is all =
      let both = and_parts (le y z) (list_all (le y) zs) all in
      and_from (le x z) (list_all (le x) zs) (through x y z is both.0) (all_through x y zs is both.1)

  -- it comes at or before each
  best_is_best : (x : ℕ) (ys : List ℕ) → list_all (le (best_of x ys)) (x ∷ ys) ≡ true
  best_is_best x [] = and_from (le x x) true (itself x) refl
  best_is_best x (y ∷ ys) = elim (cases_Bool (le x (best_of y ys))) [
    | inl is ↦ subst (λ m. list_all (le m) (x ∷ y ∷ ys) ≡ true) (sym (sooner_is x (best_of y ys) is))
        (and_from (le x x) (list_all (le x) (y ∷ ys)) (itself x) (all_through x (best_of y ys) (y ∷ ys) is (best_is_best y ys)))
    | inr not ↦ subst (λ m. list_all (le m) (x ∷ y ∷ ys) ≡ true) (sym (sooner_not x (best_of y ys) not))
        (and_from (le (best_of y ys) x) (list_all (le (best_of y ys)) (y ∷ ys)) (either x (best_of y ys) not) (best_is_best y ys))
  ]

  -- what holds of each holds of it
  at_best : (p : ℕ → Bool) (x : ℕ) (ys : List ℕ) → list_all p (x ∷ ys) ≡ true → p (best_of x ys) ≡ true
  at_best p x [] all = (and_parts (p x) true all).0
  at_best p x (y ∷ ys) all =
      let both = and_parts (p x) (list_all p (y ∷ ys)) all in
      elim (cases_Bool (le x (best_of y ys))) [
        | inl is ↦ subst (λ m. p m ≡ true) (sym (sooner_is x (best_of y ys) is)) both.0
        | inr not ↦ subst (λ m. p m ≡ true) (sym (sooner_not x (best_of y ys) not)) (at_best p y ys both.1)
      ]

  found : (t : ℕ → Bool) (x : ℕ) (ys : List ℕ) → ((z : ℕ) → t z ≡ true → list_all (le z) (x ∷ ys) ≡ true) → t (best_of x ys) ≡ true
      → find t (x ∷ ys) ≡ Some (best_of x ys)
  found t x [] all is = rw is refl
  found t x (y ∷ ys) all is = elim (cases_Bool (le x (best_of y ys))) [
    | inl first ↦
        let here : t x ≡ true = subst (λ m. t m ≡ true) (sooner_is x (best_of y ys) first) is in
        rw here (ap (λ m. Some m) (sym (sooner_is x (best_of y ys) first)))
    | inr not ↦
        let later = found t y ys (λ z yes. (and_parts (le z x) (list_all (le z) (y ∷ ys)) (all z yes)).1) (subst (λ m. t m ≡ true) (sooner_not x (best_of y ys) not) is) in
        let other : t x ≡ false = false_from_ne_true (t x) (λ yes. true≢false (sym (at_best (le x) y ys ((and_parts (le x x) (list_all (le x) (y ∷ ys)) (all x yes)).1)) ∙ not)) in
        rw other (later ∙ ap (λ m. Some m) (sym (sooner_not x (best_of y ys) not)))
  ]

  best_found : (x : ℕ) (ys : List ℕ) → best (x ∷ ys) ≡ Some (best_of x ys)
  best_found x ys = found (λ z. list_all (le z) (x ∷ ys)) x ys (λ z yes. yes) (best_is_best x ys)

  sooner_assoc : (x y z : ℕ) → sooner x (sooner y z) ≡ sooner (sooner x y) z
  sooner_assoc x y z = elim (cases_Bool (le x y)) [
    | inl xy ↦ elim (cases_Bool (le y z)) [
      | inl yz ↦ ap (sooner x) (sooner_is y z yz) ∙ sooner_is x y xy ∙ sym (sooner_is x z (through x y z xy yz)) ∙ ap (λ m. sooner m z) (sym (sooner_is x y xy))
      | inr zy ↦ ap (sooner x) (sooner_not y z zy) ∙ ap (λ m. sooner m z) (sym (sooner_is x y xy))
    ]
    | inr yx ↦ elim (cases_Bool (le y z)) [
      | inl yz ↦ ap (sooner x) (sooner_is y z yz) ∙ sooner_not x y yx ∙ sym (sooner_is y z yz) ∙ ap (λ m. sooner m z) (sym (sooner_not x y yx))
      | inr zy ↦
          let zx : le x z ≡ false = false_from_ne_true (le x z) (λ xz. true≢false (sym (through x z y xz (either y z zy)) ∙ yx)) in
          ap (sooner x) (sooner_not y z zy) ∙ sooner_not x z zx ∙ sym (sooner_not y z zy) ∙ ap (λ m. sooner m z) (sym (sooner_not x y yx))
    ]
  ]

  best_append : (x : ℕ) (xs : List ℕ) (y : ℕ) (ys : List ℕ) → best_of x (xs ++ y ∷ ys) ≡ sooner (best_of x xs) (best_of y ys)
  best_append x [] y ys = refl
  best_append x (z ∷ zs) y ys = ap (sooner x) (best_append z zs y ys) ∙ sooner_assoc x (best_of z zs) (best_of y ys)

least_through : (p q r : ℕ) → at_most p q ≡ true → at_most q r ≡ true → at_most p r ≡ true
least_through p q r pq qr = grind (arith, ints)

least_either : (p q : ℕ) → at_most p q ≡ false → at_most q p ≡ true
least_either p q not = grind (arith, ints)

abbrev turned : ℕ → ℕ → Bool
turned p q = at_most q p

turned_through : (p q r : ℕ) → turned p q ≡ true → turned q r ≡ true → turned p r ≡ true
turned_through p q r pq qr = least_through r q p qr pq

turned_either : (p q : ℕ) → turned p q ≡ false → turned q p ≡ true
turned_either p q not = least_either q p not

abbrev least_of : ℕ → List ℕ → ℕ
least_of x xs = best_of at_most least_through least_either x xs

abbrev greatest_of : ℕ → List ℕ → ℕ
greatest_of x xs = best_of turned turned_through turned_either x xs

least_found : (x : ℕ) (xs : List ℕ) → first_least (x ∷ xs) ≡ Some (least_of x xs)
least_found x xs = best_found at_most least_through least_either x xs

greatest_found : (x : ℕ) (xs : List ℕ) → first_greatest (x ∷ xs) ≡ Some (greatest_of x xs)
greatest_found x xs = best_found turned turned_through turned_either x xs

lesser_at : (x y : ℕ) → lesser (record { 0 = x }) (record { 0 = y }) ≡ record { 0 = sooner at_most least_through least_either x y }
lesser_at x y = elim (cases_Bool (at_most x y)) [ inl is ↦ rw is refl | inr not ↦ rw not refl ]

greater_at : (x y : ℕ) → greater (record { 0 = x }) (record { 0 = y }) ≡ record { 0 = sooner turned turned_through turned_either x y }
greater_at x y = elim (cases_Bool (at_most y x)) [ inl is ↦ rw is refl | inr not ↦ rw not refl ]

-- of two lists that are not empty
least_append : (x : ℕ) (xs : List ℕ) (y : ℕ) (ys : List ℕ) (c : Coord) → or_else (first_least (x ∷ xs ++ y ∷ ys)) c ≡ lesser (or_else (first_least (x ∷ xs)) c) (or_else (first_least (y ∷ ys)) c)
least_append x xs y ys c =
    ap (λ o. or_else o c) (least_found x (xs ++ y ∷ ys) ∙ ap (λ m. Some m) (best_append at_most least_through least_either x xs y ys))
    ∙ sym (lesser_at (least_of x xs) (least_of y ys))
    ∙ sym (ap (λ o. lesser (or_else o c) (record { 0 = least_of y ys })) (least_found x xs))
    ∙ sym (ap (λ o. lesser (or_else (first_least (x ∷ xs)) c) (or_else o c)) (least_found y ys))

greatest_append : (x : ℕ) (xs : List ℕ) (y : ℕ) (ys : List ℕ) (c : Coord) → or_else (first_greatest (x ∷ xs ++ y ∷ ys)) c ≡ greater (or_else (first_greatest (x ∷ xs)) c) (or_else (first_greatest (y ∷ ys)) c)
greatest_append x xs y ys c =
    ap (λ o. or_else o c) (greatest_found x (xs ++ y ∷ ys) ∙ ap (λ m. Some m) (best_append turned turned_through turned_either x xs y ys))
    ∙ sym (greater_at (greatest_of x xs) (greatest_of y ys))
    ∙ sym (ap (λ o. greater (or_else o c) (record { 0 = greatest_of y ys })) (greatest_found x xs))
    ∙ sym (ap (λ o. greater (or_else (first_greatest (x ∷ xs)) c) (or_else o c)) (greatest_found y ys))

abbrev of_fields : Coord → Coord → Coord → Coord → Bounds
of_fields a b c d = record { min_x = a; min_y = b; max_x = c; max_y = d }

same_fields : {a b c d a' b' c' d' : Coord} → a ≡ a' → b ≡ b' → c ≡ c' → d ≡ d' → of_fields a b c d ≡ of_fields a' b' c' d'
same_fields e f g h = cc

-- the box of no point, and of one
pub box_none : box_of_points [] ≡ empty
box_none = refl

pub box_one : (x y : ℕ) → box_of_points ((x, y) ∷ []) ≡ of_point (record { 0 = x }) (record { 0 = y })
box_one x y = same_fields
    (ap (λ o. or_else o empty.min_x) (least_found x [])) (ap (λ o. or_else o empty.min_y) (least_found y []))
    (ap (λ o. or_else o empty.max_x) (greatest_found x [])) (ap (λ o. or_else o empty.max_y) (greatest_found y []))

-- the empty box adds nothing
pub record IsNeutral (b : Bounds) : Type 0 where
  pub left : join empty b ≡ b
  pub right : join b empty ≡ b

pub box_append : (ps qs : List (ℕ × ℕ)) → IsNeutral (box_of_points ps) → IsNeutral (box_of_points qs) → box_of_points (ps ++ qs) ≡ join (box_of_points ps) (box_of_points qs)
box_append [] qs first second = sym second.left
box_append (p ∷ ps) [] first second = ap box_of_points (append-nil (p ∷ ps)) ∙ sym first.right
box_append (p ∷ ps) (q ∷ qs) first second = same_fields
    (ap (λ xs. or_else (first_least xs) empty.min_x) (map-append (λ (p : ℕ × ℕ). p.0) (p ∷ ps) (q ∷ qs)) ∙ least_append p.0 (map (λ p. p.0) ps) q.0 (map (λ p. p.0) qs) empty.min_x)
    (ap (λ xs. or_else (first_least xs) empty.min_y) (map-append (λ (p : ℕ × ℕ). p.1) (p ∷ ps) (q ∷ qs)) ∙ least_append p.1 (map (λ p. p.1) ps) q.1 (map (λ p. p.1) qs) empty.min_y)
    (ap (λ xs. or_else (first_greatest xs) empty.max_x) (map-append (λ (p : ℕ × ℕ). p.0) (p ∷ ps) (q ∷ qs)) ∙ greatest_append p.0 (map (λ p. p.0) ps) q.0 (map (λ p. p.0) qs) empty.max_x)
    (ap (λ xs. or_else (first_greatest xs) empty.max_y) (map-append (λ (p : ℕ × ℕ). p.1) (p ∷ ps) (q ∷ qs)) ∙ greatest_append p.1 (map (λ p. p.1) ps) q.1 (map (λ p. p.1) qs) empty.max_y)

-- four patterns of 64 bits
pub record IsStored (b : Bounds) : Type 0 where
  pub min_x : b.min_x.0 < 2 ^ 64
  pub min_y : b.min_y.0 < 2 ^ 64
  pub max_x : b.max_x.0 < 2 ^ 64
  pub max_y : b.max_y.0 < 2 ^ 64

-- a number comes between the infinities
after_low : (p : ℕ) → p < 2 ^ 64 → IsTrue (is_finite p) → at_most p 0xFFF0_0000_0000_0000 ≡ false
unfolding key_of
after_low p stored finite = grind (arith, ints)

before_high : (p : ℕ) → p < 2 ^ 64 → IsTrue (is_finite p) → at_most 0x7FF0_0000_0000_0000 p ≡ false
unfolding key_of
before_high p stored finite = grind (arith, ints)

lesser_first : (a b : Coord) → at_most a.0 b.0 ≡ true → lesser a b ≡ a
lesser_first a b is = rw is refl

lesser_second : (a b : Coord) → at_most a.0 b.0 ≡ false → lesser a b ≡ b
lesser_second a b not = rw not refl

greater_first : (a b : Coord) → at_most b.0 a.0 ≡ true → greater a b ≡ a
greater_first a b is = rw is refl

greater_second : (a b : Coord) → at_most b.0 a.0 ≡ false → greater a b ≡ b
greater_second a b not = rw not refl

either_same : (b : Bool) (c : Coord) → (if b then c else c) ≡ c
either_same true c = refl
either_same false c = refl

empty_neutral : IsNeutral empty
empty_neutral =
    let e = either_same (at_most 0x7FF0_0000_0000_0000 0x7FF0_0000_0000_0000) empty.min_x in
    let f = either_same (at_most 0xFFF0_0000_0000_0000 0xFFF0_0000_0000_0000) empty.max_x in
    record { left = same_fields e e f f; right = same_fields e e f f }

pub neutral : (b : Bounds) → IsStored b → IsBox b → IsNeutral b
neutral b stored (inl is) = subst IsNeutral (sym is) empty_neutral
neutral b stored (inr (finite, ordered)) =
    let left = before_high b.min_x.0 stored.min_x finite.min_x in
    let below = before_high b.min_y.0 stored.min_y finite.min_y in
    let right = after_low b.max_x.0 stored.max_x finite.max_x in
    let above = after_low b.max_y.0 stored.max_y finite.max_y in
    record {
      left = same_fields (lesser_second empty.min_x b.min_x left) (lesser_second empty.min_y b.min_y below) (greater_second empty.max_x b.max_x right) (greater_second empty.max_y b.max_y above);
      right = same_fields
          (lesser_first b.min_x empty.min_x (least_either empty.min_x.0 b.min_x.0 left)) (lesser_first b.min_y empty.min_y (least_either empty.min_y.0 b.min_y.0 below))
          (greater_first b.max_x empty.max_x (least_either b.max_x.0 empty.max_x.0 right)) (greater_first b.max_y empty.max_y (least_either b.max_y.0 empty.max_y.0 above));
    }

-- one of the two
lesser_both : (P : ℕ → Type 0) (a b : Coord) → P a.0 → P b.0 → P (lesser a b).0
lesser_both P a b first second = elim (cases_Bool (at_most a.0 b.0)) [
  | inl is ↦ subst (λ (c : Coord). P c.0) (sym (lesser_first a b is)) first
  | inr not ↦ subst (λ (c : Coord). P c.0) (sym (lesser_second a b not)) second
]

greater_both : (P : ℕ → Type 0) (a b : Coord) → P a.0 → P b.0 → P (greater a b).0
greater_both P a b first second = elim (cases_Bool (at_most b.0 a.0)) [
  | inl is ↦ subst (λ (c : Coord). P c.0) (sym (greater_first a b is)) first
  | inr not ↦ subst (λ (c : Coord). P c.0) (sym (greater_second a b not)) second
]

pub stored_join : (a b : Bounds) → IsStored a → IsStored b → IsStored (join a b)
stored_join a b first second = record {
  min_x = lesser_both (λ p. p < 2 ^ 64) a.min_x b.min_x first.min_x second.min_x;
  min_y = lesser_both (λ p. p < 2 ^ 64) a.min_y b.min_y first.min_y second.min_y;
  max_x = greater_both (λ p. p < 2 ^ 64) a.max_x b.max_x first.max_x second.max_x;
  max_y = greater_both (λ p. p < 2 ^ 64) a.max_y b.max_y first.max_y second.max_y;
}

finite_join : (a b : Bounds) → AreFinite a → AreFinite b → AreFinite (join a b)
finite_join a b first second = record {
  min_x = lesser_both (λ p. IsTrue (is_finite p)) a.min_x b.min_x first.min_x second.min_x;
  min_y = lesser_both (λ p. IsTrue (is_finite p)) a.min_y b.min_y first.min_y second.min_y;
  max_x = greater_both (λ p. IsTrue (is_finite p)) a.max_x b.max_x first.max_x second.max_x;
  max_y = greater_both (λ p. IsTrue (is_finite p)) a.max_y b.max_y first.max_y second.max_y;
}

between : (a b c d : Coord) → IsAtMost a.0 c.0 → IsAtMost b.0 d.0 → IsAtMost (lesser a b).0 (greater c d).0
between a b c d first second = grind (arith, ints)

pub box_join : (a b : Bounds) → IsStored a → IsStored b → IsBox a → IsBox b → IsBox (join a b)
box_join a b at bt (inl is) second = subst (λ x. IsBox (join x b)) (sym is) (subst IsBox (sym (neutral b bt second).left) second)
box_join a b at bt (inr first) (inl is) = subst (λ x. IsBox (join a x)) (sym is) (subst IsBox (sym (neutral a at (inr first)).right) (inr first))
box_join a b at bt (inr first) (inr second) =
    inr (finite_join a b first.0 second.0, record { in_x = between a.min_x b.min_x a.max_x b.max_x first.1.in_x second.1.in_x; in_y = between a.min_y b.min_y a.max_y b.max_y first.1.in_y second.1.in_y })

-- this is the box of these points, and they are finite
pub record IsBoxOf (points : List (ℕ × ℕ)) (b : Bounds) : Type 0 where
  pub same : b ≡ box_of_points points
  pub box : IsBox b
  pub stored : IsStored b

pub of_none : IsBoxOf [] empty
of_none = record { same = refl; box = inl refl; stored = record { min_x = omega arith; min_y = omega arith; max_x = omega arith; max_y = omega arith } }

pub of_one : (x y : Coord) → x.0 < 2 ^ 64 → y.0 < 2 ^ 64 → IsTrue (is_finite x.0) → IsTrue (is_finite y.0) → IsBoxOf ((x.0, y.0) ∷ []) (of_point x y)
of_one x y small_x small_y in_x in_y = record {
  same = sym (box_one x.0 y.0);
  box = point_is_box x y in_x in_y;
  stored = record { min_x = small_x; min_y = small_y; max_x = small_x; max_y = small_y };
}

pub of_both : (ps qs : List (ℕ × ℕ)) (a b : Bounds) → IsBoxOf ps a → IsBoxOf qs b → IsBoxOf (ps ++ qs) (join a b)
of_both ps qs a b first second =
    let left : IsNeutral (box_of_points ps) = subst IsNeutral first.same (neutral a first.stored first.box) in
    let right : IsNeutral (box_of_points qs) = subst IsNeutral second.same (neutral b second.stored second.box) in
    record {
      same = ap (λ x. join x b) first.same ∙ ap (join (box_of_points ps)) second.same ∙ sym (box_append ps qs left right);
      box = box_join a b first.stored second.stored first.box second.box;
      stored = stored_join a b first.stored second.stored;
    }

-- one element more
take_got : {A : Type 0} (xs : List A) (i : ℕ) (x : A) → slice_get xs i ≡ Some x → take (i + 1) xs ≡ take i xs ++ x ∷ []
take_got xs i x is = take_more xs i x (slice_get_within xs i x is) ∙ ap (λ y. take i xs ++ y ∷ []) (get_or_from_slice_get xs i x x is)

pub one_more : (points : List (ℕ × ℕ)) (i : ℕ) (a r : Bounds) (x y : Coord) → slice_get points i ≡ Some (x.0, y.0) → x.0 < 2 ^ 64 → y.0 < 2 ^ 64 → IsTrue (is_finite x.0) → IsTrue (is_finite y.0)
    → r ≡ join a (of_point x y) → IsBoxOf (take i points) a → IsBoxOf (take (i + 1) points) r
one_more points i a r x y is small_x small_y in_x in_y joined before =
    let both = of_both (take i points) ((x.0, y.0) ∷ []) a (of_point x y) before (of_one x y small_x small_y in_x in_y) in
    subst (λ ps. IsBoxOf ps r) (sym (take_got points i (x.0, y.0) is)) (subst (IsBoxOf (take i points ++ (x.0, y.0) ∷ [])) (sym joined) both)

-- all points of a shape: its own, and those of its parts one after another
points_of_parts : (kind : ℕ) (own rings : List (ℕ × ℕ)) (ordinates : Ordinates) (parts : Shapes) → points_of_all parts ≡ flat_map points (parts_in (shape kind own rings ordinates parts))
points_of_parts kind own rings ordinates none = refl
points_of_parts kind own rings ordinates (more first rest) = ap (λ ps. points first ++ ps) (points_of_parts kind own rings ordinates rest)

points_whole : (s : Shape) → points s ≡ points_in s ++ flat_map points (parts_in s)
points_whole (shape kind own rings ordinates parts) = ap (λ ps. own ++ ps) (points_of_parts kind own rings ordinates parts)

-- its own, and those of its first parts
abbrev pub first_points : Shape → ℕ → List (ℕ × ℕ)
first_points s i = points_in s ++ flat_map points (take i (parts_in s))

pub no_part : (s : Shape) (b : Bounds) → IsBoxOf (points_in s) b → IsBoxOf (first_points s 0) b
no_part s b own = subst (λ ps. IsBoxOf ps b) (sym (append-nil (points_in s))) own

pub part_more : (s part : Shape) (i : ℕ) (a b r : Bounds) → slice_get (parts_in s) i ≡ Some part → IsBoxOf (points part) b → r ≡ join a b → IsBoxOf (first_points s i) a → IsBoxOf (first_points s (i + 1)) r
part_more s part i a b r is below joined before =
    let both = of_both (first_points s i) (points part) a b before below in
    let longer : first_points s i ++ points part ≡ first_points s (i + 1) =
    flat_map_more points (points_in s) (take i (parts_in s)) part ∙ sym (ap (λ parts. points_in s ++ flat_map points parts) (take_got (parts_in s) i part is)) in
    subst (λ ps. IsBoxOf ps r) longer (subst (IsBoxOf (first_points s i ++ points part)) (sym joined) both)

pub all_parts : (s : Shape) (i : ℕ) (b : Bounds) → i ≡ length (parts_in s) → IsBoxOf (first_points s i) b → b ≡ box_of_points (points s)
all_parts s i b last before =
    before.same ∙ ap (λ parts. box_of_points (points_in s ++ flat_map points parts)) (take_all i (parts_in s) (omega (arith, last))) ∙ ap box_of_points (sym (points_whole s))
