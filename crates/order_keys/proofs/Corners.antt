-- A word spells at most one box, and none where it has a fault.
use Rattle.std.proofs.Common.{IsTrue, inr, ◌≡◌, ◌≢◌, ℕ, suc, List, [], ◌∷◌, length, Option, Some, None, Result, Ok, Err, IfOk, refl, ap, arith}
use Rattle.std.specs.Option.{option_or}
use Rattle.std.specs.Result.{result_err}
use Rattle.std.specs.List.{AllZip, AllByRecursion}
use Rattle.order_keys.specs.declared.coord.Coord.{Coord}
use Rattle.order_keys.specs.declared.bounds.Bounds.{Bounds}
use Rattle.order_keys.specs.declared.words.BoundFault.{BoundFault}
use Rattle.order_keys.specs.declared.words.BoundFault.TheVariants.{Order}
use Rattle.order_keys.specs.declared.words.Spelling.{Spelling}
use Rattle.order_keys.specs.declared.words.Spelling.TheVariants.{Pattern, Number}
use Rattle.order_keys.specs.Boxes.{empty, IsBox, IsOrdered}
use Rattle.order_keys.specs.Keys.{is_finite}
use Rattle.order_keys.specs.Words.{spelling_of, IsBound, fault_in, bound_fault, SpellsBound, first_fault, corners_fault, corners, SpellsCorners, SpellsBox, parts_of}
use Rattle.order_keys.proofs.Bound.{same_bound, only_bound}

sound : (s : Option Spelling) (c : Coord) → IsBound s c → fault_in s ≡ None
sound None c h = absurd h
sound (Some (Pattern p)) c h = grind (arith, h.0)
sound (Some (Number f)) c h = grind (arith, h.power, h.number, h.divisor)

pub only_result : (s : Option Spelling) (r : Result Coord BoundFault) → IfOk r (IsBound s) → result_err r ≡ fault_in s
    → (c : Coord) → IsBound s c → r ≡ Ok c
only_result s (Ok a) ok fault c h = ap Ok (same_bound s a c ok h)
only_result s (Err e) ok fault c h = let none = sound s c h in cc

each_sound : (texts : List (List ℕ)) (cs : List Coord) → AllZip SpellsBound texts cs → first_fault texts ≡ None
each_sound [] cs h = refl
each_sound (text ∷ texts) [] h = absurd h
each_sound (text ∷ texts) (c ∷ cs) h = rw (sound (spelling_of text) c h.0) (each_sound texts cs h.1)

as_many : (texts : List (List ℕ)) (cs : List Coord) → AllZip SpellsBound texts cs → length texts ≡ length cs
as_many [] [] h = refl
as_many [] (c ∷ cs) h = absurd h
as_many (text ∷ texts) [] h = absurd h
as_many (text ∷ texts) (c ∷ cs) h = ap (λ n. suc n) (as_many texts cs h.1)

pub no_fault : (text : List ℕ) (b : Bounds) → SpellsCorners text b → corners_fault text ≡ None
no_fault text b h =
    let four : length (parts_of text) ≡ 4 = as_many (parts_of text) (corners b) h in
    rw four (each_sound (parts_of text) (corners b) h)

each_same : (texts : List (List ℕ)) (cs ds : List Coord) → AllZip SpellsBound texts cs → AllZip SpellsBound texts ds → cs ≡ ds
each_same [] [] [] h k = refl
each_same [] [] (d ∷ ds) h k = absurd k
each_same [] (c ∷ cs) ds h k = absurd h
each_same (text ∷ texts) [] ds h k = absurd h
each_same (text ∷ texts) (c ∷ cs) [] h k = absurd k
each_same (text ∷ texts) (c ∷ cs) (d ∷ ds) h k =
    let first = only_bound text c d h.0 k.0 in
    let rest = each_same texts cs ds h.1 k.1 in
    cc

box_of : List Coord → Bounds
box_of (a ∷ b ∷ c ∷ d ∷ []) = record { min_x = a; min_y = b; max_x = c; max_y = d }
box_of others = empty

pub only_corners : (text : List ℕ) (a b : Bounds) → SpellsCorners text a → SpellsCorners text b → a ≡ b
unfolding box_of
only_corners text a b h k = ap box_of (each_same (parts_of text) (corners a) (corners b) h k)

in_order : (s : Option Spelling) → fault_in s ≢ Some Order
in_order None e = cc
in_order (Some (Pattern p)) e = grind arith
in_order (Some (Number f)) e = grind arith

or_either : (a b : Option BoundFault) → a ≢ Some Order → b ≢ Some Order → option_or a b ≢ Some Order
or_either None b h k e = k e
or_either (Some f) b h k e = h e

first_in_order : (texts : List (List ℕ)) → first_fault texts ≢ Some Order
first_in_order [] e = cc
first_in_order (text ∷ texts) e = or_either (bound_fault text) (first_fault texts) (in_order (spelling_of text)) (first_in_order texts) e

pub not_order : (text : List ℕ) → corners_fault text ≢ Some Order
not_order text e =
    let each = first_in_order (parts_of text) in
    grind arith

finite : (s : Option Spelling) (c : Coord) → IsBound s c → IsTrue (is_finite c.0)
finite None c h = absurd h
finite (Some (Pattern p)) c h = rw (h.1) (h.0)
finite (Some (Number f)) c h = h.exact.finite

each_finite : (texts : List (List ℕ)) (cs : List Coord) → AllZip SpellsBound texts cs → AllByRecursion (λ c. IsTrue (is_finite c.0)) cs
each_finite [] [] h = tt
each_finite [] (c ∷ cs) h = absurd h
each_finite (text ∷ texts) [] h = absurd h
each_finite (text ∷ texts) (c ∷ cs) h = (finite (spelling_of text) c h.0, each_finite texts cs h.1)

pub spelled_is_box : (text : List ℕ) (b : Bounds) → SpellsCorners text b → IsOrdered b → IsBox b
spelled_is_box text b h ordered =
    let all = each_finite (parts_of text) (corners b) h in
    inr (record { min_x = all.0; min_y = all.1.0; max_x = all.1.1.0; max_y = all.1.1.1.0 }, ordered)

pub only_box : (text : List ℕ) (a b : Bounds) → SpellsBox text a → SpellsBox text b → a ≡ b
only_box text a b h k = only_corners text a b h.each k.each
