-- What the fields of an owned shape show after points were put behind the others.
use Rattle.std.proofs.Common.{◌≡◌, ℕ, ◌+◌, ◌/◌, ◌%◌, ◌<◌, ◌≤◌, ◌^◌, true, false, List, [], ◌∷◌, ◌++◌, length, get_or, refl, ap, subst, ◌∙◌, IsTrue, Fits, w64, arith, length-append}
use Rattle.std.specs.List.{All}
use Rattle.std.proofs.lemmas.List.Elements.{All-from_get_or}
use Rattle.order_keys.specs.Keys.{is_finite}
use Rattle.fgb_schema.specs.Tables.{has_points, has_rings}
use Rattle.fgb_schema.specs.Shapes.{Shape, shape, shapes_of, no_ordinates, pairs_of, points_in, rings_from, rings_in, ordinates_in, type_in}
use Rattle.geometry_view.specs.Kinds.{number_of}
use Rattle.geometry_view.proofs.OwnNumbers.{length-pairs}
use Rattle.owned_shape.specs.declared.shape.Shape.TheInside.{Inside}
use Rattle.owned_shape.specs.ListsShown.{lists_shown}
use Rattle.owned_shape.specs.Owned.{IsOwned, owned_shape}
use Rattle.owned_shape.specs.Puts.{with_points}
use Rattle.owned_shape.specs.Records.{IsNumber, IsRecord}
use Rattle.owned_shape.proofs.Chains.{rings_from-more}
use Rattle.owned_shape.proofs.Parts.{level_of}
use Rattle.owned_shape.proofs.Points.{pairs_of-append, points_of-numbers}
use Rattle.owned_shape.proofs.Pushed.{points_pushed}

pub are_numbers : (xs : List ℕ) → All (λ x. IsTrue (is_finite x)) xs → ((i : ℕ) → Fits w64 (get_or xs i 0)) → All IsNumber xs
are_numbers xs finite fits = All-from_get_or IsNumber xs 0 (λ i early. (finite i 0 early, omega (arith, fits i)))

module _ (s : Inside) (now : Shape) (is : owned_shape s ≡ now) (kept : IsOwned s) (later : List ℕ) (xy : List ℕ) (grown : xy ≡ s.xy.items ++ later) where
  abbrev own : List (ℕ × ℕ)
  own = pairs_of s.xy.items

  pairs_grown : pairs_of xy ≡ own ++ pairs_of later
  pairs_grown = ap pairs_of grown ∙ pairs_of-append s.xy.items later kept.even

  pub even_grown : length later % 2 ≡ 0 → length xy % 2 ≡ 0
  even_grown pairs = omega (arith, ap length grown, length-append s.xy.items later, kept.even, pairs)

  pub without_ring : has_rings (number_of s.kind) ≡ false
      → shape (number_of s.kind) (pairs_of xy) (rings_from 0 s.ends.items) (lists_shown s.lists) (shapes_of s.parts.items) ≡ with_points now (pairs_of later)
  without_ring lacks =
      subst (λ t. shape (number_of s.kind) (pairs_of xy) (rings_from 0 s.ends.items) (lists_shown s.lists) (shapes_of s.parts.items) ≡ with_points t (pairs_of later)) is
      (rw (pairs_grown, lacks) refl)

  module _ (has : has_rings (number_of s.kind) ≡ true) (ends : List ℕ) (more : ends ≡ s.ends.items ++ (length s.xy.items + length later) / 2 ∷ []) where
    rings_grown : rings_from 0 ends ≡ rings_from 0 s.ends.items ++ (length own, length own + length (pairs_of later)) ∷ []
    rings_grown =
        let end : (length s.xy.items + length later) / 2 ≡ length own + length (pairs_of later) = omega (arith, length-pairs s.xy.items, length-pairs later, kept.even) in
        ap (rings_from 0) more
        ∙ rings_from-more 0 (length own) ((length s.xy.items + length later) / 2) s.ends.items ((level_of (owned_shape s) kept.shown.sound).chained has)
        ∙ ap (λ n. rings_from 0 s.ends.items ++ (length own, n) ∷ []) end

    pub with_ring : shape (number_of s.kind) (pairs_of xy) (rings_from 0 ends) (lists_shown s.lists) (shapes_of s.parts.items) ≡ with_points now (pairs_of later)
    with_ring =
        subst (λ t. shape (number_of s.kind) (pairs_of xy) (rings_from 0 ends) (lists_shown s.lists) (shapes_of s.parts.items) ≡ with_points t (pairs_of later)) is
        (rw (pairs_grown, rings_grown, has) refl)

-- what is put there can be
module _ (s : Inside) (now : Shape) (is : owned_shape s ≡ now) (kept : IsOwned s) (later : List ℕ) (finite : All (λ x. IsTrue (is_finite x)) later) (fits : (i : ℕ) → Fits w64 (get_or later i 0))
    (known : IsTrue (has_points (type_in now))) (bare : ordinates_in now ≡ no_ordinates)
    (single : type_in now ≡ 1 → length (points_in (with_points now (pairs_of later))) ≤ 1)
    (few_points : length (points_in (with_points now (pairs_of later))) ≤ 268435456) (few_rings : length (rings_in (with_points now (pairs_of later))) ≤ 268435456) where
  pub still_record : IsRecord (with_points now (pairs_of later))
  still_record = points_pushed now (pairs_of later) (subst IsRecord is kept.shown) (points_of-numbers later (are_numbers later finite fits)) known bare single few_points few_rings

  pub room_left : (length s.xy.items + length later) / 2 < 2 ^ 32
  room_left =
      let before = ap (λ t. length (points_in t)) is in
      omega (arith, few_points, before, length-append (points_in now) (pairs_of later), length-pairs s.xy.items, length-pairs later)
