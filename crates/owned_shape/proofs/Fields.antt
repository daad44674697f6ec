-- What the fields of an owned shape tell of the shape that they show.
use Rattle.std.proofs.Common.{◌≡◌, ℕ, zero, suc, ◌+◌, ◌-◌, ◌*◌, ◌/◌, ◌<◌, List, [], ◌∷◌, ◌++◌, length, take, get_or, Some, refl, ap, sym, subst, ◌∙◌, add-one, arith}
use Rattle.std.specs.Prelude.{slice_get, slice_index}
use Rattle.std.specs.List.{All}
use Rattle.std.proofs.Math.Seq.{take-suc}
use Rattle.std.proofs.lemmas.Option.{same_Some, slice_get_within, slice_get-get_or, get_or_from_slice_get}
use Rattle.std.proofs.lemmas.List.Elements.{All-get_or}
use Rattle.geometry_view.proofs.OwnNumbers.{length-pairs, length-rings_from, pairs_at, rings_from_first, rings_from_later}
use Rattle.fgb_schema.specs.Shapes.{Shape, pairs_of, points_in, rings_from, rings_in, parts_in}
use Rattle.geometry_view.specs.Kinds.{number_of}
use Rattle.owned_shape.specs.declared.shape.Shape.TheInside.{Inside}
use Rattle.owned_shape.specs.ListsShown.{lists_shown}
use Rattle.owned_shape.specs.Owned.{owned_shape}
use Rattle.owned_shape.specs.Records.{IsPoint, IsRecord}
use Rattle.owned_shape.proofs.Parts.{level_of, parts_listed}

-- an element by a place, whatever stands for one that is missing
pub at_place : {A : Type 0} (xs : List A) (i : ℕ) (x : A) → i < length xs → x ≡ get_or xs i x → slice_get xs i ≡ Some x
at_place xs i x early is = slice_get-get_or xs i x early ∙ ap (λ y. Some y) (sym is)

pub read_at : (xs : List ℕ) (i x : ℕ) → i < length xs → x ≡ get_or xs i x → x ≡ slice_index xs i
read_at xs i x early is = same_Some x (slice_index xs i) (sym (at_place xs i x early is) ∙ slice_get-get_or xs i 0 early)

-- what holds of each element holds of the one at a place
pub all_at : {A : Type 0} (P : A → Type 0) (xs : List A) (i : ℕ) (x : A) → All P xs → slice_get xs i ≡ Some x → P x
all_at P xs i x all at = subst P (get_or_from_slice_get xs i x x at) (All-get_or P xs i x (slice_get_within xs i x at) all)

module _ (s : Inside) (now : Shape) (is : owned_shape s ≡ now) where
  pub points_held : length (points_in now) ≡ length s.xy.items / 2
  points_held = ap (λ s. length (points_in s)) (sym is) ∙ length-pairs s.xy.items

  pub rings_held : length (rings_in now) ≡ length s.ends.items
  rings_held = ap (λ s. length (rings_in s)) (sym is) ∙ length-rings_from 0 s.ends.items

  pub parts_held : parts_in now ≡ s.parts.items
  parts_held = ap parts_in (sym is) ∙ parts_listed (number_of s.kind) (pairs_of s.xy.items) (rings_from 0 s.ends.items) (lists_shown s.lists) s.parts.items

  module _ (i : ℕ) (early : i < length (points_in now)) (x y : ℕ) (first : x ≡ get_or s.xy.items (2 * i) x) (second : y ≡ get_or s.xy.items (2 * i + 1) y) where
    pub point_held : slice_get (points_in now) i ≡ Some (x, y)
    point_held =
        let held = points_held in
        ap (λ s. slice_get (points_in s) i) (sym is) ∙ pairs_at s.xy.items i (subst (λ s. i < length (points_in s)) (sym is) early)
        ∙ ap (λ n. Some (n, slice_index s.xy.items (2 * i + 1))) (sym (read_at s.xy.items (2 * i) x (omega (arith, early, held)) first))
        ∙ ap (λ n. Some (x, n)) (sym (read_at s.xy.items (2 * i + 1) y (omega (arith, early, held)) second))

    pub point_sound : IsRecord (owned_shape s) → IsPoint (x, y)
    point_sound kept = all_at IsPoint (points_in now) i (x, y) (level_of now (subst IsRecord is kept).sound).points point_held

pub ring_at : (ends : List ℕ) (i first end : ℕ) → i < length ends → (i ≡ 0 → first ≡ 0) → (0 < i → first ≡ slice_index ends (i - 1)) → end ≡ slice_index ends i
    → slice_get (rings_from 0 ends) i ≡ Some (first, end)
ring_at ends zero first end early begins later here = rings_from_first 0 ends early ∙ ap (λ n. Some (n, slice_index ends 0)) (sym (begins refl)) ∙ ap (λ n. Some (first, n)) (sym here)
ring_at ends (suc i) first end early begins later here =
    let at : slice_index ends i ≡ first = subst (λ n. slice_index ends n ≡ first) (omega arith) (sym (later (omega arith))) in
    rings_from_later 0 ends i early ∙ ap (λ n. Some (n, slice_index ends (suc i))) at ∙ ap (λ n. Some (first, n)) (sym here)

-- one element more of a list that is copied
pub take_more : {A : Type 0} (xs : List A) (i : ℕ) (x : A) → slice_get xs i ≡ Some x → take (i + 1) xs ≡ take i xs ++ x ∷ []
take_more xs i x at =
    ap (λ n. take n xs) (add-one i) ∙ take-suc xs i x (slice_get_within xs i x at)
    ∙ ap (λ y. take i xs ++ y ∷ []) (get_or_from_slice_get xs i x x at)

pub copy_more : {A : Type 0} (xs before after : List A) (i : ℕ) (x : A) → before ≡ take i xs → slice_get xs i ≡ Some x → after ≡ before ++ x ∷ [] → after ≡ take (i + 1) xs
copy_more xs before after i x so_far at grown = grown ∙ ap (λ ys. ys ++ x ∷ []) so_far ∙ sym (take_more xs i x at)
