-- The ordinates of the points of a shape.
use Rattle.std.proofs.Common.{◌≡◌, ℕ, zero, suc, List, [], ◌∷◌, ◌++◌, length, take, drop, Option, Some, None, refl, ap, ◌∙◌, arith}
use Rattle.std.specs.Prelude.{option_to_list, slice_get}
use Rattle.std.proofs.lemmas.List.{drop_all}
use Rattle.std.proofs.lemmas.Option.{same_Some}
use Rattle.fgb_schema.specs.Shapes.{Shape, points_in, ordinates_in}
use Rattle.wkb_writer.specs.Levels.{IsNumberAt, rows_in}
use Rattle.wkb_writer.specs.Wkb.{rows}

pub length-rows : (points : List (ℕ × ℕ)) (z m : List ℕ) → length (rows points z m) ≡ length points
length-rows [] z m = refl
length-rows (p ∷ points) z m = omega (arith, length-rows points (drop 1 z) (drop 1 m))

pub length-rows_in : (s : Shape) → length (rows_in s) ≡ length (points_in s)
length-rows_in s = length-rows (points_in s) (ordinates_in s).z (ordinates_in s).m

pub number_there : (list : List ℕ) (i x : ℕ) → slice_get list i ≡ Some x → IsNumberAt list i (Some x)
number_there [] i x at = absurd (cc at)
number_there (y ∷ list) zero x at = ap (λ x. x ∷ []) (same_Some y x at)
number_there (y ∷ list) (suc i) x at = number_there list i x at

pub number_absent : (list : List ℕ) (i : ℕ) → list ≡ [] → IsNumberAt list i None
number_absent list i lacks = ap (take 1) (drop_all i list (omega (arith, ap length lacks)))

dropped : (list : List ℕ) (i : ℕ) → drop i (drop 1 list) ≡ drop (suc i) list
dropped [] i = drop_all i [] (omega arith)
dropped (x ∷ list) i = refl

module _ (x y : ℕ) (a b : Option ℕ) where
  abbrev row : List ℕ
  row = x ∷ y ∷ option_to_list a ++ option_to_list b

  pub row_at : (points : List (ℕ × ℕ)) (z m : List ℕ) (i : ℕ) → slice_get points i ≡ Some (x, y) → IsNumberAt z i a → IsNumberAt m i b → slice_get (rows points z m) i ≡ Some row
  row_at [] z m i at height measure = absurd (cc at)
  row_at (p ∷ points) z m zero at height measure =
      let is = same_Some p (x, y) at in
      ap (λ (p : ℕ × ℕ). Some (p.0 ∷ p.1 ∷ take 1 z ++ take 1 m)) is ∙ ap (λ zs. Some (x ∷ y ∷ zs ++ take 1 m)) height ∙ ap (λ ms. Some (x ∷ y ∷ option_to_list a ++ ms)) measure
  row_at (p ∷ points) z m (suc i) at height measure =
      row_at points (drop 1 z) (drop 1 m) i at (ap (take 1) (dropped z i) ∙ height) (ap (take 1) (dropped m i) ∙ measure)
