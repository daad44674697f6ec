-- A shape, its parts, and the trees and the bytes below them.
use Rattle.std.proofs.Common.{◌≡◌, ℕ, zero, suc, ◌+◌, ◌≤◌, List, ◌∷◌, ◌++◌, map, Some, refl, ap, sym, arith}
use Rattle.std.specs.Prelude.{slice_get}
use Rattle.std.specs.List.{flat_map}
use Rattle.std.proofs.lemmas.Option.{same_Some}
use Rattle.fgb_schema.specs.Shapes.{Shape, shape, Shapes, none, more, Ordinates, type_in, parts_in}
use Rattle.owned_shape.specs.Records.{depth, deepest}
use Rattle.wkb_writer.specs.declared.dialect.Dialect.{Dialect}
use Rattle.wkb_writer.specs.Dimensions.{Dimension, tree, trees}
use Rattle.wkb_writer.specs.Levels.{rows_in}
use Rattle.wkb_writer.specs.Wkb.{body, body_of, head, value_in, values_in}

module _ (kind : ℕ) (own rings : List (ℕ × ℕ)) (lists : Ordinates) where
  trees_listed : (parts : Shapes) → flat_map tree (parts_in (shape kind own rings lists parts)) ≡ trees parts
  trees_listed none = refl
  trees_listed (more first rest) = ap (λ ts. tree first ++ ts) (trees_listed rest)

  pub values_listed : (dialect : Dialect) (d : Dimension) (parts : Shapes) → map (value_in dialect d) (parts_in (shape kind own rings lists parts)) ≡ values_in dialect d parts
  values_listed dialect d none = refl
  values_listed dialect d (more first rest) = ap (λ bytes. value_in dialect d first ∷ bytes) (values_listed dialect d rest)

  below_deepest : (parts : Shapes) (i : ℕ) (part : Shape) → slice_get (parts_in (shape kind own rings lists parts)) i ≡ Some part → depth part ≤ deepest parts
  below_deepest none i part at = absurd (cc at)
  below_deepest (more first rest) zero part at = let same = ap depth (same_Some first part at) in omega (arith, same)
  below_deepest (more first rest) (suc i) part at = omega (arith, below_deepest rest i part at)

pub tree_of : (s : Shape) → tree s ≡ s ∷ flat_map tree (parts_in s)
tree_of (shape kind own rings lists parts) = ap (λ ts. shape kind own rings lists parts ∷ ts) (sym (trees_listed kind own rings lists parts))

pub value_of : (dialect : Dialect) (d : Dimension) (s : Shape) → value_in dialect d s ≡ head dialect (type_in s) d ++ body_of dialect d s
value_of dialect d (shape kind own rings lists parts) =
    ap (λ bytes. head dialect kind d ++ body dialect d kind (rows_in (shape kind own rings lists parts)) rings bytes) (sym (values_listed kind own rings lists dialect d parts))

-- a part is less deep
pub part_below : (s : Shape) (i : ℕ) (part : Shape) → slice_get (parts_in s) i ≡ Some part → depth part + 1 ≤ depth s
part_below (shape kind own rings lists parts) i part at = omega (arith, below_deepest kind own rings lists parts i part at)
