-- What the points of one shape have in common, and the dimension of a whole shape.
use Rattle.std.proofs.Common.{◌≡◌, ℕ, ◌+◌, ◌≤◌, List, [], ◌∷◌, ◌++◌, length, take, Some, refl, ap, sym, ◌∙◌}
use Rattle.std.specs.Prelude.{slice_get}
use Rattle.std.specs.List.{All, flat_map}
use Rattle.std.proofs.lemmas.List.{append-nil, take_all}
use Rattle.std.proofs.lemmas.List.Concat.{flat_map-append}
use Rattle.std.proofs.lemmas.List.Elements.{All-append, All-cons, All-nil, All-weaker}
use Rattle.fgb_schema.specs.Shapes.{Shape, shape, Shapes, none, more, parts_in, points, points_in, points_of_all}
use Rattle.owned_shape.proofs.Fields.{take_more}
use Rattle.wkb_writer.specs.declared.dimension.Common.TheVariants.{Pointless, Of}
use Rattle.wkb_writer.specs.Commons.{HasPoints, IsCommon, IsPointless}
use Rattle.wkb_writer.specs.Dimensions.{Dimension, Fits, IsDimension, flat, tree, trees}
use Rattle.wkb_writer.proofs.Joins.{all_any}
use Rattle.wkb_writer.proofs.Trees.{tree_of}

-- a shape with what stands below the first of its parts
module _ (s : Shape) where
  abbrev pub first_trees : ℕ → List Shape
  first_trees i = s ∷ flat_map tree (take i (parts_in s))

  pub trees_more : (i : ℕ) (part : Shape) → slice_get (parts_in s) i ≡ Some part → first_trees (i + 1) ≡ first_trees i ++ tree part
  trees_more i part at = ap (λ ts. s ∷ ts) (ap (flat_map tree) (take_more (parts_in s) i part at) ∙ flat_map-append tree (take i (parts_in s)) (part ∷ []) ∙ ap (λ ts. flat_map tree (take i (parts_in s)) ++ ts) (append-nil (tree part)))

  pub all_trees : (i : ℕ) → length (parts_in s) ≤ i → first_trees i ≡ tree s
  all_trees i late = ap (λ parts. s ∷ flat_map tree parts) (take_all i (parts_in s) late) ∙ sym (tree_of s)

-- a shape without points has gone at any depth
empty_append : {A : Type 0} (xs ys : List A) → xs ++ ys ≡ [] → (xs ≡ []) × (ys ≡ [])
empty_append [] ys gone = (refl, gone)
empty_append (x ∷ xs) ys gone = absurd (cc gone)

abbrev Lacks : Shape → Type 0
Lacks s = points_in s ≡ []

mutual
  lacking : (g : Shape) → points g ≡ [] → All Lacks (tree g)
  lacking (shape kind own rings lists parts) gone =
      let both = empty_append own (points_of_all parts) gone in
      All-cons Lacks (shape kind own rings lists parts) (trees parts) both.0 (all_lacking parts both.1)

  all_lacking : (parts : Shapes) → points_of_all parts ≡ [] → All Lacks (trees parts)
  all_lacking none empty = All-nil Lacks
  all_lacking (more first rest) empty =
      let both = empty_append (points first) (points_of_all rest) empty in
      All-append Lacks (tree first) (trees rest) (lacking first both.0) (all_lacking rest both.1)

-- the dimension of a whole shape
pub pointless_flat : (g : Shape) → IsCommon (tree g) Pointless → IsDimension g flat
pointless_flat g gone = record {
  fits = All-weaker IsPointless (Fits flat) (λ s is. record { no_t = is.no_t; no_tm = is.no_tm; same = λ some. absurd (some is.points) }) (tree g) gone;
  pointless = λ _. refl;
}

pub of_points : (g : Shape) (d : Dimension) → IsCommon (tree g) (Of d) → IsDimension g d
of_points g d (fits, (k, s, early, at, some)) = record {
  fits = fits;
  pointless = λ gone. absurd (some (all_any Lacks HasPoints (tree g) (lacking g gone) (k, s, early, at, some)));
}
