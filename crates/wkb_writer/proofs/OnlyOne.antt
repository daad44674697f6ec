-- A shape has one spelling, or none.
use Rattle.std.proofs.Common.{◌≡◌, ◌⊎◌, inl, inr, ℕ, List, [], ◌∷◌, ◌++◌, refl, ap, sym, ◌∙◌, arith}
use Rattle.std.specs.List.{Any}
use Rattle.fgb_schema.specs.Shapes.{Shape, shape, Shapes, none, more, points, points_of_all}
use Rattle.wkb_writer.specs.Commons.{HasPoints}
use Rattle.wkb_writer.specs.Dimensions.{Differ, Dimension, Fits, HasNoWkb, IsDimension, IsTimed, tree, trees}
use Rattle.wkb_writer.specs.Wkb.{IsEwkb, IsWkb, value, value_with_srid}
use Rattle.wkb_writer.proofs.Joins.{all_any, any_left, any_right, dimension_at}

-- no points, or a part with points
mutual
  some_points : (g : Shape) → (points g ≡ []) ⊎ Any HasPoints (tree g)
  some_points (shape kind (p ∷ own) rings lists parts) = inr (0, shape kind (p ∷ own) rings lists parts, omega arith, refl, λ gone. cc gone)
  some_points (shape kind [] rings lists parts) = elim (some_in_parts parts) [
    | inl gone ↦ inl gone
    | inr some ↦ inr (any_right HasPoints (shape kind [] rings lists parts ∷ []) (trees parts) some)
  ]

  some_in_parts : (parts : Shapes) → (points_of_all parts ≡ []) ⊎ Any HasPoints (trees parts)
  some_in_parts none = inl refl
  some_in_parts (more first rest) = elim (some_points first) [
    | inr some ↦ inr (any_left HasPoints (tree first) (trees rest) some)
    | inl gone ↦ elim (some_in_parts rest) [
      | inl others ↦ inl (ap (λ ps. ps ++ points_of_all rest) gone ∙ others)
      | inr some ↦ inr (any_right HasPoints (tree first) (trees rest) some)
    ]
  ]

one_dimension : (g : Shape) (d e : Dimension) → IsDimension g d → IsDimension g e → d ≡ e
one_dimension g d e this other = elim (some_points g) [
  | inl gone ↦ this.pointless gone ∙ sym (other.pointless gone)
  | inr some ↦ sym (dimension_at d (tree g) this.fits some) ∙ dimension_at e (tree g) other.fits some
]

pub only_one : (g : Shape) (a b : List ℕ) → IsWkb g a → IsWkb g b → a ≡ b
only_one g a b this other = this.spelled ∙ ap (λ d. value d g) (one_dimension g this.dimension other.dimension this.is other.is) ∙ sym other.spelled

pub only_extended : (srid : ℕ) (g : Shape) (a b : List ℕ) → IsEwkb srid g a → IsEwkb srid g b → a ≡ b
only_extended srid g a b this other = this.spelled ∙ ap (λ d. value_with_srid srid d g) (one_dimension g this.dimension other.dimension this.is other.is) ∙ sym other.spelled

pub none_of_both : (g : Shape) (bytes : List ℕ) → IsWkb g bytes → HasNoWkb g → ⊥
none_of_both g bytes is refused = elim refused [
  | inl timed ↦
      let fits = all_any (Fits is.dimension) IsTimed (tree g) is.is.fits timed in
      elim timed.4 [ inl t ↦ t fits.no_t | inr tm ↦ tm fits.no_tm ]
  | inr two ↦
      let one = all_any (Fits is.dimension) (λ s. Any (Differ s) (tree g)) (tree g) is.is.fits two in
      let other = all_any (Fits is.dimension) (Differ two.1) (tree g) is.is.fits two.4 in
      let differ = two.4.4 in
      differ.apart (one.same differ.points ∙ sym (other.same differ.others))
]
