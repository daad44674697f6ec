-- Lists of which one is somewhere, and features in the order of their shapes.
use Rattle.std.proofs.Common.{◌≡◌, inl, ℕ, ◌+◌, ◌≤◌, length, ◌||◌, Bool, true, false, List, [], ◌∷◌, ◌++◌, Some, refl, sym, ap, ◌∙◌}
use Rattle.std.specs.Prelude.{slice_get}
use Rattle.std.specs.List.{AllByRecursion, list_any}
use Rattle.fgb_schema.specs.Shapes.{Shape, parts_in}
use Rattle.geometry_view.specs.declared.kind.Ordinate.{Ordinate}
use Rattle.wkb_writer.specs.Dimensions.{tree}
use Rattle.wkb_writer.proofs.Wholes.{all_trees, first_trees, trees_more}
use Rattle.feature_tables.specs.Records.{Fits}
use Rattle.shape_features.specs.Features.{features_over, header_over, stands_beside, stands_in}

or_assoc : (a b c : Bool) → ((a || b) || c) ≡ (a || (b || c))
or_assoc true b c = refl
or_assoc false b c = refl

-- one of some things or of others
pub any_append : {A : Type 0} (test : A → Bool) (xs ys : List A) → list_any test (xs ++ ys) ≡ (list_any test xs || list_any test ys)
any_append test [] ys = refl
any_append test (x ∷ xs) ys = ap (λ b. test x || b) (any_append test xs ys) ∙ sym (or_assoc (test x) (list_any test xs) (list_any test ys))

pub or_true : (a b c : Bool) → a ≡ true → c ≡ true → c ≡ (a || b)
or_true a b c first both = both ∙ ap (λ x. x || b) (sym first)

pub or_false : (a b c : Bool) → a ≡ false → c ≡ b → c ≡ (a || b)
or_false a b c first both = both ∙ ap (λ x. x || b) (sym first)

-- a shape with what stands below the first of its parts, and below one more
pub one_part_more : (which : Ordinate) (s : Shape) (i : ℕ) (part : Shape) (before below after : Bool) → slice_get (parts_in s) i ≡ Some part → before ≡ list_any (stands_beside which) (first_trees s i)
    → below ≡ stands_in which part → after ≡ (before || below) → after ≡ list_any (stands_beside which) (first_trees s (i + 1))
one_part_more which s i part before below after at so_far in_part both =
    both
    ∙ (λ j. so_far j || in_part j)
    ∙ sym (any_append (stands_beside which) (first_trees s i) (tree part))
    ∙ ap (list_any (stands_beside which)) (sym (trees_more s i part at))

pub all_parts : (which : Ordinate) (s : Shape) (i : ℕ) (stands : Bool) → length (parts_in s) ≤ i → stands ≡ list_any (stands_beside which) (first_trees s i) → stands ≡ stands_in which s
all_parts which s i stands late so_far = so_far ∙ ap (list_any (stands_beside which)) (all_trees s i late)

-- a header over shapes is fit by any feature without properties
pub all_fit : (all shapes : List Shape) → AllByRecursion (Fits (header_over all)) (features_over shapes)
all_fit all [] = tt
all_fit all (g ∷ shapes) = (record { shape = λ s is. inl refl; properties = tt }, all_fit all shapes)
