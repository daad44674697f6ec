-- The features in the order of a packing are those of the file.
use Rattle.std.proofs.Common.{◌≡◌, ◌∙◌, ℕ, List, [], length, map, get_or, refl, ap, sym, subst}
use Rattle.std.specs.Prelude.{IsPermutation}
use Rattle.std.specs.List.{AllByRecursion, concat, range_with_len, sum_by}
use Rattle.std.proofs.lemmas.List.{length-map}
use Rattle.std.proofs.lemmas.List.Concat.{concat_is, length-flat_map}
use Rattle.std.proofs.lemmas.List.Elements.{All-from_recursion, recursion_from_All}
use Rattle.std.proofs.lemmas.List.FromFn.{fill_by_all}
use Rattle.std.proofs.lemmas.List.Sorted.{IsPermutation-map, length_permutation, All-permutation, sum_by-IsPermutation}
use Rattle.fgb_schema.specs.Headers.{Header}
use Rattle.fgb_file.specs.File.{box_of}
use Rattle.feature_order.specs.Order.{IsOrder}
use Rattle.packed_file.specs.Packing.{boxes_of, in_order}

abbrev numbered : List (List ℕ) → ℕ → List ℕ
numbered pieces k = get_or pieces k []

in_file_order : (pieces : List (List ℕ)) → pieces ≡ map (numbered pieces) (range_with_len 0 (length pieces))
in_file_order pieces = fill_by_all (numbered pieces) pieces (length pieces) [] refl (λ k early. refl)

pub ordered_same : (header : Header) (pieces : List (List ℕ)) (order : List ℕ) → IsOrder (boxes_of header pieces) order → IsPermutation pieces (in_order pieces order)
ordered_same header pieces order is =
    let numbers : IsPermutation (range_with_len 0 (length pieces)) order = subst (λ n. IsPermutation (range_with_len 0 n) order) (length-map pieces (box_of header)) is.all in
    subst (λ ps. IsPermutation ps (in_order pieces order)) (sym (in_file_order pieces)) (IsPermutation-map (numbered pieces) (range_with_len 0 (length pieces)) order numbers)

concat_long : (pieces : List (List ℕ)) → length (concat pieces) ≡ sum_by (λ p. length p) pieces
concat_long pieces = ap length (concat_is pieces) ∙ length-flat_map (λ p. p) pieces

-- as many, as long, and each as before
module _ (pieces ordered : List (List ℕ)) (same : IsPermutation pieces ordered) where
  pub ordered_count : length ordered ≡ length pieces
  ordered_count = length_permutation pieces ordered same

  pub ordered_long : length (concat ordered) ≡ length (concat pieces)
  ordered_long = concat_long ordered ∙ sum_by-IsPermutation (λ p. length p) pieces ordered same ∙ sym (concat_long pieces)

  pub ordered_all : (P : List ℕ → Type 0) → AllByRecursion P pieces → AllByRecursion P ordered
  ordered_all P all = recursion_from_All P ordered (All-permutation P pieces ordered same (All-from_recursion P pieces all))
