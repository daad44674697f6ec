-- How many bytes the parts of a shape have, and that sums of them are small.
use Rattle.std.proofs.Common.{◌≡◌, ℕ, zero, suc, ◌+◌, ◌*◌, ◌≤◌, List, [], ◌∷◌, ◌++◌, length, map, drop, Some, ap, subst, ◌∙◌, arith}
use Rattle.std.specs.Prelude.{slice_get}
use Rattle.std.specs.List.{All, concat, flat_map}
use Rattle.std.proofs.lemmas.List.{drop_all, get_or_append_left, get_or-append-add, length-append}
use Rattle.std.proofs.lemmas.List.Elements.{All-head, All-tail}
use Rattle.std.proofs.lemmas.Option.{same_Some}
use Rattle.byteorder.specs.Numbers.{length-bytes_low_first}
use Rattle.fgb_schema.specs.Shapes.{Shape, type_in, parts_in, points_in, rings_in}
use Rattle.geometry_view.specs.Weights.{shape_weight}
use Rattle.geometry_view.proofs.Light.{weight_by, with_entries}
use Rattle.wkb_writer.specs.Dimensions.{Dimension, tree}
use Rattle.wkb_writer.specs.declared.dialect.Dialect.TheVariants.{Iso}
use Rattle.wkb_writer.specs.Wkb.{body_of, head, type_number, value}
use Rattle.wkb_writer.proofs.Sizes.{IsBodySize}
use Rattle.wkb_writer.proofs.Trees.{tree_of, value_of}

-- what holds at every depth of a shape holds at every depth of its parts
module _ (P : Shape → Type 0) where
  all_left : (xs ys : List Shape) → All P (xs ++ ys) → All P xs
  all_left xs ys all k x early = subst P (get_or_append_left xs ys x k early) (all k x (omega (arith, early, length-append xs ys)))

  all_right : (xs ys : List Shape) → All P (xs ++ ys) → All P ys
  all_right xs ys all k x early = subst P (get_or-append-add xs ys k x) (all (length xs + k) x (omega (arith, early, length-append xs ys)))

  all_one : (shapes : List Shape) (i : ℕ) (one : Shape) → slice_get shapes i ≡ Some one → All P (flat_map tree shapes) → All P (tree one)
  all_one [] i one at all = absurd (cc at)
  all_one (first ∷ rest) zero one at all = subst (λ s. All P (tree s)) (same_Some first one at) (all_left (tree first) (flat_map tree rest) all)
  all_one (first ∷ rest) (suc i) one at all = all_one rest i one at (all_right (tree first) (flat_map tree rest) all)

  split_tree : (s : Shape) → All P (tree s) → All P (s ∷ flat_map tree (parts_in s))
  split_tree s all = subst (All P) (tree_of s) all

  pub all_own : (s : Shape) → All P (tree s) → P s
  all_own s all = All-head P s (flat_map tree (parts_in s)) (split_tree s all)

  pub all_of_part : (s : Shape) (i : ℕ) (part : Shape) → slice_get (parts_in s) i ≡ Some part → All P (tree s) → All P (tree part)
  all_of_part s i part at all = all_one (parts_in s) i part at (All-tail P s (flat_map tree (parts_in s)) (split_tree s all))

from_this : (shapes : List Shape) (i : ℕ) (one : Shape) → slice_get shapes i ≡ Some one → drop i shapes ≡ one ∷ drop (suc i) shapes
from_this [] i one at = absurd (cc at)
from_this (first ∷ rest) zero one at = ap (λ s. s ∷ rest) (same_Some first one at)
from_this (first ∷ rest) (suc i) one at = from_this rest i one at

module _ (d : Dimension) (s : Shape) where
  -- the bytes of the parts from the i-th on, and what these weigh
  abbrev later_bytes : ℕ → ℕ
  later_bytes i = length (concat (map (value d) (drop i (parts_in s))))

  abbrev later_weight : ℕ → ℕ
  later_weight i = with_entries (drop i (parts_in s))

  -- a size without the parts from the i-th on
  pub record IsSizeTo (i size : ℕ) : Type 0 where
    pub all : size + later_bytes i ≡ length (value d s)
    pub small : size + 16 * later_weight i ≤ 16 * shape_weight s

  pub size_before : (n : ℕ) → IsBodySize d s n → n ≤ 32 + 9 * length (rings_in s) + 37 * length (points_in s) → IsSizeTo 0 (5 + n)
  size_before n behind small =
      let front = head Iso (type_in s) d in
      let in_front : length front ≡ 5 = omega (arith, length-bytes_low_first 0 4 (type_number (type_in s) d)) in
      let whole = ap length (value_of Iso d s) ∙ length-append front (body_of Iso d s) in
      record {
        all = omega (arith, behind, whole, in_front);
        small = omega (arith, small, weight_by s);
      }

  pub size_more : (i : ℕ) (part : Shape) (size one : ℕ) → slice_get (parts_in s) i ≡ Some part → one ≡ length (value d part) → one ≤ 16 * shape_weight part
      → IsSizeTo i size → IsSizeTo (i + 1) (size + one)
  size_more i part size one at is small before =
      let next : suc i ≡ i + 1 = omega arith in
      let from = from_this (parts_in s) i part at ∙ ap (λ n. part ∷ drop n (parts_in s)) next in
      let later = drop (i + 1) (parts_in s) in
      let bytes = ap (λ ps. length (concat (map (value d) ps))) from ∙ length-append (value d part) (concat (map (value d) later)) in
      record {
        all = omega (arith, before.all, bytes, is);
        small = omega (arith, before.small, ap with_entries from, small);
      }

  pub size_after : (i size : ℕ) → length (parts_in s) ≤ i → IsSizeTo i size → (size ≡ length (value d s)) × (size ≤ 16 * shape_weight s)
  size_after i size late before =
      let gone = drop_all i (parts_in s) late in
      let nothing = ap (λ ps. length (concat (map (value d) ps))) gone in
      (omega (arith, before.all, nothing), omega (arith, before.small))
