-- A file has one index at most, and its features begin inside it.
use Rattle.std.proofs.Common.{◌≡◌, ℕ, ◌≤◌, true, false, List, length, Option, Some, None, refl, sym, ap, ◌∙◌, arith}
use Rattle.std.proofs.lemmas.Bool.{true≢false}
use Rattle.level_bounds.specs.Levels.{Shape, IsShape, width}
use Rattle.fgb_schema.specs.Headers.{has_index}
use Rattle.fgb_file.specs.File.{header_in, IsTree, IsIndex, absent, present, IsOpen, first_place}

-- a shape by its fields
abbrev shape_at : ℕ → ℕ → ℕ → Shape
shape_at leaves node_size top = record { leaves = leaves; node_size = node_size; top = top }

-- a number of leaves and a node size have one shape
pub shape_same : (t u : Shape) → IsShape t → IsShape u → t.leaves ≡ u.leaves → t.node_size ≡ u.node_size → t ≡ u
shape_same t u is iu leaves sizes =
    let widths : (k : ℕ) → width t k ≡ width u k = λ k. rw (leaves, sizes) refl in
    let tops : t.top ≡ u.top = omega (arith, is.least u.top iu.above (widths u.top ∙ iu.root), iu.least t.top is.above (sym (widths t.top) ∙ is.root)) in
    ap (λ n. shape_at n t.node_size t.top) leaves ∙ ap (λ n. shape_at u.leaves n t.top) sizes ∙ ap (shape_at u.leaves u.node_size) tops

module _ (image : List ℕ) where
  pub tree_same : {t u : Shape} → IsTree image t → IsTree image u → t ≡ u
  tree_same {t = t} {u = u} is iu =
      shape_same t u is.levels.shaped iu.levels.shaped (is.levels.leaves ∙ sym iu.levels.leaves) (is.levels.sized ∙ sym iu.levels.sized)

  pub not_both : has_index (header_in image) ≡ true → has_index (header_in image) ≡ false → ⊥
  not_both has none = let e : true ≡ false = cc (has, none) in true≢false e

  pub index_same : (i j : Option Shape) → IsIndex image i → IsIndex image j → i ≡ j
  index_same None None (absent none) (absent also) = refl
  index_same None (Some u) (absent none) (present has tree) = absurd (not_both has none)
  index_same (Some t) None (present has tree) (absent none) = absurd (not_both has none)
  index_same (Some t) (Some u) (present has tree) (present also other) = ap Some (tree_same tree other)

  pub open_same : {i j : Option Shape} → IsOpen image i → IsOpen image j → i ≡ j
  open_same {i = i} {j = j} a b = index_same i j a.between b.between

  pub open_inside : (index : Option Shape) → IsOpen image index → first_place image index ≤ length image
  open_inside None opened = opened.header.start.inside
  open_inside (Some t) opened = inside opened.between
    where
      inside : IsIndex image (Some t) → first_place image (Some t) ≤ length image
      inside (present has tree) = tree.inside
