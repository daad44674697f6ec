-- The leaves that a search finds rise.
use Rattle.std.proofs.Common.{◌≡◌, ℕ, ◌+◌, ◌≤◌, ◌<◌, ◌&&◌, Bool, true, false, List, [], ◌∷◌, ◌++◌, zero-add, subst, ◌∙◌, arith}
use Rattle.std.specs.Prelude.{cond}
use Rattle.std.specs.List.{filter, range_with_len}
use Rattle.order_keys.specs.declared.bounds.Bounds.{Bounds}
use Rattle.level_bounds.specs.Levels.{Shape, width}
use Rattle.level_bounds.proofs.Widths.{ceil_one}
use Rattle.fgb_outside.specs.Asked.{Ascends}
use Rattle.fgb_outside.proofs.Asking.{ascends_front, ascends_range, ascends_wider}
use Rattle.fgb_file.specs.File.{node_in}
use Rattle.box_list.specs.Lists.{meets_any}
use Rattle.tree_search.specs.Wanted.{hits, is_wanted, passes}
use Rattle.box_query.specs.Answers.{hit_leaves}

filter_ascends : (p : ℕ → Bool) (low high : ℕ) (xs : List ℕ) → Ascends low high xs → Ascends low high (filter p xs)
filter_ascends p low high [] up = up
filter_ascends p low high (x ∷ xs) up = kept (p x) (filter_ascends p (x + 1) high xs up.1)
  where
    kept : (b : Bool) → Ascends (x + 1) high (filter p xs) → Ascends low high (cond b (x ∷ filter p xs) (filter p xs))
    kept true rest = (up.0, rest)
    kept false rest = ascends_wider (x + 1) low high high (filter p xs) (omega (arith, up.0)) (omega arith) rest

-- one of a rising list
pub ascends_in : (low high : ℕ) (front : List ℕ) (k : ℕ) (rest : List ℕ) → Ascends low high (front ++ k ∷ rest) → k < high
ascends_in low high [] k rest up = let above : k + 1 ≤ high = ascends_front (k + 1) high [] rest up.1 in omega (arith, above)
ascends_in low high (x ∷ front) k rest up = ascends_in (x + 1) high front k rest up.1

pub hits_rise : (image : List ℕ) (t : Shape) (boxes : List Bounds) → Ascends 0 t.leaves (hit_leaves image t boxes)
unfolding hits
hits_rise image t boxes =
    let all : 0 + width t 0 ≡ t.leaves = zero-add (width t 0) ∙ ceil_one t.leaves t.node_size in
    subst (λ n. Ascends 0 n (hit_leaves image t boxes)) all
    (filter_ascends (λ i. is_wanted t (node_in image) (meets_any boxes) 0 i && passes t (node_in image) (meets_any boxes) 0 i) 0 (0 + width t 0) (range_with_len 0 (width t 0)) (ascends_range 0 (width t 0)))
