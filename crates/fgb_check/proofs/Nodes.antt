-- The nodes of an index that begins at a place, by the definitions of the file.
use Rattle.std.proofs.Common.{◌≡◌, ℕ, ◌+◌, ◌*◌, ◌≤◌, List, length, Option, Some, None, refl, sym, ap, subst, ◌∙◌, arith}
use Rattle.flat_layout.specs.declared.Broken.{Broken}
use Rattle.flat_layout.specs.Promises.{IsClean}
use Rattle.level_bounds.specs.Levels.{Shape, node_count}
use Rattle.node_items.specs.Nodes.{stored}
use Rattle.node_items.specs.Faults.{BreaksTree}
use Rattle.fgb_file.specs.File.{header_end, first_place, IsOpen, AreNodes, nodes_of, BreaksFirst}
use Rattle.fgb_file.proofs.Opening.{open_inside}
use Rattle.fgb_file.proofs.Passing.{first_tree}

module _ (image : List ℕ) (index : Option Shape) (t : Shape) (place : ℕ) (is : index ≡ Some t) (begins : place ≡ header_end image) where
  pub nodes_inside : IsOpen image index → place + 40 * node_count t ≤ length image
  nodes_inside opened = subst (λ n. n + 40 * node_count t ≤ length image) (sym begins) (open_inside image (Some t) (subst (IsOpen image) is opened))

  pub nodes_refused : {e : Broken} → IsOpen image index → BreaksTree t (stored image place) place e.place e.rule → BreaksFirst image e
  nodes_refused {e = e} opened broken = first_tree image (subst (IsOpen image) is opened) (subst (λ n. BreaksTree t (stored image n) n e.place e.rule) begins broken)

  pub nodes_clean : IsClean (BreaksTree t (stored image place) place) → AreNodes image index
  nodes_clean clean = subst (AreNodes image) (sym is) (subst (λ n. IsClean (BreaksTree t (stored image n) n)) begins clean)

  pub nodes_counted : node_count t ≡ nodes_of index
  nodes_counted = ap nodes_of (sym is)

-- the first feature stands behind them
pub first_behind : (image : List ℕ) (index : Option Shape) (place first : ℕ) → place ≡ header_end image → first ≡ place + 40 * nodes_of index → first ≡ first_place image index
first_behind image None place first begins behind = omega (arith, begins, behind)
first_behind image (Some t) place first begins behind = behind ∙ ap (λ n. n + 40 * node_count t) begins
