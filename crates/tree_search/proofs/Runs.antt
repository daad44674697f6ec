-- The first run of neighbours of some nodes, and the nodes behind it.
use Rattle.std.proofs.Common.{◌≡◌, ℕ, zero, suc, ◌+◌, ◌<◌, ◌≤◌, List, [], ◌∷◌, ◌++◌, length, take, drop, map, refl, sym, ap, subst, ◌∙◌, append_assoc, arith, length-take}
use Rattle.std.specs.List.{AllByRecursion, flat_map, range_with_len}
use Rattle.std.proofs.lemmas.List.{map-append, take-append-drop}
use Rattle.std.proofs.lemmas.List.Concat.{flat_map-append}
use Rattle.fgb_outside.specs.Asked.{Ascends}
use Rattle.flat_layout.specs.declared.Broken.{Broken}
use Rattle.level_bounds.specs.Levels.{Shape, width, nodes_above, node_count}
use Rattle.level_bounds.proofs.Places.{level_within}
use Rattle.node_items.proofs.Runs.{BeginsWith}
use Rattle.read_stop.specs.Stops.{AtRefusal}
use Rattle.read_stop.specs.declared.stop.ReadStop.{ReadStop}
use Rattle.read_stop.proofs.Stopping.{refusal_map}
use Rattle.tree_search.specs.declared.search.Hit.{Hit}
use Rattle.tree_search.specs.Descent.{AreNeighbours, all_children, children_of, first_number, level_positions, numbers}
use Rattle.tree_search.proofs.Positions.{level_append}

pub rise_bounds : (low high : ℕ) (xs : List ℕ) → Ascends low high xs → low ≤ high
rise_bounds low high [] rise = rise
rise_bounds low high (x ∷ xs) rise = omega (arith, rise.0, rise_bounds (x + 1) high xs rise.1)

-- the first node is in front of the end
pub first_below : (low high : ℕ) (hits : List Hit) → Ascends low high (numbers hits) → 0 < length hits → first_number hits < high
first_below low high [] rise some = absurd (omega arith)
first_below low high (h ∷ hits) rise some = omega (arith, rise_bounds (h.number + 1) high (numbers hits) rise.1)

-- a level is no wider than the tree
pub width_within : (t : Shape) (k : ℕ) → k ≤ t.top → width t k ≤ node_count t
width_within t k under = part (nodes_above t k) (width t k) (node_count t) (level_within t k under)
  where
    part : (a w n : ℕ) → a + w ≤ n → w ≤ n
    part a w n le = omega arith

-- behind a range that ascends with what follows it
after_range : (low high j n : ℕ) (rest : List ℕ) → 0 < n → Ascends low high (range_with_len j n ++ rest) → (low ≤ j) × Ascends (j + n) high rest
after_range low high j zero rest some rise = absurd (omega arith)
after_range low high j (suc zero) rest some rise = rise
after_range low high j (suc (suc n)) rest some rise =
    let more = after_range (j + 1) high (j + 1) (suc n) rest (omega arith) rise.1 in
    let e : j + 1 + suc n ≡ j + suc (suc n) = omega arith in
    (rise.0, subst (λ m. Ascends m high rest) e more.1)

first_of_take : (n : ℕ) (hits : List Hit) → 0 < n → first_number (take n hits) ≡ first_number hits
first_of_take zero hits some = absurd (omega arith)
first_of_take (suc n) [] some = refl
first_of_take (suc n) (h ∷ hits) some = refl

-- the run in front
pub front_neighbours : (rest run : List Hit) (n : ℕ) → run ≡ take n rest → numbers (take n rest) ≡ range_with_len (first_number rest) n → 0 < n → n ≤ length rest → AreNeighbours run
front_neighbours rest run n is are some within =
    let len : n ≡ length run = omega (arith, ap length is, length-take n rest) in
    ap numbers is ∙ are ∙ ap (λ m. range_with_len m n) (sym (first_of_take n rest some) ∙ ap first_number (sym is)) ∙ ap (range_with_len (first_number run)) len

pub parted : (rest run later : List Hit) (n : ℕ) → run ≡ take n rest → later ≡ drop n rest → rest ≡ run ++ later
parted rest run later n front back = sym (take-append-drop n rest) ∙ ap (λ l. l ++ drop n rest) (sym front) ∙ ap (λ l. run ++ l) (sym back)

module _ (rest run later : List Hit) (split : rest ≡ run ++ later) where
  pub numbers_split : numbers rest ≡ numbers run ++ numbers later
  numbers_split = ap numbers split ∙ map-append (λ (h : Hit). h.number) run later

  pub run_and_later : (low high : ℕ) → AreNeighbours run → 0 < length run → Ascends low high (numbers rest) → (low ≤ first_number run) × Ascends (first_number run + length run) high (numbers later)
  run_and_later low high are some rise =
      after_range low high (first_number run) (length run) (numbers later) some (subst (Ascends low high) (numbers_split ∙ ap (λ l. l ++ numbers later) are) rise)

  pub run_there : (low high : ℕ) → AreNeighbours run → 0 < length run → Ascends low high (numbers rest) → first_number run + length run ≤ high
  run_there low high are some rise = rise_bounds (first_number run + length run) high (numbers later) (run_and_later low high are some rise).1

  -- parts along all of them
  pub parts_split : {A : Type 0} (f : ℕ → List A) → flat_map f (numbers rest) ≡ flat_map f (numbers run) ++ flat_map f (numbers later)
  parts_split f = ap (flat_map f) numbers_split ∙ flat_map-append f (numbers run) (numbers later)

  pub positions_split : (at : ℕ) (t : Shape) (k : ℕ) → level_positions at t k (all_children t k (numbers rest)) ≡ level_positions at t k (all_children t k (numbers run)) ++ level_positions at t k (all_children t k (numbers later))
  positions_split at t k =
      ap (level_positions at t k) (parts_split (children_of t k)) ∙ level_append at t k (all_children t k (numbers run)) (all_children t k (numbers later))

  -- what was found in the run, and what is left
  pub found_left : (h : ℕ → Hit) (f : ℕ → List ℕ) (now new all : List Hit) → now ++ map h (flat_map f (numbers rest)) ≡ all → new ≡ now ++ map h (flat_map f (numbers run)) → new ++ map h (flat_map f (numbers later)) ≡ all
  found_left h f now new all so_far more =
      ap (λ l. l ++ map h (flat_map f (numbers later))) more
      ∙ append_assoc now (map h (flat_map f (numbers run))) (map h (flat_map f (numbers later)))
      ∙ ap (λ l. now ++ l) (sym (map-append h (flat_map f (numbers run)) (flat_map f (numbers later))) ∙ ap (map h) (sym (parts_split f)))
      ∙ so_far

  -- no fault in the run, or the first one
  pub clean_left : (f : ℕ → List Broken) → flat_map f (numbers run) ≡ [] → flat_map f (numbers rest) ≡ flat_map f (numbers later)
  clean_left f none = parts_split f ∙ ap (λ l. l ++ flat_map f (numbers later)) none

  pub refused_run : (f : ℕ → List Broken) (stop : ReadStop) → AtRefusal stop (BeginsWith (flat_map f (numbers run))) → AtRefusal stop (BeginsWith (flat_map f (numbers rest)))
  refused_run f stop refused =
      refusal_map stop _ _ (λ e begins. (begins.0 ++ flat_map f (numbers later), parts_split f ∙ ap (λ l. l ++ flat_map f (numbers later)) begins.1)) refused

pub both_all : {X : Type 0} (P : X → Type 0) (xs ys : List X) → AllByRecursion P (xs ++ ys) → AllByRecursion P xs × AllByRecursion P ys
both_all P [] ys all = (tt, all)
both_all P (x ∷ xs) ys all = let more = both_all P xs ys all.1 in ((all.0, more.0), more.1)
