-- The first run of some nodes, and the nodes behind it.
use Rattle.std.proofs.Common.{◌≡◌, ℕ, ◌+◌, ◌-◌, ◌<◌, ◌≤◌, List, [], ◌∷◌, ◌++◌, length, take, drop, get_or, map, sym, ap, subst, ◌∙◌, append_assoc, arith}
use Rattle.std.specs.Prelude.{Option}
use Rattle.std.specs.List.{flat_map}
use Rattle.std.proofs.lemmas.List.{map-append, take-append-drop}
use Rattle.std.proofs.lemmas.List.Concat.{flat_map-append}
use Rattle.fgb_outside.specs.Asked.{Ascends}
use Rattle.fgb_outside.proofs.Asking.{ascends_front, ascends_wider}
use Rattle.flat_layout.specs.declared.Broken.{Broken}
use Rattle.gap_window.specs.Gaps.{behind, bridged_behind}
use Rattle.gap_window.proofs.Bridges.{behind_append, behind_behind}
use Rattle.level_bounds.specs.Levels.{Shape}
use Rattle.node_items.proofs.Runs.{BeginsWith}
use Rattle.read_stop.specs.Stops.{AtRefusal}
use Rattle.read_stop.specs.declared.stop.ReadStop.{ReadStop}
use Rattle.read_stop.proofs.Stopping.{refusal_map}
use Rattle.tree_search.specs.declared.search.Hit.{Hit as Plain}
use Rattle.tree_search.specs.Descent.{all_children, children_before, children_of, level_positions}
use Rattle.tree_search.proofs.Positions.{level_append}
use Rattle.box_search.specs.declared.nodes.Hit.{Hit}
use Rattle.box_search.specs.Hits.{plain, plains}
use Rattle.box_search.specs.Runs.{ends_at}
use Rattle.box_search.proofs.Lists.{ends_is, last_below, length_nums, nums, nums_split, rise_parts}

pub parted : (rest run later : List Hit) (n : ℕ) → run ≡ take n rest → later ≡ drop n rest → rest ≡ run ++ later
parted rest run later n front back = sym (take-append-drop n rest) ∙ ap (λ l. l ++ drop n rest) (sym front) ∙ ap (λ l. run ++ l) (sym back)

module _ (rest run later : List Hit) (split : rest ≡ run ++ later) where
  pub plains_split : plains rest ≡ plains run ++ plains later
  plains_split = ap plains split ∙ map-append plain run later

  -- behind the last node of the run
  pub run_and_later : (low high : ℕ) → 0 < length run → Ascends low high (nums rest)
      → (mid : ℕ) × (Ascends low mid (nums run) × (get_or (nums run) (length run - 1) 0 + 1 ≤ mid) × Ascends (get_or (nums run) (length run - 1) 0 + 1) high (nums later))
  run_and_later low high some rise =
      let parts = rise_parts low high (nums run) (nums later) (subst (Ascends low high) (nums_split rest run later split) rise) in
      let last = last_below low parts.0 (nums run) (length run - 1) parts.1.0 (omega (arith, length_nums run, some)) in
      (parts.0, (parts.1.0, omega (arith, last), ascends_wider parts.0 (get_or (nums run) (length run - 1) 0 + 1) high high (nums later) (omega (arith, last)) (omega arith) parts.1.1))

  pub run_rises : (low high : ℕ) → Ascends low high (nums rest) → Ascends low high (nums run)
  run_rises low high rise = ascends_front low high (nums run) (nums later) (subst (Ascends low high) (nums_split rest run later split) rise)

  pub parts_split : {A : Type 0} (f : ℕ → List A) → flat_map f (nums rest) ≡ flat_map f (nums run) ++ flat_map f (nums later)
  parts_split f = ap (flat_map f) (nums_split rest run later split) ∙ flat_map-append f (nums run) (nums later)

  positions_split : (at : ℕ) (t : Shape) (k : ℕ) → level_positions at t k (all_children t k (nums rest)) ≡ level_positions at t k (all_children t k (nums run)) ++ level_positions at t k (all_children t k (nums later))
  positions_split at t k =
      ap (level_positions at t k) (parts_split (children_of t k)) ∙ level_append at t k (all_children t k (nums run)) (all_children t k (nums later))

  -- what is asked for along the run, and then behind it
  pub bridged_split : (at : ℕ) (t : Shape) (k gap : ℕ) (last : Option ℕ) → bridged_behind gap last (level_positions at t k (all_children t k (nums rest)))
      ≡ bridged_behind gap last (level_positions at t k (all_children t k (nums run))) ++ bridged_behind gap (behind last (level_positions at t k (all_children t k (nums run)))) (level_positions at t k (all_children t k (nums later)))
  bridged_split at t k gap last =
      ap (bridged_behind gap last) (positions_split at t k) ∙ behind_append gap last (level_positions at t k (all_children t k (nums run))) (level_positions at t k (all_children t k (nums later)))

  pub behind_split : (at : ℕ) (t : Shape) (k : ℕ) (last : Option ℕ) → behind last (level_positions at t k (all_children t k (nums rest)))
      ≡ behind (behind last (level_positions at t k (all_children t k (nums run)))) (level_positions at t k (all_children t k (nums later)))
  behind_split at t k last =
      ap (behind last) (positions_split at t k) ∙ behind_behind last (level_positions at t k (all_children t k (nums run))) (level_positions at t k (all_children t k (nums later)))

  pub found_left : (h : ℕ → Plain) (f : ℕ → List ℕ) (now new all : List Plain) → now ++ map h (flat_map f (nums rest)) ≡ all → new ≡ now ++ map h (flat_map f (nums run)) → new ++ map h (flat_map f (nums later)) ≡ all
  found_left h f now new all so_far more =
      ap (λ l. l ++ map h (flat_map f (nums later))) more
      ∙ append_assoc now (map h (flat_map f (nums run))) (map h (flat_map f (nums later)))
      ∙ ap (λ l. now ++ l) (sym (map-append h (flat_map f (nums run)) (flat_map f (nums later))) ∙ ap (map h) (sym (parts_split f)))
      ∙ so_far

  pub clean_left : (f : ℕ → List Broken) → flat_map f (nums run) ≡ [] → flat_map f (nums rest) ≡ flat_map f (nums later)
  clean_left f none = parts_split f ∙ ap (λ l. l ++ flat_map f (nums later)) none

  pub refused_run : (f : ℕ → List Broken) (stop : ReadStop) → AtRefusal stop (BeginsWith (flat_map f (nums run))) → AtRefusal stop (BeginsWith (flat_map f (nums rest)))
  refused_run f stop refused =
      refusal_map stop _ _ (λ e begins. (begins.0 ++ flat_map f (nums later), parts_split f ∙ ap (λ l. l ++ flat_map f (nums later)) begins.1)) refused

-- where the children of the last of them end
pub run_ends : (t : Shape) (k : ℕ) (run : List Hit) → 0 < length run → ends_at t k (nums run) ≡ children_before t k (get_or (nums run) (length run - 1) 0 + 1)
run_ends t k run some = ends_is t k (nums run) (length run - 1) (omega (arith, length_nums run, some))
