-- What a window that reached a place asked for.
use Rattle.std.proofs.Common.{◌≡◌, ℕ, ◌+◌, ◌-◌, ◌*◌, ◌<◌, ◌≤◌, true, List, [], ◌∷◌, ◌++◌, length, inl, inr, sym, ap, subst, ◌∙◌, arith}
use Rattle.std.specs.Prelude.{if◌then◌else◌, Some, None}
use Rattle.std.specs.List.{range_with_len}
use Rattle.std.proofs.lemmas.Bool.{cases_lt}
use Rattle.fgb_outside.specs.Source.{Source}
use Rattle.fgb_outside.specs.Asked.{IsInside, Reads, ReadsFront}
use Rattle.fgb_outside.proofs.Asking.{front_along, front_weaken, inside_wider, range_split, reads_along, reads_reads, reads_then_front}
use Rattle.section_window.specs.Window.{ahead, Shows}
use Rattle.section_window.proofs.Parts.{range_same}
use Rattle.section_window.proofs.Reading.{front_inside, reads_inside}
use Rattle.section_window.proofs.Showing.{ahead_passed, shows_passed}
use Rattle.gap_window.specs.Gaps.{behind, bridged, bridged_behind, hole}
use Rattle.gap_window.specs.Bridging.{Bridging, Reaches, ReachesPart, asks_from, gone, last_asked}
use Rattle.gap_window.proofs.Bridges.{asks_bridged, behind_range, range_ends}
use Rattle.level_bounds.specs.Levels.{Shape}
use Rattle.node_items.specs.Nodes.{node_place}
use Rattle.tree_search.specs.Descent.{level_positions}
use Rattle.tree_search.proofs.Positions.{root_positions}
use Rattle.tree_search.proofs.Requests.{front_some, reads_wider}
use Rattle.box_search.specs.Sought.{GoesTo, IsOver}

pub reached_until : (old mid : Bridging) (s s' : Source) (to want until : ℕ) → Reaches old mid s s' to want until → ahead old.held ≤ until → ahead mid.held ≤ until
reached_until old mid s s' to want until r le = elim (cases_lt (ahead old.held) (to + want)) [
  | inl less ↦ r.before less
  | inr enough ↦ let same = r.idle enough in omega (arith, same, le)
]

pub gone_ahead : (mid new : Bridging) (n : ℕ) → n ≤ length mid.held.bytes → new ≡ gone mid n → ahead new.held ≡ ahead mid.held
gone_ahead mid new n within is = ap (λ (w : Bridging). ahead w.held) is ∙ ahead_passed mid.held n within

module _ (old mid new : Bridging) (s s' : Source) (to want until n : ℕ) (r : Reaches old mid s s' to want until) (le : n ≤ want) (is : new ≡ gone mid n) where
  within : n ≤ length mid.held.bytes
  within = omega (arith, r.enough, le)

  pub over_passed : (t : Shape) (at gap : ℕ) → IsOver t at gap old s → old.held.at ≤ to → Shows mid.held s' → IsOver t at gap new s'
  over_passed t at gap over onward shows = subst (λ (w : Bridging). IsOver t at gap w s') (sym is) (record {
    end = r.end ∙ over.end;
    from = omega (arith, over.from, onward, r.at);
    gap_is = r.gap ∙ over.gap_is;
    shows = shows_passed mid.held s' n within shows;
  })

  pub goes_on : (place : ℕ) → place ≡ to + n → ahead old.held ≤ until → GoesTo old new to place until
  goes_on place there before =
      let same = gone_ahead mid new n within is in
      let stands : new.held.at ≡ mid.held.at + n = ap (λ (w : Bridging). w.held.at) is in
      record {
        stands = omega (arith, stands, r.at, there);
        on = omega (arith, same, r.on);
        before = omega (arith, same, reached_until old mid s s' to want until r before);
        begun = ap (λ (w : Bridging). w.begun) is ∙ r.begun;
      }

  pub reads_to : (low high : ℕ) → low ≤ old.held.at → until ≤ high → Reads (IsInside low high) s s' (range_with_len (asks_from old to) (ahead new.held - asks_from old to))
  reads_to low high l h =
      reads_along _ _ (ap (λ (a : ℕ). range_with_len (asks_from old to) (a - asks_from old to)) (sym (gone_ahead mid new n within is)))
      (reads_wider old.held.at until low high l h (reads_inside old.held.at until r.reads))

-- where nothing more was asked for behind what was reached, or not all of it
pub front_reached : (old mid : Bridging) (s s' : Source) (to want until low high : ℕ) → Reaches old mid s s' to want until → ahead old.held ≤ until → low ≤ old.held.at → until ≤ high
    → ReadsFront (IsInside low high) s s' (range_with_len (asks_from old to) (until - asks_from old to))
front_reached old mid s s' to want until low high r before l h =
    front_some (asks_from old to) (ahead mid.held) until r.on (reached_until old mid s s' to want until r before)
    (reads_wider old.held.at until low high l h (reads_inside old.held.at until r.reads))

pub front_part : (old : Bridging) (s s' : Source) (to until low high : ℕ) → ReachesPart old s s' to until → low ≤ old.held.at → until ≤ high
    → ReadsFront (IsInside low high) s s' (range_with_len (asks_from old to) (until - asks_from old to))
front_part old s s' to until low high part l h =
    front_weaken (IsInside old.held.at until) (IsInside low high) (inside_wider old.held.at until low high l h) (front_inside old.held.at until part)

pub last_begun : (w : Bridging) (p : ℕ) → w.begun ≡ true → ahead w.held ≡ p → last_asked w ≡ Some p
last_begun w p begun is = ap (λ b. if b then Some (ahead w.held) else None) begun ∙ ap Some is

-- the root
pub root_bridged : (t : Shape) (at gap till : ℕ) (w : Bridging) → w.held.at ≡ at → w.held.bytes ≡ [] → last_asked w ≡ None → till ≡ at + 40
    → range_with_len (asks_from w (node_place at 0)) (till - asks_from w (node_place at 0)) ≡ bridged gap (level_positions at t t.top (0 ∷ []))
unfolding bridged
root_bridged t at gap till w stands empty none is =
    let held : length w.held.bytes ≡ 0 = ap length empty in
    asks_bridged w (node_place at 0) till (omega (arith, held, stands)) (omega (arith, is))
    ∙ ap (λ o. hole w.gap o (node_place at 0) ++ range_with_len (node_place at 0) (till - node_place at 0)) none
    ∙ range_same (node_place at 0) at (till - node_place at 0) 40 (omega arith) (omega (arith, is))
    ∙ sym (behind_range gap None at 40 (omega arith))
    ∙ ap (bridged_behind gap None) (sym (root_positions at t))

pub root_behind : (t : Shape) (at : ℕ) → behind None (level_positions at t t.top (0 ∷ [])) ≡ Some (at + 40)
root_behind t at = ap (behind None) (root_positions at t) ∙ range_ends None at 40 (omega arith)

-- from where asking began on, as far as a window is ahead; it may not be as far yet
pub reads_going : {P : ℕ × ℕ → Type 0} {a b c : Source} (start now from till : ℕ) → from ≡ start + (now - start) → from ≤ till
    → Reads P a b (range_with_len start (now - start)) → Reads P b c (range_with_len from (till - from)) → Reads P a c (range_with_len start (till - start))
reads_going start now from till is on p q =
    let here : start ≤ from = omega (arith, is) in
    let len : now - start ≡ from - start = omega (arith, is) in
    reads_along _ _ (ap (λ n. range_with_len start n ++ range_with_len from (till - from)) len ∙ sym (range_split start from till here on)) (reads_reads p q)

pub front_going : {P : ℕ × ℕ → Type 0} {a b c : Source} (start now from till : ℕ) → from ≡ start + (now - start) → from ≤ till
    → Reads P a b (range_with_len start (now - start)) → ReadsFront P b c (range_with_len from (till - from)) → ReadsFront P a c (range_with_len start (till - start))
front_going start now from till is on p q =
    let here : start ≤ from = omega (arith, is) in
    let len : now - start ≡ from - start = omega (arith, is) in
    front_along _ _ (ap (λ n. range_with_len start n ++ range_with_len from (till - from)) len ∙ sym (range_split start from till here on)) (reads_then_front p q)
