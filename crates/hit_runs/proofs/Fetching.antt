-- What a window that was made to hold a feature has asked for.
use Rattle.std.proofs.Common.{◌≡◌, ⊎_elim, ℕ, ◌+◌, ◌-◌, ◌<◌, ◌≤◌, max, Bool, true, false, List, length, take, refl, ap, subst, ◌∙◌, arith}
use Rattle.std.specs.Prelude.{slice_range}
use Rattle.std.specs.List.{range_with_len}
use Rattle.std.proofs.lemmas.Bool.{cases_lt}
use Rattle.fgb_outside.specs.Source.{Source, IfTold}
use Rattle.fgb_outside.specs.Asked.{IsInside, Reads, ReadsFront}
use Rattle.fgb_outside.proofs.Asking.{reads_along, reads_reads, reads_weaken, reads_then_front, front_along, front_longer, front_nothing, front_weaken}
use Rattle.section_window.specs.Window.{Held, ahead, Shows, IsPiece}
use Rattle.section_window.proofs.Parts.{range_join}
use Rattle.section_window.proofs.Showing.{shows_front}
use Rattle.gap_window.specs.Bridging.{Bridging, is_near, asks_from, Reaches, ReachesPart, Stays}
use Rattle.gap_window.proofs.Near.{near_within, asks_near, asks_far, far_behind}
use Rattle.hit_reader.specs.declared.section.Section.{Section}
use Rattle.hit_runs.specs.Fetching.{Fetches, FetchesPart, IsOver}

-- asking goes on behind all that was asked for
pub asks_onward : (w : Bridging) (to : ℕ) → ahead w.held ≤ asks_from w to
asks_onward w to = by_near (is_near w to) refl
  where
    by_near : (b : Bool) → is_near w to ≡ b → ahead w.held ≤ asks_from w to
    by_near true is = omega (arith, asks_near w to is)
    by_near false is = omega (arith, asks_far w to is, far_behind w to is)

piece_within : (low until first end : ℕ) → first ≤ low → until ≤ end → (p : ℕ × ℕ) → IsPiece low until p → IsInside first end p
piece_within low until first end l u p is = (omega (arith, l, is.0), omega (arith, u, is.1, is.2))

pub over_reached : {section : Section} {u v : Bridging} {s s' : Source} {to want until : ℕ} → IsOver section u s → u.held.at ≤ to → Reaches u v s s' to want until → Shows v.held s' → IsOver section v s'
over_reached over onward r shows = record { shows = shows; end = r.end ∙ over.end; behind = omega (arith, over.behind, onward, r.at) }

pub over_stays : {section : Section} {u v : Bridging} {s s' : Source} → IsOver section u s → Stays u v → Shows v.held s' → IsOver section v s'
over_stays over stays shows = record { shows = shows; end = stays.end ∙ over.end; behind = omega (arith, over.behind, stays.at) }

-- a front of what lies up to a place that was not passed
part_then : {P : ℕ × ℕ → Type 0} {a b c : Source} (was from mid till : ℕ) → was ≤ from → from ≤ mid → mid ≤ max was till
    → Reads P a b (range_with_len from (mid - from)) → ReadsFront P b c (range_with_len mid (till - mid)) → ReadsFront P a c (range_with_len from (till - from))
part_then was from mid till l1 l2 l3 first second =
    front_along _ _ (range_join from (mid - from) mid (till - mid) (till - from) (omega (arith, l2)) (omega (arith, l1, l2, l3))) (reads_then_front first second)

longer : {P : ℕ × ℕ → Type 0} {a b : Source} (from till till' : ℕ) → till ≤ till' → ReadsFront P a b (range_with_len from (till - from)) → ReadsFront P a b (range_with_len from (till' - from))
longer from till till' le front =
    let m = till - from in
    let n = (till' - from) - m in
    front_along _ _ (range_join from m (from + m) n (till' - from) refl (omega (arith, le))) (front_longer (range_with_len (from + m) n) front)

pub near_first : (au av part u1 stop : ℕ) → (part ≤ au → av ≡ au) → (au < part → av ≤ u1) → u1 ≤ max part stop → part ≤ stop → av ≤ max au stop
near_first au av part u1 stop idle before b1 b2 = ⊎_elim
    (λ (lt : au < part). omega (arith, before lt, b1, b2))
    (λ (le : part ≤ au). omega (arith, idle le))
    (cases_lt au part)

-- the part of a feature was read, and then the whole
pub near_both : (au av aw part whole u1 u2 stop : ℕ) → (part ≤ au → av ≡ au) → (au < part → av ≤ u1) → (whole ≤ av → aw ≡ av) → (av < whole → aw ≤ u2)
    → u1 ≤ max part stop → part ≤ stop → u2 ≤ stop → aw ≤ max au stop
near_both au av aw part whole u1 u2 stop idle before idle' before' b1 b2 b3 =
    let one : av ≤ max au stop = near_first au av part u1 stop idle before b1 b2 in
    ⊎_elim
    (λ (lt : av < whole). omega (arith, before' lt, b3))
    (λ (le : whole ≤ av). omega (arith, idle' le, one))
    (cases_lt av whole)

-- the window stands at the feature: asking goes on behind what was asked for
asks_there : (v : Bridging) (to : ℕ) → v.held.at ≡ to → asks_from v to ≡ ahead v.held
asks_there v to at = asks_near v to (near_within v to (omega (arith, at)))

module _ (section : Section) (u : Bridging) (s : Source) (over : IsOver section u s) (to : ℕ) where
  first_reads : (v : Bridging) (a : Source) (want until : ℕ) → until ≤ section.end → Reaches u v s a to want until → Reads (IsInside section.first section.end) s a (range_with_len (asks_from u to) (ahead v.held - asks_from u to))
  first_reads v a want until within r = reads_weaken (IsPiece u.held.at until) (IsInside section.first section.end) (piece_within u.held.at until section.first section.end over.behind within) r.reads

  -- one request failed, or the first part was refused
  pub part_first : (a : Source) (until till : ℕ) → until ≤ section.end → until ≤ till → ReachesPart u s a to until → FetchesPart section u s a to till
  part_first a until till within le front =
      longer (asks_from u to) until till le (front_weaken (IsPiece u.held.at until) (IsInside section.first section.end) (piece_within u.held.at until section.first section.end over.behind within) front)

  pub part_read : (v : Bridging) (a : Source) (want until till : ℕ) → until ≤ section.end → ahead v.held ≤ max (ahead u.held) till → Reaches u v s a to want until → FetchesPart section u s a to till
  part_read v a want until till within near r =
      part_then (ahead u.held) (asks_from u to) (ahead v.held) till (asks_onward u to) r.on near (first_reads v a want until within r) (front_nothing a _)

  module _ (v : Bridging) (a : Source) (want until : ℕ) (within : until ≤ section.end) (onward : u.held.at ≤ to) (r : Reaches u v s a to want until) where
    pub part_second : (b : Source) (until' till : ℕ) → until' ≤ section.end → until' ≤ till → ahead v.held ≤ max (ahead u.held) till → ReachesPart v a b to until' → FetchesPart section u s b to till
    part_second b until' till within' le near front =
        let there : asks_from v to ≡ ahead v.held = asks_there v to r.at in
        let second : ReadsFront (IsInside section.first section.end) a b (range_with_len (ahead v.held) (until' - ahead v.held)) =
        subst (λ (k : ℕ). ReadsFront (IsInside section.first section.end) a b (range_with_len k (until' - k))) there
        (front_weaken (IsPiece v.held.at until') (IsInside section.first section.end) (piece_within v.held.at until' section.first section.end (omega (arith, over.behind, onward, r.at)) within') front) in
        part_then (ahead u.held) (asks_from u to) (ahead v.held) till (asks_onward u to) r.on near (first_reads v a want until within r) (longer (ahead v.held) until' till le second)

    pub fetches_both : (w : Bridging) (b : Source) (want' until' : ℕ) → until' ≤ section.end → Reaches v w a b to want' until' → Fetches section u w s b to
    fetches_both w b want' until' within' r' =
        let there : asks_from v to ≡ ahead v.held = asks_there v to r.at in
        let second : Reads (IsInside section.first section.end) a b (range_with_len (ahead v.held) (ahead w.held - ahead v.held)) =
        subst (λ (k : ℕ). Reads (IsInside section.first section.end) a b (range_with_len k (ahead w.held - k))) there
        (reads_weaken (IsPiece v.held.at until') (IsInside section.first section.end) (piece_within v.held.at until' section.first section.end (omega (arith, over.behind, onward, r.at)) within') r'.reads) in
        let on : ahead v.held ≤ ahead w.held = omega (arith, there, r'.on) in
        record {
          at = r'.at;
          begun = r'.begun;
          reads = reads_along _ _ (range_join (asks_from u to) (ahead v.held - asks_from u to) (ahead v.held) (ahead w.held - ahead v.held) (ahead w.held - asks_from u to) (omega (arith, r.on)) (omega (arith, r.on, on)))
              (reads_reads (first_reads v a want until within r) second);
          on = omega (arith, r.on, on);
          onward = omega (arith, asks_onward u to, r.on, on);
        }

-- the size prefix that lies at the front of the window
pub front_bytes : (w : Held) (s s' : Source) (bytes : List ℕ) (at : ℕ) → s'.image ≡ s.image → bytes ≡ w.bytes → w.at ≡ at → 4 ≤ length w.bytes → Shows w s' → IfTold s (λ image. take 4 bytes ≡ slice_range image at (at + 4))
front_bytes w s s' bytes at same held here enough shows image told =
    ap (take 4) held ∙ shows_front w s' 4 enough shows image (same ∙ told) ∙ ap (λ n. slice_range image n (n + 4)) here

-- asking goes on in front of the end
pub asks_bound : (w : Bridging) (to end : ℕ) → ahead w.held ≤ end → to ≤ end → asks_from w to ≤ end
asks_bound w to end far near = by_near (is_near w to) refl
  where
    by_near : (b : Bool) → is_near w to ≡ b → asks_from w to ≤ end
    by_near true is = omega (arith, asks_near w to is, far)
    by_near false is = omega (arith, asks_far w to is, near)
