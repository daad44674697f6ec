-- A step to the next feature.
use Rattle.std.proofs.Common.{◌≡◌, ◌⊎◌, ℕ, ◌+◌, ◌-◌, ◌<◌, ◌≤◌, max, Bool, inl, inr, List, [], ◌∷◌, ◌++◌, length, take, drop, get_or, Some, refl, sym, ap, subst, ◌∙◌, arith}
use Rattle.std.specs.Prelude.{Result, OnErr, if◌then◌else◌, slice_get, slice_range, None}
use Rattle.std.specs.List.{range_with_len}
use Rattle.std.proofs.lemmas.List.{length-drop, drop_more, take_all, append-nil}
use Rattle.std.proofs.lemmas.Option.{slice_get-get_or}
use Rattle.fgb_outside.specs.Source.{Source, IfTold}
use Rattle.fgb_outside.specs.Asked.{IsInside, ReadsFront, Ascends}
use Rattle.fgb_outside.proofs.Asking.{ascends_range, ascends_wider, front_along, front_nothing, reads_front, reads_nothing}
use Rattle.section_window.specs.Window.{ahead}
use Rattle.section_window.proofs.Parts.{length_slice}
use Rattle.section_window.proofs.Showing.{ahead_passed, shows_passed}
use Rattle.fgb_file.specs.File.{size_at}
use Rattle.fgb_schema.specs.Headers.{Header}
use Rattle.order_keys.specs.declared.bounds.Bounds.{Bounds}
use Rattle.found_features.specs.Entries.{IsSound}
use Rattle.level_bounds.specs.Levels.{Shape}
use Rattle.gap_window.specs.Bridging.{Bridging, gone, asks_from}
use Rattle.gap_window.specs.Gaps.{bridged_behind}
use Rattle.hit_reader.specs.declared.section.Section.{Section}
use Rattle.hit_reader.specs.Rising.{Rises, RisesPart}
use Rattle.box_search.specs.declared.nodes.Hit.{Hit}
use Rattle.hit_runs.specs.declared.runs.HitRuns.{HitRuns}
use Rattle.hit_runs.specs.Laid.{place_said, end_there, hit_positions, run_end, AreLaid}
use Rattle.hit_runs.specs.Leaves.{IsAlike, IsLeaf, IsDue}
use Rattle.hit_runs.specs.Fetching.{Fetches, FetchesPart, IsOver}
use Rattle.hit_runs.specs.Runs.{IsAgain, IsTurn, Owes, Pays, next_of, rest_of}
use Rattle.hit_reader.specs.Going.{IsSection}
use Rattle.read_stop.proofs.Stopping.{on_err}
use Rattle.hit_runs.proofs.Fetching.{asks_onward, asks_bound}
use Rattle.hit_runs.proofs.Owing.{pays_one, pays_front}

-- the feature that was lent is passed
module _ (section : Section) (u v : Bridging) (n : ℕ) (is : v ≡ gone u n) (held : n ≤ length u.held.bytes) where
  pub at_passed : v.held.at ≡ u.held.at + n
  at_passed = ap (λ (w : Bridging). w.held.at) is

  pub gap_passed : v.gap ≡ u.gap
  gap_passed = ap (λ (w : Bridging). w.gap) is

  pub begun_passed : v.begun ≡ u.begun
  begun_passed = ap (λ (w : Bridging). w.begun) is

  pub ahead_same : ahead v.held ≡ ahead u.held
  ahead_same = ap (λ (w : Bridging). ahead w.held) is ∙ ahead_passed u.held n held

  pub over_passed : (s : Source) → IsOver section u s → IsOver section v s
  over_passed s over = subst (λ (w : Bridging). IsOver section w s) (sym is) (record {
    shows = shows_passed u.held s n held over.shows;
    end = over.end;
    behind = omega (arith, over.behind);
  })

  module _ (s s' : Source) (to : ℕ) where
    pub rises_fetched : (w : Bridging) → Fetches section v w s s' to → Rises section u.held w.held s s'
    rises_fetched w f =
        let on = asks_onward v to in
        record {
          rising = range_with_len (asks_from v to) (ahead w.held - asks_from v to);
          rises = ascends_wider (asks_from v to) (ahead u.held) (asks_from v to + (ahead w.held - asks_from v to)) (ahead w.held) (range_with_len (asks_from v to) (ahead w.held - asks_from v to))
              (omega (arith, on, ahead_same)) (omega (arith, f.on)) (ascends_range (asks_from v to) (ahead w.held - asks_from v to));
          reads = f.reads;
        }

    pub rises_read : (w : Bridging) → ahead w.held ≤ section.end → Fetches section v w s s' to → RisesPart section u.held s s'
    rises_read w within f =
        let on = asks_onward v to in
        record {
          rising = range_with_len (asks_from v to) (ahead w.held - asks_from v to);
          rises = ascends_wider (asks_from v to) (ahead u.held) (asks_from v to + (ahead w.held - asks_from v to)) section.end (range_with_len (asks_from v to) (ahead w.held - asks_from v to))
              (omega (arith, on, ahead_same)) (omega (arith, f.on, within)) (ascends_range (asks_from v to) (ahead w.held - asks_from v to));
          reads = record { keeps = f.reads.keeps; pairs = f.reads.pairs; rest = []; asks = append-nil _ ∙ f.reads.asks; allowed = f.reads.allowed; told = λ _. f.reads.told };
        }

    pub rises_part : ahead u.held ≤ section.end → to ≤ section.end → FetchesPart section v s s' to section.end → RisesPart section u.held s s'
    rises_part within there f =
        let on = asks_onward v to in
        record {
          rising = range_with_len (asks_from v to) (section.end - asks_from v to);
          rises = part_ascends;
          reads = f;
        }
      where
        asks_within : asks_from v to ≤ section.end
        asks_within = asks_bound v to section.end (omega (arith, ahead_same, within)) there

        part_ascends : Ascends (ahead u.held) section.end (range_with_len (asks_from v to) (section.end - asks_from v to))
        part_ascends = ascends_wider (asks_from v to) (ahead u.held) (asks_from v to + (section.end - asks_from v to)) section.end (range_with_len (asks_from v to) (section.end - asks_from v to))
            (omega (arith, asks_onward v to, ahead_same)) (omega (arith, asks_within)) (ascends_range (asks_from v to) (section.end - asks_from v to))

-- nothing was asked for
pub rises_none : (section : Section) (u : Bridging) (s : Source) → ahead u.held ≤ section.end → RisesPart section u.held s s
rises_none section u s within = record { rising = []; rises = within; reads = front_nothing s [] }

pub rises_ended : (section : Section) (u v : Bridging) (n : ℕ) (s : Source) → v ≡ gone u n → n ≤ length u.held.bytes → Rises section u.held v.held s s
rises_ended section u v n s is held = record { rising = []; rises = omega (arith, ahead_same section u v n is held); reads = reads_nothing s }

-- ## What is owed

module _ (image : List ℕ) (section : Section) (runs : HitRuns) (v : Bridging) (is : v ≡ gone runs.window runs.len) (due : List ℕ) where
  -- of the window in front of the feature that is due
  owed_passed : Owes image section.first runs due
      → range_with_len v.held.at (ahead v.held - v.held.at) ++ due ≡ bridged_behind v.gap (if v.begun then Some v.held.at else None) (hit_positions image section.first (rest_of runs))
  owed_passed owes =
      let at = at_passed section runs.window v runs.len is runs.held_whole in
      let far = ahead_same section runs.window v runs.len is runs.held_whole in
      ap (λ k. range_with_len k (ahead v.held - k) ++ due) at
      ∙ ap (λ k. range_with_len (next_of runs) (k - next_of runs) ++ due) far
      ∙ owes
      ∙ ap (λ (w : Bridging). bridged_behind w.gap (if w.begun then Some w.held.at else None) (hit_positions image section.first (rest_of runs))) (sym is)

  module _ (hit : Hit) (rest : List Hit) (more : rest_of runs ≡ hit ∷ rest) (laid : AreLaid image section.first (rest_of runs)) (owes : Owes image section.first runs due) (onward : v.held.at ≤ place_said section.first hit) where
    laid_now : AreLaid image section.first (hit ∷ rest)
    laid_now = subst (AreLaid image section.first) more laid

    owed_now : range_with_len v.held.at (ahead v.held - v.held.at) ++ due ≡ bridged_behind v.gap (if v.begun then Some v.held.at else None) (hit_positions image section.first (hit ∷ rest))
    owed_now = owed_passed owes ∙ ap (λ l. bridged_behind v.gap (if v.begun then Some v.held.at else None) (hit_positions image section.first l)) more

    pub front_fetched : {s s' : Source} → FetchesPart section v s s' (place_said section.first hit) (run_end image section.first v.gap (hit ∷ rest)) → ReadsFront (IsInside section.first section.end) s s' due
    front_fetched part = pays_front image section.first v hit rest onward laid_now due owed_now part

    pub pays_fetched : {s s' : Source} (w : Bridging) (runs' : HitRuns) → Fetches section v w s s' (place_said section.first hit)
        → ahead w.held ≤ max (ahead v.held) (run_end image section.first v.gap (hit ∷ rest)) → runs'.len ≤ length w.held.bytes
        → runs'.window ≡ w → w.gap ≡ v.gap → runs'.len ≡ 4 + size_at image (place_said section.first hit) → rest_of runs' ≡ rest → Pays image section runs' s s' due
    pays_fetched w runs' f near whole window gap len later =
        let ends : end_there image section.first hit ≤ ahead w.held = omega (arith, f.at, whole, len) in
        let left = pays_one image section.first v hit rest onward laid_now (ahead w.held) due owed_now f.onward ends near in
        let next : next_of runs' ≡ end_there image section.first hit = omega (arith, ap (λ (b : Bridging). b.held.at) window, f.at, len) in
        record {
          asked = range_with_len (asks_from v (place_said section.first hit)) (ahead w.held - asks_from v (place_said section.first hit));
          left = left.0;
          reads = f.reads;
          parts = left.1;
          owes =
              ap (λ k. range_with_len k (ahead runs'.window.held - k) ++ left.0) next
              ∙ ap (λ (b : Bridging). range_with_len (end_there image section.first hit) (ahead b.held - end_there image section.first hit) ++ left.0) window
              ∙ left.2
              ∙ sym (
              ap (λ (b : Bool). bridged_behind runs'.window.gap (if b then Some (next_of runs') else None) (hit_positions image section.first (rest_of runs'))) (ap (λ (b : Bridging). b.begun) window ∙ f.begun)
              ∙ ap (λ n. bridged_behind runs'.window.gap (Some n) (hit_positions image section.first (rest_of runs'))) next
              ∙ ap (λ n. bridged_behind n (Some (end_there image section.first hit)) (hit_positions image section.first (rest_of runs'))) (ap (λ (b : Bridging). b.gap) window ∙ gap)
              ∙ ap (λ l. bridged_behind v.gap (Some (end_there image section.first hit)) (hit_positions image section.first l)) later);
        }

    -- all that was asked for is a front of it
    pub front_paid : {s s' : Source} (w : Bridging) → Fetches section v w s s' (place_said section.first hit) → ahead w.held ≤ max (ahead v.held) (run_end image section.first v.gap (hit ∷ rest))
        → (len : ℕ) → len ≤ length w.held.bytes → len ≡ 4 + size_at image (place_said section.first hit) → ReadsFront (IsInside section.first section.end) s s' due
    front_paid w f near len whole size =
        let left = pays_one image section.first v hit rest onward laid_now (ahead w.held) due owed_now f.onward (omega (arith, f.at, whole, size)) near in
        front_along _ _ left.1 (reads_front left.0 f.reads)

  -- none is left
  pub pays_ended : (s : Source) (runs' : HitRuns) → Owes image section.first runs due → runs'.window ≡ v → runs'.len ≡ 0 → rest_of runs' ≡ rest_of runs → Pays image section runs' s s due
  pays_ended s runs' owes window len rest =
      let next : next_of runs' ≡ v.held.at = omega (arith, ap (λ (b : Bridging). b.held.at) window, len) in
      record {
        asked = [];
        left = due;
        reads = reads_nothing s;
        parts = refl;
        owes =
            ap (λ k. range_with_len k (ahead runs'.window.held - k) ++ due) next
            ∙ ap (λ (b : Bridging). range_with_len v.held.at (ahead b.held - v.held.at) ++ due) window
            ∙ owed_passed owes
            ∙ sym (
            ap (λ n. bridged_behind runs'.window.gap (if runs'.window.begun then Some n else None) (hit_positions image section.first (rest_of runs'))) next
            ∙ ap (λ (b : Bridging). bridged_behind b.gap (if b.begun then Some v.held.at else None) (hit_positions image section.first (rest_of runs'))) window
            ∙ ap (λ l. bridged_behind v.gap (if v.begun then Some v.held.at else None) (hit_positions image section.first l)) rest);
      }

-- the feature is due again from where the window stands
pub due_again : (image : List ℕ) (t : Shape) (k at now to : ℕ) → (now ≡ at) ⊎ (now ≡ to) → (now ≡ to → IsDue image t k now) → IsDue image t k at → IsDue image t k now
due_again image t k at now to (inl same) there due = subst (IsDue image t k) (sym same) due
due_again image t k at now to (inr same) there due = there same

-- ## The leaf that is due

some_same : (g h : Hit) → Some g ≡ Some h → g ≡ h
some_same g h e = cc

pub turn_is : (hits : List Hit) (i : ℕ) (hit other : Hit) → i < length hits → slice_get hits i ≡ Some hit → get_or hits i other ≡ hit
turn_is hits i hit other within is = some_same _ _ (sym (slice_get-get_or hits i other within) ∙ is)

pub rest_is : (hits : List Hit) (i n : ℕ) (other : Hit) → i < length hits → length hits - (i + 1) ≤ n → drop i hits ≡ get_or hits i other ∷ take n (drop (i + 1) hits)
rest_is hits i n other within all = drop_more hits i other within ∙ ap (λ l. get_or hits i other ∷ l) (sym (take_all n (drop (i + 1) hits) (omega (arith, length-drop (i + 1) hits, all))))

module _ (image : List ℕ) (section : Section) (runs : HitRuns) (v : Bridging) (is : v ≡ gone runs.window runs.len) (due : List ℕ)
    (hit : Hit) (rest : List Hit) (more : rest_of runs ≡ hit ∷ rest) (laid : AreLaid image section.first (rest_of runs)) (owes : Owes image section.first runs due)
    (place : ℕ) (there : place ≡ section.first + hit.item.offset) (onward : v.held.at ≤ place) where
  pub laid_here : AreLaid image section.first (hit ∷ rest)
  laid_here = subst (AreLaid image section.first) more laid

  gap_is : v.gap ≡ runs.gap
  gap_is = gap_passed section runs.window v runs.len is runs.held_whole ∙ runs.same_gap

  module _ {s s' : Source} where
    pub front_part : FetchesPart section v s s' place (run_end image section.first runs.gap (hit ∷ rest)) → ReadsFront (IsInside section.first section.end) s s' due
    front_part part =
        front_fetched image section runs v is due hit rest more laid owes (omega (arith, there, onward))
        (subst (λ (n : ℕ). FetchesPart section v s s' (place_said section.first hit) (run_end image section.first n (hit ∷ rest))) (sym gap_is)
        (subst (λ (n : ℕ). FetchesPart section v s s' n (run_end image section.first runs.gap (hit ∷ rest))) there part))

    module _ (w : Bridging) (f : Fetches section v w s s' place) (near : ahead w.held ≤ max (ahead v.held) (run_end image section.first runs.gap (hit ∷ rest))) (len : ℕ) (whole : len ≤ length w.held.bytes) (size : len ≡ 4 + size_at image place) where
      f_there : Fetches section v w s s' (place_said section.first hit)
      f_there = subst (λ (n : ℕ). Fetches section v w s s' n) there f

      near_there : ahead w.held ≤ max (ahead v.held) (run_end image section.first v.gap (hit ∷ rest))
      near_there = subst (λ (n : ℕ). ahead w.held ≤ max (ahead v.held) (run_end image section.first n (hit ∷ rest))) (sym gap_is) near

      size_there : len ≡ 4 + size_at image (place_said section.first hit)
      size_there = size ∙ ap (λ n. 4 + size_at image n) there

      pub pays_read : (runs' : HitRuns) → runs'.window ≡ w → w.gap ≡ v.gap → runs'.len ≡ len → rest_of runs' ≡ rest → Pays image section runs' s s' due
      pays_read runs' window gap same later =
          pays_fetched image section runs v is due hit rest more laid owes (omega (arith, there, onward)) w runs' f_there near_there (omega (arith, same, whole)) window gap (same ∙ size_there) later

      pub front_read : ReadsFront (IsInside section.first section.end) s s' due
      front_read = front_paid image section runs v is due hit rest more laid owes (omega (arith, there, onward)) w f_there near_there len whole size_there

pub more_is : (hits slice : List Hit) (i n : ℕ) (hit : Hit) → slice ≡ hits → i < length hits → hit ≡ get_or hits i hit → length hits - (i + 1) ≤ n → drop i hits ≡ hit ∷ take n (drop (i + 1) slice)
more_is hits slice i n hit same within is all =
    rest_is hits i n hit within all ∙ ap (λ h. h ∷ take n (drop (i + 1) hits)) (sym is) ∙ ap (λ l. hit ∷ take n (drop (i + 1) l)) (sym same)

pub later_is : (hits slice : List Hit) (i n : ℕ) → slice ≡ hits → length hits - i ≤ n → drop i hits ≡ take n (drop i slice)
later_is hits slice i n same all = sym (take_all n (drop i hits) (omega (arith, length-drop i hits, all))) ∙ ap (λ l. take n (drop i l)) (sym same)

pub is_again : {T E : Type 0} (r : Result T E) (section : Section) (runs runs' : HitRuns) (s : Source) → runs.given < length runs.hits.items → runs'.given ≡ runs.given
    → IfTold s (λ image. (t : Shape) (k : ℕ) (hit : Hit) → IsSection image t section → IsTurn runs hit → IsLeaf image t hit k → IsDue image t k (next_of runs) → IsDue image t k (next_of runs'))
    → OnErr r (IsAgain section runs runs' s)
is_again r section runs runs' s left given due = on_err r (IsAgain section runs runs' s) (record { left = left; given = given; due = due })

-- what is lent breaks no rule
pub sound_lent : (header : Header) (hit : Hit) (number offset len : ℕ) (own : Bounds) (lent bytes : List ℕ) → lent ≡ bytes → len ≤ length bytes → len ≤ 268435460 → IsAlike header hit (slice_range lent 4 len) own
    → IsSound header (record { number = number; offset = offset; buffer = slice_range bytes 4 len; own = own })
sound_lent header hit number offset len own lent bytes held whole small alike =
    let there : IsAlike header hit (slice_range bytes 4 len) own = subst (λ b. IsAlike header hit (slice_range b 4 len) own) held alike in
    record { small = omega (arith, length_slice bytes 4 len whole, small); clean = there.clean; box = there.box }
