-- What a window over the features asked for where it went on to a feature.
use Rattle.std.proofs.Common.{◌≡◌, ⊎_elim, ℕ, ◌+◌, ◌-◌, ◌≤◌, max, List, [], ◌++◌, length, drop, refl, sym, ap, subst, ◌∙◌, arith, append_assoc}
use Rattle.std.specs.List.{range_with_len}
use Rattle.std.proofs.lemmas.List.{append-nil, length-drop}
use Rattle.fgb_outside.specs.Source.{Source}
use Rattle.fgb_outside.specs.Asked.{IsInside, Ascends, Reads, ReadsFront}
use Rattle.fgb_outside.proofs.Asking.{reads_along, reads_front, reads_nothing, reads_reads, reads_then_front, reads_weaken, ascends_append, front_along, front_nothing, front_weaken, inside_wider, ascends_range, ascends_wider}
use Rattle.section_window.specs.Window.{Held, Shows, ahead, passed}
use Rattle.section_window.proofs.Showing.{ahead_passed, ahead_skipped, shows_passed, shows_skipped}
use Rattle.section_window.proofs.Parts.{range_join, range_same}
use Rattle.hit_reader.specs.declared.section.Section.{Section}
use Rattle.hit_reader.specs.Going.{IsOver}
use Rattle.hit_reader.specs.Filling.{Fills, FillsPart}
use Rattle.hit_reader.specs.Rising.{Covers, CoversPart, Rises, RisesPart, SkipsNothing, held_positions}
use Rattle.hit_reader.proofs.Filling.{part_longer}

-- the window went on to a place, and asked for nothing
pub record Reaches (w w' : Held) (s : Source) (target : ℕ) : Type 0 where
  pub at : w'.at ≡ target
  pub end : w'.end ≡ w.end
  pub ahead : ahead w' ≡ max (ahead w) target
  pub held : SkipsNothing w target → held_positions w' ≡ held_positions w
  pub shows : Shows w' s

held_same : (w : Held) (target : ℕ) → SkipsNothing w target → w.at ≤ target → held_positions (passed w (target - w.at)) ≡ held_positions w
held_same w target keeps le =
    let gone : length (drop (target - w.at) w.bytes) ≡ length w.bytes - (target - w.at) = length-drop (target - w.at) w.bytes in
    ⊎_elim
    (λ (here : w.at ≡ target). range_same (w.at + (target - w.at)) w.at (length (drop (target - w.at) w.bytes)) (length w.bytes) (omega arith) (omega arith))
    (λ (none : length w.bytes ≡ 0).
    ap (range_with_len (w.at + (target - w.at))) (let e : length (drop (target - w.at) w.bytes) ≡ 0 = omega arith in e) ∙ sym (ap (range_with_len w.at) none))
    keeps

pub reaches : (w w' : Held) (s : Source) (target to at : ℕ) → w' ≡ passed w (to - at) → to ≡ target → at ≡ w.at → w.at ≤ target → target ≤ w.end → Shows w s → Reaches w w' s target
reaches w w' s target to at is there here le within shows = subst (λ v. Reaches w v s target) (sym (is ∙ ap (λ n. passed w n) same)) (record {
  at = omega arith;
  end = refl;
  ahead = ahead_skipped w (target - w.at) ∙ ap (max (ahead w)) back;
  held = λ keeps. held_same w target keeps le;
  shows = shows_skipped w s (target - w.at) (omega arith) shows;
})
  where
    same : to - at ≡ target - w.at
    same = omega arith

    back : w.at + (target - w.at) ≡ target
    back = omega arith

module _ (section : Section) (w : Held) (s : Source) where
  -- ## Nothing was asked for

  pub rises_none : ahead w ≤ section.end → RisesPart section w s s
  rises_none within = record { rising = []; rises = within; reads = front_nothing s [] }

  -- what is held is a front of what is up to a place behind it
  held_front : (target till : ℕ) → SkipsNothing w target → ahead w ≤ max till w.at → target ≤ till
      → (rest : List ℕ) × (held_positions w ++ rest ≡ range_with_len target (till - target))
  held_front target till keeps near le = ⊎_elim
      (λ (here : w.at ≡ target). (
        range_with_len (target + length w.bytes) (till - target - length w.bytes),
        ap (λ n. range_with_len n (length w.bytes) ++ range_with_len (target + length w.bytes) (till - target - length w.bytes)) here
            ∙ range_join target (length w.bytes) (target + length w.bytes) (till - target - length w.bytes) (till - target) refl (omega arith),
      ))
      (λ (none : length w.bytes ≡ 0). (
        range_with_len target (till - target),
        ap (λ n. range_with_len w.at n ++ range_with_len target (till - target)) none,
      ))
      keeps

  pub covers_none : (target till : ℕ) → SkipsNothing w target → ahead w ≤ max till w.at → target ≤ till → CoversPart section w s s (range_with_len target (till - target))
  covers_none target till keeps near le = let front = held_front target till keeps near le in
      record { asked = front.0; reads = front_nothing s front.0; whole = front.1 }

  -- ## At a feature

  module _ (v : Held) (target : ℕ) (reach : Reaches w v s target) (over : IsOver section w s) (le : w.at ≤ target) where
    inside : (p : ℕ × ℕ) → IsInside v.at v.end p → IsInside section.first section.end p
    inside = inside_wider v.at v.end section.first section.end (omega (arith, reach.at, over.behind, le)) (omega (arith, reach.end, over.end))

    module _ (s' : Source) where
      -- it was filled
      module _ (v' : Held) (fills : Fills v v' s s') where
        pub rises_filled : Rises section w v' s s'
        rises_filled = record {
          rising = range_with_len (ahead v) (ahead v' - ahead v);
          rises = ascends_wider (ahead v) (ahead w) (ahead v + (ahead v' - ahead v)) (ahead v') (range_with_len (ahead v) (ahead v' - ahead v)) (omega (arith, reach.ahead)) (omega (arith, fills.onward)) (ascends_range (ahead v) (ahead v' - ahead v));
          reads = reads_weaken (IsInside v.at v.end) (IsInside section.first section.end) inside fills.reads;
        }

        pub covers_filled : v'.at ≡ v.at → SkipsNothing w target → Covers section w v' s s' []
        covers_filled here keeps = record {
          asked = range_with_len (ahead v) (ahead v' - ahead v);
          reads = reads_weaken (IsInside v.at v.end) (IsInside section.first section.end) inside fills.reads;
          whole =
              ap (λ xs. xs ++ range_with_len (ahead v) (ahead v' - ahead v)) (sym (reach.held keeps))
              ∙ range_join v.at (length v.bytes) (ahead v) (ahead v' - ahead v) (length v'.bytes) refl (omega (arith, fills.onward, here))
              ∙ ap (λ n. range_with_len n (length v'.bytes)) (sym here);
        }

      -- it was not
      pub rises_part : FillsPart v v.end s s' → RisesPart section w s s'
      rises_part part = record {
        rising = range_with_len (ahead v) (v.end - ahead v);
        rises = ascends_wider (ahead v) (ahead w) (ahead v + (v.end - ahead v)) section.end (range_with_len (ahead v) (v.end - ahead v)) (omega (arith, reach.ahead)) (omega (arith, reach.shows.within, reach.end, over.end)) (ascends_range (ahead v) (v.end - ahead v));
        reads = front_weaken (IsInside v.at v.end) (IsInside section.first section.end) inside part;
      }

      pub covers_part : (till0 till : ℕ) → till0 ≤ till → target ≤ till → ahead w ≤ max till w.at → SkipsNothing w target → FillsPart v till0 s s' → CoversPart section w s s' (range_with_len target (till - target))
      covers_part till0 till longer le' near keeps part = record {
        asked = range_with_len (ahead v) (till - ahead v);
        reads = front_weaken (IsInside v.at v.end) (IsInside section.first section.end) inside (part_longer v s s' till0 till longer part);
        whole =
            ap (λ xs. xs ++ range_with_len (ahead v) (till - ahead v)) (sym (reach.held keeps))
            ∙ range_join v.at (length v.bytes) (ahead v) (till - ahead v) (till - target) refl (omega (arith, reach.ahead, reach.at))
            ∙ ap (λ n. range_with_len n (till - target)) reach.at;
      }

-- ## Behind a feature

-- the feature that is held is passed
module _ (section : Section) (w w' : Held) (n at : ℕ) (is : w' ≡ passed w n) (here : w.at ≡ at) (held : n ≤ length w.bytes) where
  module _ (s : Source) (over : IsOver section w s) where
    pub over_passed : IsOver section w' s
    over_passed = subst (λ v. IsOver section v s) (sym is) (record { shows = shows_passed w s n held over.shows; end = over.end; behind = omega (arith, over.behind) })

  ahead_same : ahead w' ≡ ahead w
  ahead_same = ap ahead is ∙ ahead_passed w n held

  at_behind : w'.at ≡ at + n
  at_behind = omega (arith, ap (λ (v : Held). v.at) is)

  module _ (v : Held) (s s' : Source) where
    pub rises_passed : Rises section v w s s' → Rises section v w' s s'
    rises_passed r = record { rising = r.rising; rises = subst (λ (till : ℕ). Ascends (ahead v) till r.rising) (sym ahead_same) r.rises; reads = r.reads }

    pub covers_passed : Covers section v w s s' [] → Covers section v w' s s' (range_with_len at n)
    covers_passed c = record {
      asked = c.asked;
      reads = c.reads;
      whole = c.whole ∙ sym (
          ap (λ k. range_with_len at n ++ range_with_len k (length w'.bytes)) at_behind
          ∙ range_join at n (at + n) (length w'.bytes) (length w.bytes) refl (omega (arith, ahead_same, at_behind))
          ∙ ap (λ k. range_with_len k (length w.bytes)) (sym here));
    }

-- all that was asked for is a front of it
pub rises_whole : (section : Section) (v w : Held) (s s' : Source) → ahead w ≤ section.end → Rises section v w s s' → RisesPart section v s s'
rises_whole section v w s s' within r = record {
  rising = r.rising;
  rises = ascends_wider (ahead v) (ahead v) (ahead w) section.end r.rising (omega arith) within r.rises;
  reads = front_along _ _ (append-nil r.rising) (reads_front [] r.reads);
}

pub covers_whole : (section : Section) (v w : Held) (s s' : Source) (target till : ℕ) → w.at ≡ target → ahead w ≤ till → Covers section v w s s' [] → CoversPart section v s s' (range_with_len target (till - target))
covers_whole section v w s s' target till here within c = record {
  asked = c.asked ++ range_with_len (ahead w) (till - ahead w);
  reads = reads_front (range_with_len (ahead w) (till - ahead w)) c.reads;
  whole =
      sym (append_assoc (held_positions v) c.asked (range_with_len (ahead w) (till - ahead w)))
      ∙ ap (λ xs. xs ++ range_with_len (ahead w) (till - ahead w)) c.whole
      ∙ range_join w.at (length w.bytes) (ahead w) (till - ahead w) (till - target) refl (omega (arith, here, within))
      ∙ ap (λ k. range_with_len k (till - target)) here;
}

-- ## Several calls

pub rises_on : (section : Section) (u v w : Held) (a b c : Source) → Rises section u v a b → Rises section v w b c → Rises section u w a c
rises_on section u v w a b c first second = record {
  rising = first.rising ++ second.rising;
  rises = ascends_append (ahead u) (ahead v) (ahead w) first.rising second.rising first.rises second.rises;
  reads = reads_reads first.reads second.reads;
}

pub rises_then_part : (section : Section) (u v : Held) (a b c : Source) → Rises section u v a b → RisesPart section v b c → RisesPart section u a c
rises_then_part section u v a b c first second = record {
  rising = first.rising ++ second.rising;
  rises = ascends_append (ahead u) (ahead v) section.end first.rising second.rising first.rises second.rises;
  reads = reads_then_front first.reads second.reads;
}

pub rises_nothing : (section : Section) (w : Held) (s : Source) → Rises section w w s s
rises_nothing section w s = record { rising = []; rises = omega arith; reads = reads_nothing s }

pub covers_nothing : (section : Section) (w : Held) (s : Source) (place : ℕ) → Covers section w w s s (range_with_len place (place - place))
covers_nothing section w s place = record {
  asked = [];
  reads = reads_nothing s;
  whole = append-nil (held_positions w) ∙ ap (λ n. range_with_len place n ++ held_positions w) (let e : 0 ≡ place - place = omega arith in e);
}

module _ (section : Section) (u v w : Held) (a b c : Source) (from mid : ℕ) (order : from ≤ mid) (first : Covers section u v a b (range_with_len from (mid - from))) where
  pub covers_on : (n till : ℕ) → mid + n ≡ till → Covers section v w b c (range_with_len mid n) → Covers section u w a c (range_with_len from (till - from))
  covers_on n till there second = record {
    asked = first.asked ++ second.asked;
    reads = reads_reads first.reads second.reads;
    whole =
        sym (append_assoc (held_positions u) first.asked second.asked)
        ∙ ap (λ l. l ++ second.asked) first.whole
        ∙ append_assoc (range_with_len from (mid - from)) (held_positions v) second.asked
        ∙ ap (λ l. range_with_len from (mid - from) ++ l) second.whole
        ∙ sym (append_assoc (range_with_len from (mid - from)) (range_with_len mid n) (held_positions w))
        ∙ ap (λ l. l ++ held_positions w) (range_join from (mid - from) mid n (till - from) (omega (arith, order)) (omega (arith, order, there)));
  }

  pub covers_then_part : (till : ℕ) → mid ≤ till → CoversPart section v b c (range_with_len mid (till - mid)) → CoversPart section u a c (range_with_len from (till - from))
  covers_then_part till le second = record {
    asked = first.asked ++ second.asked;
    reads = reads_then_front first.reads second.reads;
    whole =
        sym (append_assoc (held_positions u) first.asked second.asked)
        ∙ ap (λ l. l ++ second.asked) first.whole
        ∙ append_assoc (range_with_len from (mid - from)) (held_positions v) second.asked
        ∙ ap (λ l. range_with_len from (mid - from) ++ l) second.whole
        ∙ range_join from (mid - from) mid (till - mid) (till - from) (omega (arith, order)) (omega (arith, order, le));
  }

-- where nothing was held and nothing is held, just these positions were asked for
pub covers_reads : (section : Section) (v w : Held) (s s' : Source) (due : List ℕ) → length v.bytes ≡ 0 → length w.bytes ≡ 0 → Covers section v w s s' due → Reads (IsInside section.first section.end) s s' due
covers_reads section v w s s' due none none' c =
    reads_along c.asked due (ap (λ n. range_with_len v.at n ++ c.asked) (sym none) ∙ c.whole ∙ ap (λ n. due ++ range_with_len w.at n) none' ∙ append-nil due) c.reads

pub covers_front : (section : Section) (v : Held) (s s' : Source) (due : List ℕ) → length v.bytes ≡ 0 → CoversPart section v s s' due → ReadsFront (IsInside section.first section.end) s s' due
covers_front section v s s' due none c = front_along c.asked due (ap (λ n. range_with_len v.at n ++ c.asked) (sym none) ∙ c.whole) c.reads
