-- Going through the hits of a run.
use Rattle.std.proofs.Common.{◌≡◌, zero, suc, inl, inr, ⊎_elim, ℕ, ◌+◌, ◌-◌, ◌≤◌, ◌<◌, max, List, [], ◌∷◌, ◌++◌, length, take, drop, get_or, Some, sym, ap, subst, ◌∙◌, arith}
use Rattle.std.specs.Prelude.{slice_get}
use Rattle.std.specs.List.{range_with_len}
use Rattle.std.proofs.lemmas.Bool.{cases_lt}
use Rattle.std.proofs.lemmas.List.{take_all, take_more, take-append-drop, drop_more}
use Rattle.std.proofs.lemmas.Option.{get_or_from_slice_get, slice_get-get_or, slice_get_within}
use Rattle.flat_layout.specs.declared.Broken.{Broken}
use Rattle.fgb_outside.specs.Source.{Source, IfTold}
use Rattle.fgb_outside.specs.Asked.{IsInside, Reads, ReadsFront}
use Rattle.section_window.specs.Window.{Held, ahead}
use Rattle.level_bounds.specs.Levels.{Shape}
use Rattle.fgb_file.specs.File.{node_in, size_at}
use Rattle.tree_search.specs.declared.search.Hit.{Hit}
use Rattle.tree_search.specs.Searches.{hit_of}
use Rattle.found_features.specs.Entries.{Entry}
use Rattle.found_features.specs.Visits.{TakesPart}
use Rattle.hit_reader.specs.declared.section.Section.{Section}
use Rattle.hit_reader.specs.Met.{BreaksHit, entry_at}
use Rattle.hit_reader.specs.Going.{Hands, IsBehind, IsContiguous, IsOver, IsSection}
use Rattle.hit_reader.specs.Rising.{Covers, CoversPart, Rises, SkipsNothing}
use Rattle.hit_reader.proofs.Rising.{rises_on, rises_nothing, covers_on, covers_then_part, covers_nothing, covers_reads, covers_front}
use Rattle.hit_reader.proofs.Handing.{HandsAll, HandsPart, RefusesSome, hands_none, hands_on, hands_one, part_on, part_one, refused_on, refused_one}

-- what a read of hits past their end would give
abbrev pub blank : Hit
blank = record {
  number = 0;
  item = record { bounds = record { min_x = record { 0 = 0 }; min_y = record { 0 = 0 }; max_x = record { 0 = 0 }; max_y = record { 0 = 0 } }; offset = 0 };
}

pub hit_at : (hits : List Hit) (i : ℕ) → i < length hits → slice_get hits i ≡ Some (get_or hits i blank)
hit_at hits i within = slice_get-get_or hits i blank within

-- the hits in front of hit i, that hit and those behind it
pub hit_between : (hits : List Hit) (i : ℕ) (hit : Hit) → slice_get hits i ≡ Some hit → take i hits ++ (hit ∷ [] ++ drop (i + 1) hits) ≡ hits
hit_between hits i hit is =
    ap (λ h. take i hits ++ h ∷ drop (i + 1) hits) (sym (get_or_from_slice_get hits i hit hit is))
    ∙ ap (λ l. take i hits ++ l) (sym (drop_more hits i hit (slice_get_within hits i hit is)))
    ∙ take-append-drop i hits

pub hit_behind : (hits : List Hit) (i : ℕ) (hit : Hit) → slice_get hits i ≡ Some hit → take i hits ++ hit ∷ [] ≡ take (i + 1) hits
hit_behind hits i hit is =
    ap (λ h. take i hits ++ h ∷ []) (sym (get_or_from_slice_get hits i hit hit is)) ∙ sym (take_more hits i hit (slice_get_within hits i hit is))

-- the places of a run rise
pub places_rise : (image : List ℕ) (section : Section) (run : List Hit) (place : ℕ → ℕ) → IsContiguous image section run place → (i n : ℕ) → i + n ≤ length run → place i ≤ place (i + n)
places_rise image section run place are i zero within = let e : i ≡ i + 0 = omega arith in omega (arith, ap place e)
places_rise image section run place are i (suc n) within =
    let e : i + n + 1 ≡ i + suc n = omega arith in
    omega (arith, places_rise image section run place are i n (omega arith), are.next (i + n) (omega arith), ap place e)

module _ {V : Type 0} (step failed_step : V → Entry → V → Type 0) (section : Section) (run : List Hit) (until : ℕ) (w0 : Held) (s0 : Source) (v0 : V) where
  -- the hits in front of hit i are done
  pub record Runs (i : ℕ) (w : Held) (s : Source) (v : V) : Type 0 where
    pub over : IsOver section w s
    pub near : ahead w ≤ max until w.at
    pub none : i ≡ 0 → length w.bytes ≡ 0
    pub passes : (hit : Hit) → slice_get run (i - 1) ≡ Some hit → 0 < i → section.first + hit.item.offset + 4 ≤ w.at
    pub rises : Rises section w0 w s0 s
    pub hands : IfTold s0 (λ image. HandsAll step failed_step image section (take i run) v0 v w0.at w.at)
    pub covers : IfTold s0 (λ image. (place : ℕ → ℕ) → IsContiguous image section run place → Covers section w0 w s0 s (range_with_len (place 0) (place i - place 0)))
    pub lands : IfTold s0 (λ image. (place : ℕ → ℕ) → IsContiguous image section run place → 0 < i → w.at ≡ place i)

  module _ (empty : length w0.bytes ≡ 0) where
    pub runs_none : IsOver section w0 s0 → Runs 0 w0 s0 v0
    runs_none over = record {
      over = over;
      near = omega arith;
      none = λ _. empty;
      passes = λ hit is some. absurd (omega arith);
      rises = rises_nothing section w0 s0;
      hands = λ image told. hands_none step failed_step image section v0 w0.at;
      covers = λ image told place are. covers_nothing section w0 s0 (place 0);
      lands = λ image told place are some. absurd (omega arith);
    }

    -- the last feature of the run
    last_until : ((hit : Hit) → slice_get run (length run - 1) ≡ Some hit → until ≤ section.first + hit.item.offset + 4) → 0 < length run → (image : List ℕ) (place : ℕ → ℕ) → IsContiguous image section run place
        → until ≤ place (length run)
    last_until last some image place are =
        let is = hit_at run (length run - 1) (omega arith) in
        let e : length run - 1 + 1 ≡ length run = omega arith in
        omega (arith, last (get_or run (length run - 1) blank) is, are.there (length run - 1) (get_or run (length run - 1) blank) is, are.next (length run - 1) (omega arith), ap place e)

    module _ (i : ℕ) (w : Held) (s : Source) (v : V) (r : Runs i w s v) where
      told_now : (image : List ℕ) → s0.image ≡ Some image → s.image ≡ Some image
      told_now image told = r.rises.reads.keeps.image ∙ told

      module _ (hit : Hit) (this : slice_get run i ≡ Some hit) where
        target : ℕ
        target = section.first + hit.item.offset

        early : i < length run
        early = slice_get_within run i hit this

        module _ (image : List ℕ) (told : s0.image ≡ Some image) (place : ℕ → ℕ) (are : IsContiguous image section run place) where
          skips : SkipsNothing w (section.first + hit.item.offset)
          skips = ⊎_elim
              (λ (some : 0 < i). inl (r.lands image told place are some ∙ sym (are.there i hit this)))
              (λ (first : i ≤ 0). inr (r.none (omega arith)))
              (cases_lt 0 i)

          order : place 0 ≤ place i
          order = let e : 0 + i ≡ i = omega arith in omega (arith, places_rise image section run place are 0 i (omega (arith, early)), ap place e)

          next : place (i + 1) ≡ section.first + hit.item.offset + 4 + size_at image (section.first + hit.item.offset)
          next = are.next i early ∙ ap (λ n. n + 4 + size_at image n) (sym (are.there i hit this))

          next_within : place (i + 1) ≤ place (length run)
          next_within =
              let e : i + 1 + (length run - (i + 1)) ≡ length run = omega (arith, early) in
              omega (arith, places_rise image section run place are (i + 1) (length run - (i + 1)) (omega (arith, early)), ap place e)

        -- that hit is done
        module _ (w' : Held) (s' : Source) (v' : V) (rises' : Rises section w w' s s') where
          pub runs_more : IsOver section w' s' → (ahead w ≤ max until w.at → ahead w' ≤ max until w'.at) → section.first + hit.item.offset + 4 ≤ w'.at
              → IfTold s (λ image. (t : Shape) (k : ℕ) → IsSection image t section → hit ≡ hit_of t (node_in image) 0 k → Hands step image t (k ∷ []) (k + 1) v v' w'.at)
              → IfTold s (λ image. section.end ≡ length image → SkipsNothing w (section.first + hit.item.offset)
              → Covers section w w' s s' (range_with_len (section.first + hit.item.offset) (4 + size_at image (section.first + hit.item.offset))))
              → IfTold s (λ image. section.end ≡ length image → w'.at ≡ section.first + hit.item.offset + 4 + size_at image (section.first + hit.item.offset))
              → Runs (i + 1) w' s' v'
          runs_more over' near' passes' hands' covers' lands' = record {
            over = over';
            near = near' r.near;
            none = λ first. absurd (omega arith);
            passes = λ (other : Hit) is some.
                let e : i + 1 - 1 ≡ i = omega arith in
                let same : Some hit ≡ Some other = sym this ∙ ap (slice_get run) (sym e) ∙ is in
                let one : hit ≡ other = cc in
                omega (arith, passes', ap (λ (h : Hit). h.item.offset) one);
            rises = rises_on section w0 w w' s0 s s' r.rises rises';
            hands = λ image told. subst (λ hs. HandsAll step failed_step image section hs v0 v' w0.at w'.at) (hit_behind run i hit this)
                (hands_on step failed_step image section (take i run) v0 v w0.at w.at (r.hands image told) (hit ∷ []) v' w'.at
                (hands_one step failed_step image section hit v v' w.at w'.at (hands' image (told_now image told))));
            covers = λ image told place are.
                covers_on section w0 w w' s0 s s' (place 0) (place i) (order image told place are) (r.covers image told place are) (4 + size_at image (section.first + hit.item.offset)) (place (i + 1))
                (omega (arith, next image told place are, are.there i hit this))
                (subst (λ n. Covers section w w' s s' (range_with_len n (4 + size_at image (section.first + hit.item.offset)))) (are.there i hit this) (covers' image (told_now image told) are.ends (skips image told place are)));
            lands = λ image told place are some. lands' image (told_now image told) are.ends ∙ sym (next image told place are);
          }

        -- it is not
        module _ (s' : Source) (v' : V) where
          pub run_part : IfTold s (λ image. (t : Shape) (k : ℕ) → IsSection image t section → hit ≡ hit_of t (node_in image) 0 k → TakesPart step failed_step v (entry_at image t k ∷ []) v')
              → IfTold s0 (λ image. HandsPart step failed_step image section run v0 v' w0.at)
          run_part part image told = subst (λ hs. HandsPart step failed_step image section hs v0 v' w0.at) (hit_between run i hit this)
              (part_on step failed_step image section (take i run) v0 v w0.at w.at (r.hands image told) (hit ∷ []) (drop (i + 1) run) v'
              (part_one step failed_step image section hit v v' w.at (part image (told_now image told))))

          pub run_refused : (broken : Broken) → v' ≡ v
              → IfTold s (λ image. (t : Shape) (k : ℕ) → IsSection image t section → hit ≡ hit_of t (node_in image) 0 k → IsBehind image t k w.at → BreaksHit image t k broken.place broken.rule)
              → IfTold s0 (λ image. RefusesSome step failed_step image section run v0 v' w0.at broken)
          run_refused broken same breaks image told = subst (λ hs. RefusesSome step failed_step image section hs v0 v' w0.at broken) (hit_between run i hit this)
              (refused_on step failed_step image section (take i run) v0 v w0.at w.at (r.hands image told) (hit ∷ []) (drop (i + 1) run) v' broken
              (refused_one step failed_step image section hit v v' w.at broken same (breaks image (told_now image told))))

          pub run_front : ((last : Hit) → slice_get run (length run - 1) ≡ Some last → until ≤ section.first + last.item.offset + 4)
              → IfTold s (λ image. section.end ≡ length image → SkipsNothing w (section.first + hit.item.offset) → ahead w ≤ max until w.at
              → (till : ℕ) → until ≤ till → section.first + hit.item.offset + 4 + size_at image (section.first + hit.item.offset) ≤ till
              → CoversPart section w s s' (range_with_len (section.first + hit.item.offset) (till - (section.first + hit.item.offset))))
              → IfTold s0 (λ image. (place : ℕ → ℕ) → IsContiguous image section run place → ReadsFront (IsInside section.first section.end) s0 s' (range_with_len (place 0) (place (length run) - place 0)))
          run_front last front image told place are =
              let end = place (length run) in
              let part = front image (told_now image told) are.ends (skips image told place are) r.near end (last_until last (omega (arith, early)) image place are) (omega (arith, next image told place are, next_within image told place are)) in
              covers_front section w0 s0 s' (range_with_len (place 0) (end - place 0)) empty
              (covers_then_part section w0 w w s0 s s' (place 0) (place i) (order image told place are) (r.covers image told place are) end (omega (arith, next image told place are, next_within image told place are, are.there i hit this))
              (subst (λ n. CoversPart section w s s' (range_with_len n (end - n))) (are.there i hit this) part))

    -- all hits are done
    module _ (i : ℕ) (w : Held) (s : Source) (v : V) (so_far : Runs i w s v) (end : i ≡ length run) (last : (hit : Hit) → slice_get run (length run - 1) ≡ Some hit → until ≤ section.first + hit.item.offset + 4) (some : 0 < length run) where
      r : Runs (length run) w s v
      r = subst (λ n. Runs n w s v) end so_far

      pub run_none : length w.bytes ≡ 0
      run_none =
          let is = hit_at run (length run - 1) (omega arith) in
          let hit = get_or run (length run - 1) blank in
          omega (arith, last hit is, r.passes hit is some, r.near)

      pub run_hands : IfTold s0 (λ image. HandsAll step failed_step image section run v0 v w0.at w.at)
      run_hands image told = subst (λ hs. HandsAll step failed_step image section hs v0 v w0.at w.at) (take_all (length run) run (omega arith)) (r.hands image told)

      pub run_reads : IfTold s0 (λ image. (place : ℕ → ℕ) → IsContiguous image section run place → Reads (IsInside section.first section.end) s0 s (range_with_len (place 0) (place (length run) - place 0)))
      run_reads image told place are = covers_reads section w0 w s0 s (range_with_len (place 0) (place (length run) - place 0)) empty run_none (r.covers image told place are)
