-- What was handed over of the features of the leaves, one after another.
use Rattle.std.proofs.Common.{◌≡◌, ℕ, zero, suc, ◌+◌, ◌-◌, ◌*◌, ◌^◌, ◌<◌, ◌≤◌, false, List, [], ◌∷◌, ◌++◌, length, take, drop, map, get_or, Option, Some, None, refl, sym, ap, subst, ◌∙◌, append_assoc, append-nil, arith}
use Rattle.std.specs.Prelude.{slice_get, if◌then◌else◌}
use Rattle.std.specs.List.{AllByRecursion, range_with_len}
use Rattle.std.proofs.lemmas.List.{drop_more, take-append-drop, take_all, take_more, map-append}
use Rattle.std.proofs.Math.Seq.{drop-nil}
use Rattle.std.proofs.lemmas.Option.{slice_get_within, get_or_from_slice_get}
use Rattle.flat_layout.specs.declared.Broken.{Broken}
use Rattle.level_bounds.specs.Levels.{Shape}
use Rattle.fgb_outside.specs.Source.{Source, IfTold}
use Rattle.fgb_outside.specs.Asked.{Ascends, IsInside, Reads, ReadsFront}
use Rattle.fgb_outside.proofs.Asking.{AllByRecursion-append, reads_along, reads_nothing, reads_reads, reads_front, reads_then_front, front_along}
use Rattle.section_window.specs.Window.{ahead}
use Rattle.section_window.proofs.Showing.{shows_nothing}
use Rattle.gap_window.specs.Bridging.{Bridging}
use Rattle.gap_window.specs.Gaps.{bridged, bridged_behind}
use Rattle.fgb_file.specs.File.{IsFile}
use Rattle.found_features.specs.Entries.{Entry}
use Rattle.found_features.specs.Visits.{Takes, TakesPart}
use Rattle.found_features.proofs.Taking.{takes_more, takes_nothing, part_front, part_failed}
use Rattle.hit_reader.specs.declared.section.Section.{Section}
use Rattle.hit_reader.specs.Asking.{AsksRising, feature_positions}
use Rattle.hit_reader.specs.Going.{IsBehind, IsSection, at_first, at_end}
use Rattle.hit_reader.specs.Met.{BreaksHit, IsMet, entry_at}
use Rattle.hit_reader.specs.Rising.{Rises, RisesPart}
use Rattle.box_search.specs.declared.nodes.Hit.{Hit}
use Rattle.hit_runs.specs.declared.runs.HitRuns.{HitRuns}
use Rattle.hit_runs.specs.Fetching.{IsOver}
use Rattle.hit_runs.specs.Laid.{AreLaid, hit_positions}
use Rattle.hit_runs.specs.Leaves.{AreLeaves, IsLeaf, behind}
use Rattle.hit_runs.specs.Runs.{ComesTo, Goes, HasEnded, IsTurn, Owes, Pays, RefusesTurn, entry_of, last_place, next_of, rest_of}
use Rattle.hit_runs.proofs.Rising.{asks_rising, rises_nothing, rises_on, rises_then_part, rises_whole}
use Rattle.hit_runs.proofs.Places.{leaves_laid, leaves_positions}

-- ## At a place of a list

module _ (xs : List ℕ) (i k : ℕ) (is : slice_get xs i ≡ Some k) where
  there : get_or xs i k ≡ k
  there = get_or_from_slice_get xs i k k is

  split_there : take i xs ++ k ∷ drop (i + 1) xs ≡ xs
  split_there = ap (λ (x : ℕ). take i xs ++ x ∷ drop (i + 1) xs) (sym there) ∙ ap (λ l. take i xs ++ l) (sym (drop_more xs i k (slice_get_within xs i k is))) ∙ take-append-drop i xs

  take_there : take (i + 1) xs ≡ take i xs ++ k ∷ []
  take_there = take_more xs i k (slice_get_within xs i k is) ∙ ap (λ (x : ℕ). take i xs ++ x ∷ []) there

next_rises : (low high : ℕ) (xs : List ℕ) (i j k : ℕ) → Ascends low high xs → slice_get xs i ≡ Some j → slice_get xs (i + 1) ≡ Some k → j + 1 ≤ k
next_rises low high [] i j k rises is next = absurd (omega (arith, slice_get_within [] i j is))
next_rises low high (x ∷ xs) (suc i) j k rises is next =
    let same : suc (i + 1) ≡ suc i + 1 = omega arith in
    next_rises (x + 1) high xs i j k rises.1 is (ap (slice_get (x ∷ xs)) same ∙ next)
next_rises low high (x ∷ []) zero j k rises is next = absurd (omega (arith, slice_get_within (x ∷ []) (zero + 1) k next))
next_rises low high (x ∷ (y ∷ ys)) zero j k rises is next =
    let a : x ≡ j = cc is in
    let b : y ≡ k = cc next in
    omega (arith, rises.1.0, a, b)

behind_wider : (image : List ℕ) (t : Shape) (k k' at : ℕ) → k ≤ k' → IsBehind image t k at → IsBehind image t k' at
behind_wider image t k k' at le (at_first begins) = at_first begins
behind_wider image t k k' at le (at_end j earlier fits ends) = at_end j (omega (arith, earlier, le)) fits ends

-- there is one at each place
some_there : (hits : List Hit) (i : ℕ) → i < length hits → (hit : Hit) × (slice_get hits i ≡ Some hit)
some_there [] i left = absurd (omega (arith, left))
some_there (h ∷ hits) zero left = (h, refl)
some_there (h ∷ hits) (suc i) left = some_there hits i (omega (arith, left))

-- the leaf of a hit
leaf_there : (image : List ℕ) (t : Shape) (hits : List Hit) (leaves : List ℕ) (i : ℕ) (hit : Hit) → AreLeaves image t hits leaves → slice_get hits i ≡ Some hit
    → (k : ℕ) × (slice_get leaves i ≡ Some k) × IsLeaf image t hit k
leaf_there image t [] leaves i hit are is = absurd (omega (arith, slice_get_within [] i hit is))
leaf_there image t (h ∷ hits) [] i hit are is = absurd are
leaf_there image t (h ∷ hits) (k ∷ leaves) zero hit are is =
    let same : h ≡ hit = cc is in
    (k, refl, subst (λ h. IsLeaf image t h k) same are.0)
leaf_there image t (h ∷ hits) (k ∷ leaves) (suc i) hit are is = leaf_there image t hits leaves i hit are.2 is

length_leaves : (image : List ℕ) (t : Shape) (hits : List Hit) (leaves : List ℕ) → AreLeaves image t hits leaves → length leaves ≡ length hits
length_leaves image t [] [] are = refl
length_leaves image t [] (k ∷ leaves) are = absurd are
length_leaves image t (h ∷ hits) [] are = absurd are
length_leaves image t (h ∷ hits) (k ∷ leaves) are = omega (arith, length_leaves image t hits leaves are.2)

laid_behind : (image : List ℕ) (first : ℕ) (hits : List Hit) (i : ℕ) → AreLaid image first hits → AreLaid image first (drop i hits)
laid_behind image first hits zero laid = laid
laid_behind image first [] (suc i) laid = tt
laid_behind image first (h ∷ []) (suc i) laid = laid_behind image first [] i tt
laid_behind image first (h ∷ (g ∷ hits)) (suc i) laid = laid_behind image first (g ∷ hits) i laid.2

-- what was paid and is paid
paid_more : (image : List ℕ) (section : Section) (r r' : HitRuns) (a b c : Source) (due : List ℕ) → Pays image section r a b due → ((left : List ℕ) → Owes image section.first r left → Pays image section r' b c left) → Pays image section r' a c due
paid_more image section r r' a b c due first pays = let second = pays first.left first.owes in record {
  asked = first.asked ++ second.asked;
  left = second.left;
  reads = reads_reads first.reads second.reads;
  parts = append_assoc first.asked second.asked second.left ∙ ap (λ l. first.asked ++ l) second.parts ∙ first.parts;
  owes = second.owes;
}

behind_nothing : (xs ys : List ℕ) → xs ++ ys ≡ [] → ys ≡ []
behind_nothing [] ys is = is
behind_nothing (x ∷ xs) ys is = absurd (cc is)

drop_all : (n : ℕ) (hits : List Hit) → length hits ≤ n → drop n hits ≡ []
drop_all n [] all = drop-nil n
drop_all zero (h ∷ hits) all = absurd (omega (arith, all))
drop_all (suc n) (h ∷ hits) all = drop_all n hits (omega (arith, all))

-- ## The features of the leaves of a file

module _ {V : Type 0} (step failed_step : V → Entry → V → Type 0) (section : Section) (hits : List Hit) (r0 : HitRuns) (s0 : Source) (v0 : V) where
  -- what is known of the leaves of a file
  abbrev pub OfLeaves : List ℕ → (Shape → List ℕ → Type 0) → Type 0
  OfLeaves image P = (t : Shape) (leaves : List ℕ) → IsSection image t section → AreLeaves image t hits leaves → Ascends 0 t.leaves leaves → P t leaves

  -- the features of the first i leaves were handed over, and the next one stands from here on
  pub record Given (image : List ℕ) (t : Shape) (leaves : List ℕ) (i at : ℕ) (v : V) : Type 0 where
    pub takes : Takes step v0 (map (entry_at image t) (take i leaves)) v
    pub met : AllByRecursion (IsMet image t) (take i leaves)
    pub behind : (k : ℕ) → slice_get leaves i ≡ Some k → IsBehind image t k at

  -- the features that were given were handed over
  pub record Went (r : HitRuns) (s : Source) (v : V) : Type 0 where
    pub list : r.hits.items ≡ hits
    pub goes : Goes section r s
    pub rises : Rises section r0.window.held r.window.held s0 s
    pub gives : IfTold s0 (λ image. OfLeaves image (λ t leaves. Given image t leaves r.given (next_of r) v))
    pub pays : IfTold s0 (λ image. (due : List ℕ) → section.end ≡ length image → AreLaid image section.first hits → Owes image section.first r0 due → Pays image section r s0 s due)

  -- ## At first

  pub went_none : (gap : ℕ) → r0.window ≡ record { held = record { at = section.first; bytes = []; end = section.end }; gap = gap; begun = false } → r0.hits.items ≡ hits → r0.given ≡ 0 → next_of r0 ≡ section.first
      → section.first ≤ section.end → section.end ≤ s0.size → AllByRecursion (λ hit. section.leaves + 40 * hit.number ≤ 2 ^ 48) hits → Went r0 s0 v0
  went_none gap window list none next order inside leaves = record {
    list = list;
    goes = record {
      over = subst (λ (w : Bridging). IsOver section w s0) (sym window) (record { shows = shows_nothing s0 section.first section.end order inside; end = refl; behind = omega arith });
      leaves = subst (AllByRecursion (λ hit. section.leaves + 40 * hit.number ≤ 2 ^ 48)) (sym list) leaves;
    };
    rises = rises_nothing section r0.window.held s0;
    gives = λ image told t ks within are rises. subst (λ n. Given image t ks n (next_of r0) v0) (sym none) (record {
      takes = takes_nothing step v0;
      met = tt;
      behind = λ k is. at_first (next ∙ within.first);
    });
    pays = λ image told due whole laid owes. record { asked = []; left = due; reads = reads_nothing s0; parts = refl; owes = owes };
  }

  module _ (r : HitRuns) (s : Source) (v : V) (went : Went r s v) where
    told_now : (image : List ℕ) → s0.image ≡ Some image → s.image ≡ Some image
    told_now image told = went.rises.reads.keeps.image ∙ told

    turn_is : r.given < length r.hits.items → (hit : Hit) × IsTurn r hit
    turn_is left = some_there r.hits.items r.given left

    laid_now : (image : List ℕ) → AreLaid image section.first hits → AreLaid image section.first (rest_of r)
    laid_now image laid = laid_behind image section.first r.hits.items r.given (subst (AreLaid image section.first) (sym went.list) laid)

    module _ (image : List ℕ) (told : s0.image ≡ Some image) (t : Shape) (leaves : List ℕ) (within : IsSection image t section) (are : AreLeaves image t hits leaves) (rises : Ascends 0 t.leaves leaves) where
      given : Given image t leaves r.given (next_of r) v
      given = went.gives image told t leaves within are rises

      e : ℕ → Entry
      e = entry_at image t

      turn_there : (hit : Hit) → IsTurn r hit → (k : ℕ) × (slice_get leaves r.given ≡ Some k) × IsLeaf image t hit k
      turn_there hit turn = leaf_there image t hits leaves r.given hit are (ap (λ hs. slice_get hs r.given) (sym went.list) ∙ turn)

      -- no more is handed over
      part_there : TakesPart step failed_step v0 (map (entry_at image t) leaves) v
      part_there =
          let all : map (entry_at image t) (take r.given leaves) ++ map (entry_at image t) (drop r.given leaves) ≡ map (entry_at image t) leaves =
          sym (map-append (entry_at image t) (take r.given leaves) (drop r.given leaves)) ∙ ap (map (entry_at image t)) (take-append-drop r.given leaves) in
          subst (λ es. TakesPart step failed_step v0 es v) all
          (part_front step failed_step v0 v (map (entry_at image t) (take r.given leaves)) (map (entry_at image t) (drop r.given leaves)) given.takes)

      -- the next one is refused
      refused_there : (broken : Broken) (hit : Hit) → IsTurn r hit → RefusesTurn section r broken image
          → (front : List ℕ) × (k : ℕ) × (rest : List ℕ) × (leaves ≡ front ++ k ∷ rest) × BreaksHit image t k broken.place broken.rule × Takes step v0 (map (entry_at image t) front) v
      refused_there broken hit turn refuses =
          let leaf = turn_there hit turn in
          (take r.given leaves, leaf.0, drop (r.given + 1) leaves, sym (split_there leaves r.given leaf.0 leaf.1), refuses t leaf.0 hit within turn leaf.2 (behind (given.behind leaf.0 leaf.1)), given.takes)

    pub went_part : IfTold s0 (λ image. OfLeaves image (λ t leaves. TakesPart step failed_step v0 (map (entry_at image t) leaves) v))
    went_part image told t leaves within are rises = part_there image told t leaves within are rises

    -- the next one is refused
    pub went_refused : (broken : Broken) → r.given < length r.hits.items → IfTold s (RefusesTurn section r broken)
        → IfTold s0 (λ image. OfLeaves image (λ t leaves. (front : List ℕ) × (k : ℕ) × (rest : List ℕ) × (leaves ≡ front ++ k ∷ rest) × BreaksHit image t k broken.place broken.rule × Takes step v0 (map (entry_at image t) front) v))
    went_refused broken left refuses image told t leaves within are rises =
        let turn = turn_is left in
        refused_there image told t leaves within are rises broken turn.0 turn.1 (refuses image (told_now image told))

    -- what is asked for rises
    pub went_rising : (s' : Source) → ahead r0.window.held ≡ section.first → RisesPart section r.window.held s s' → AsksRising section.first section.end s0 s'
    went_rising s' begins part = asks_rising section r0.window.held s0 s' (omega (arith, begins)) (rises_then_part section r0.window.held r.window.held s0 s went.rises s' part)

    -- a front of what is owed was asked for
    abbrev pub FrontOwed : Source → Type 0
    FrontOwed s' = IfTold s0 (λ image. (due : List ℕ) → section.end ≡ length image → AreLaid image section.first hits → Owes image section.first r0 due → ReadsFront (IsInside section.first section.end) s0 s' due)

    pub went_front : (s' : Source) → IfTold s (λ image. (due : List ℕ) → section.end ≡ length image → AreLaid image section.first (rest_of r)
        → Owes image section.first r due → ReadsFront (IsInside section.first section.end) s s' due) → FrontOwed s'
    went_front s' front image told due whole laid owes =
        let paid = went.pays image told due whole laid owes in
        front_along (paid.asked ++ paid.left) due paid.parts
        (reads_then_front paid.reads (front image (told_now image told) paid.left whole (laid_now image laid) paid.owes))

    -- ## One more

    module _ (r' : HitRuns) (comes : ComesTo section r r' s) where
      module _ (image : List ℕ) (told : s0.image ≡ Some image) (t : Shape) (leaves : List ℕ) (within : IsSection image t section) (are : AreLeaves image t hits leaves) (rises : Ascends 0 t.leaves leaves) where
        leaf : (k : ℕ) × (slice_get leaves r.given ≡ Some k) × IsLeaf image t comes.hit k
        leaf = turn_there image told t leaves within are rises comes.hit comes.turn

        lent : (entry_of r' ≡ entry_at image t leaf.0) × IsMet image t leaf.0 × IsBehind image t (leaf.0 + 1) (next_of r')
        lent = comes.lends image (told_now image told) t leaf.0 within leaf.2

        before : Given image t leaves r.given (next_of r) v
        before = given image told t leaves within are rises

        module _ (v' : V) where
          given_more : step v (entry_of r') v' → Given image t leaves (r.given + 1) (next_of r') v'
          given_more stepped = record {
            takes = subst (λ es. Takes step v0 es v') (sym (ap (map (entry_at image t)) (take_there leaves r.given leaf.0 leaf.1) ∙ map-append (entry_at image t) (take r.given leaves) (leaf.0 ∷ [])))
                (takes_more step v0 v v' (map (entry_at image t) (take r.given leaves)) (entry_at image t leaf.0) before.takes (subst (λ (x : Entry). step v x v') lent.0 stepped));
            met = subst (AllByRecursion (IsMet image t)) (sym (take_there leaves r.given leaf.0 leaf.1)) (AllByRecursion-append (IsMet image t) (take r.given leaves) (leaf.0 ∷ []) before.met (lent.1, tt));
            behind = λ k is. behind_wider image t (leaf.0 + 1) k (next_of r') (next_rises 0 t.leaves leaves r.given leaf.0 k rises leaf.1 is) lent.2;
          }

          failed_there : failed_step v (entry_of r') v' → TakesPart step failed_step v0 (map (entry_at image t) leaves) v'
          failed_there failed =
              let all : map (entry_at image t) (take r.given leaves) ++ entry_at image t leaf.0 ∷ map (entry_at image t) (drop (r.given + 1) leaves) ≡ map (entry_at image t) leaves =
              sym (map-append (entry_at image t) (take r.given leaves) (leaf.0 ∷ drop (r.given + 1) leaves)) ∙ ap (map (entry_at image t)) (split_there leaves r.given leaf.0 leaf.1) in
              subst (λ es. TakesPart step failed_step v0 es v') all
              (part_failed step failed_step v0 v v' (map (entry_at image t) (take r.given leaves)) (entry_at image t leaf.0) (map (entry_at image t) (drop (r.given + 1) leaves)) before.takes (subst (λ (x : Entry). failed_step v x v') lent.0 failed))

      -- the visitor failed at it
      pub went_failed : (v' : V) → failed_step v (entry_of r') v' → IfTold s0 (λ image. OfLeaves image (λ t leaves. TakesPart step failed_step v0 (map (entry_at image t) leaves) v'))
      went_failed v' failed image told t leaves within are rises = failed_there image told t leaves within are rises v' failed

    module _ (r' : HitRuns) (s' : Source) (rises : Rises section r.window.held r'.window.held s s')
        (pays : IfTold s (λ image. (due : List ℕ) → section.end ≡ length image → AreLaid image section.first (rest_of r) → Owes image section.first r due → Pays image section r' s s' due)) where
      pays_on : IfTold s0 (λ image. (due : List ℕ) → section.end ≡ length image → AreLaid image section.first hits → Owes image section.first r0 due → Pays image section r' s0 s' due)
      pays_on image told due whole laid owes = paid_more image section r r' s0 s s' due (went.pays image told due whole laid owes) (λ left owed. pays image (told_now image told) left whole (laid_now image laid) owed)

      -- what was asked for, whether it was taken or not
      pub front_more : FrontOwed s'
      front_more image told due whole laid owes =
          let paid = pays_on image told due whole laid owes in
          front_along (paid.asked ++ paid.left) due paid.parts (reads_front paid.left paid.reads)

      module _ (goes : Goes section r' s') where
        pub rising_more : ahead r0.window.held ≡ section.first → AsksRising section.first section.end s0 s'
        rising_more begins =
            asks_rising section r0.window.held s0 s' (omega (arith, begins))
            (rises_whole section r0.window.held r'.window.held s0 s' (rises_on section r0.window.held r.window.held s0 s went.rises r'.window.held s' rises) (omega (arith, goes.over.shows.within, goes.over.end)))

        module _ (list : r'.hits.items ≡ r.hits.items) where
          -- it was taken
          pub went_more : ComesTo section r r' s → (v' : V) → step v (entry_of r') v' → Went r' s' v'
          went_more comes v' stepped = record {
            list = list ∙ went.list;
            goes = goes;
            rises = rises_on section r0.window.held r.window.held s0 s went.rises r'.window.held s' rises;
            gives = λ image told t leaves within are ascends. subst (λ n. Given image t leaves n (next_of r') v') (sym comes.given) (given_more r' comes image told t leaves within are ascends v' stepped);
            pays = pays_on;
          }

          -- none was left
          pub went_ended : HasEnded r r' → Went r' s' v
          went_ended ended = record {
            list = list ∙ went.list;
            goes = goes;
            rises = rises_on section r0.window.held r.window.held s0 s went.rises r'.window.held s' rises;
            gives = λ image told t leaves within are ascends. subst (λ n. Given image t leaves n (next_of r') v) (sym ended.same) (subst (λ at. Given image t leaves r.given at v) (sym ended.place) (given image told t leaves within are ascends));
            pays = pays_on;
          }

    -- ## At the end

    module _ (ended : r.given ≡ length r.hits.items) where
      -- all were taken
      pub went_done : IfTold s0 (λ image. OfLeaves image (λ t leaves. Takes step v0 (map (entry_at image t) leaves) v × AllByRecursion (IsMet image t) leaves))
      went_done image told t leaves within are rises =
          let all = given image told t leaves within are rises in
          let whole : take r.given leaves ≡ leaves = take_all r.given leaves (omega (arith, ended, length_leaves image t hits leaves are, ap (length {A = Hit}) went.list)) in
          (subst (λ ks. Takes step v0 (map (entry_at image t) ks) v) whole all.takes, subst (AllByRecursion (IsMet image t)) whole all.met)

      -- what is owed was asked for
      pub went_reads : IfTold s0 (λ image. (due : List ℕ) → section.end ≡ length image → AreLaid image section.first hits → Owes image section.first r0 due → Reads (IsInside section.first section.end) s0 s due)
      went_reads image told due whole laid owes =
          let paid = went.pays image told due whole laid owes in
          let none : rest_of r ≡ [] = drop_all r.given r.hits.items (omega (arith, ended)) in
          let left : paid.left ≡ [] = behind_nothing (range_with_len (next_of r) (ahead r.window.held - next_of r)) paid.left (paid.owes ∙ ap (λ hs. bridged_behind r.window.gap (last_place r) (hit_positions image section.first hs)) none) in
          reads_along paid.asked due (sym (append-nil paid.asked) ∙ ap (λ l. paid.asked ++ l) (sym left) ∙ paid.parts) paid.reads

-- ## In a file that breaks no rule

module _ (section : Section) (hits : List Hit) (r0 : HitRuns) (gap : ℕ) (window : r0.window ≡ record { held = record { at = section.first; bytes = []; end = section.end }; gap = gap; begun = false }) (list : r0.hits.items ≡ hits) (none : r0.given ≡ 0)
    (next : next_of r0 ≡ section.first) (image : List ℕ) (t : Shape) (leaves : List ℕ) (pieces : List (List ℕ)) (within : IsSection image t section) (are : AreLeaves image t hits leaves) (rises : Ascends 0 t.leaves leaves) (file : IsFile image (Some t) pieces) where
  -- the features stand one behind another
  pub laid_first : AreLaid image section.first hits
  laid_first = leaves_laid image t pieces file section.first within.first hits leaves 0 rises are

  -- and are owed, with the short holes between them
  pub owed_first : Owes image section.first r0 (bridged gap (feature_positions image t leaves))
  unfolding bridged
  owed_first =
      let nothing : ahead r0.window.held - next_of r0 ≡ 0 = omega (arith, next, ap (λ (w : Bridging). ahead w.held) window) in
      let last : last_place r0 ≡ None = ap (λ b. if b then Some (next_of r0) else None) (ap (λ (w : Bridging). w.begun) window) in
      let all : rest_of r0 ≡ hits = ap (λ n. drop n r0.hits.items) none ∙ list in
      ap (λ n. range_with_len (next_of r0) n ++ bridged_behind gap None (feature_positions image t leaves)) nothing
      ∙ ap (bridged_behind gap None) (sym (leaves_positions image t pieces file section.first within.first hits leaves are))
      ∙ ap (λ hs. bridged_behind gap None (hit_positions image section.first hs)) (sym all)
      ∙ ap (λ (l : Option ℕ). bridged_behind gap l (hit_positions image section.first (rest_of r0))) (sym last)
      ∙ ap (λ (n : ℕ). bridged_behind n (last_place r0) (hit_positions image section.first (rest_of r0))) (sym (ap (λ (w : Bridging). w.gap) window))
