-- Going through all hits, run by run.
use Rattle.std.proofs.Common.{◌≡◌, ℕ, zero, suc, ◌+◌, ◌-◌, ◌*◌, ◌<◌, ◌≤◌, List, [], ◌∷◌, ◌++◌, length, take, drop, map, Some, refl, sym, ap, subst, ◌∙◌, append_assoc, append-nil, arith, length-take}
use Rattle.std.specs.Prelude.{slice_get}
use Rattle.std.specs.List.{AllByRecursion, range_with_len}
use Rattle.std.proofs.lemmas.List.{nil_from_length, take-append-drop}
use Rattle.std.proofs.lemmas.List.Concat.{flat_map-append}
use Rattle.flat_layout.specs.declared.Broken.{Broken}
use Rattle.fgb_outside.specs.Source.{Source, IfTold}
use Rattle.fgb_outside.specs.Asked.{Ascends, IsInside, Reads, ReadsFront}
use Rattle.fgb_outside.proofs.Asking.{reads_along, reads_nothing, reads_reads, reads_then_front, front_along, front_longer, ascends_wider}
use Rattle.level_bounds.specs.Levels.{Shape, place as place_of_node}
use Rattle.section_window.specs.Window.{Held, ahead}
use Rattle.section_window.proofs.Showing.{shows_nothing}
use Rattle.fgb_header.specs.Views.{header_shown}
use Rattle.fgb_file.specs.File.{first_place, node_in, IsFile}
use Rattle.fgb_file.proofs.Walk.{all-rest}
use Rattle.tree_search.specs.declared.search.Hit.{Hit}
use Rattle.tree_search.specs.Searches.{hit_of}
use Rattle.found_features.specs.Entries.{Entry}
use Rattle.found_features.specs.Visits.{Takes, TakesPart}
use Rattle.hit_reader.specs.declared.section.Section.{Section}
use Rattle.hit_reader.specs.Met.{AreLeaves, BreaksHit, IsMet, entry_at}
use Rattle.hit_reader.specs.Asking.{AsksRising, feature_positions}
use Rattle.hit_reader.specs.Going.{AreHits, IsContiguous, IsBehind, IsNext, IsOver, at_first}
use Rattle.hit_reader.specs.Rising.{Rises, RisesPart}
use Rattle.hit_reader.proofs.Splitting.{map_split, ascends_order, ascends_split}
use Rattle.hit_reader.proofs.Rising.{rises_on, rises_nothing}
use Rattle.hit_reader.proofs.Handing.{HandsAll, HandsPart, RefusesSome, hands_none, hands_on, part_on, refused_on}
use Rattle.hit_reader.proofs.Places.{run_place, contiguous, run_positions}

positions_append : (image : List ℕ) (t : Shape) (xs ys : List ℕ) → feature_positions image t (xs ++ ys) ≡ feature_positions image t xs ++ feature_positions image t ys
unfolding feature_positions
positions_append image t xs ys = flat_map-append _ xs ys

positions_none : (image : List ℕ) (t : Shape) → feature_positions image t [] ≡ []
unfolding feature_positions
positions_none image t = refl

-- the numbers of hits are small, and so are those of the hits in front and behind
pub all_front : {X : Type 0} (P : X → Type 0) (xs ys : List X) → AllByRecursion P (xs ++ ys) → AllByRecursion P xs
all_front P [] ys all = tt
all_front P (x ∷ xs) ys all = (all.0, all_front P xs ys all.1)

-- numbers in front of others are no greater than these may be
front_rises : (low mid high : ℕ) (xs ys : List ℕ) → Ascends low mid xs → Ascends mid high ys → Ascends low high xs
front_rises low mid high xs ys first second = ascends_wider low low mid high xs (omega arith) (ascends_order mid high ys second) first

module _ (section : Section) where
  -- just the features of these hits are asked for, in a file that breaks no rule, or a front of them
  abbrev pub ReadsAll : List ℕ → List Hit → Source → Source → Type 0
  ReadsAll image hits s s' = (t : Shape) (leaves : List ℕ) (low : ℕ) (pieces : List (List ℕ)) → section.first ≡ first_place image (Some t) → section.end ≡ length image
      → hits ≡ map (hit_of t (node_in image) 0) leaves → Ascends low t.leaves leaves → IsFile image (Some t) pieces → Reads (IsInside section.first section.end) s s' (feature_positions image t leaves)

  abbrev pub ReadsSome : List ℕ → List Hit → Source → Source → Type 0
  ReadsSome image hits s s' = (t : Shape) (leaves : List ℕ) (low : ℕ) (pieces : List (List ℕ)) → section.first ≡ first_place image (Some t) → section.end ≡ length image
      → hits ≡ map (hit_of t (node_in image) 0) leaves → Ascends low t.leaves leaves → IsFile image (Some t) pieces → ReadsFront (IsInside section.first section.end) s s' (feature_positions image t leaves)

  reads_none : (image : List ℕ) (s : Source) → ReadsAll image [] s s
  reads_none image s t [] low pieces first end same rises file = reads_along [] (feature_positions image t []) (sym (positions_none image t)) (reads_nothing s)
  reads_none image s t (k ∷ ks) low pieces first end same rises file = absurd (cc same)

  module _ (image : List ℕ) (a b c : Source) where
    reads_on : (xs ys : List Hit) → ReadsAll image xs a b → ReadsAll image ys b c → ReadsAll image (xs ++ ys) a c
    reads_on xs ys one two t leaves low pieces first end same rises file =
        let m = map_split (hit_of t (node_in image) 0) leaves xs ys same in
        let r = ascends_split low t.leaves m.front m.back (subst (Ascends low t.leaves) m.split rises) in
        reads_along (feature_positions image t m.front ++ feature_positions image t m.back) (feature_positions image t leaves) (sym (ap (feature_positions image t) m.split ∙ positions_append image t m.front m.back))
        (reads_reads (one t m.front low pieces first end m.of_front (front_rises low r.0 t.leaves m.front m.back r.1 r.2) file) (two t m.back r.0 pieces first end m.of_back r.2 file))

    reads_then_some : (xs ys zs : List Hit) → ReadsAll image xs a b → ReadsSome image ys b c → ReadsSome image (xs ++ (ys ++ zs)) a c
    reads_then_some xs ys zs one two t leaves low pieces first end same rises file =
        let m = map_split (hit_of t (node_in image) 0) leaves xs (ys ++ zs) same in
        let r = ascends_split low t.leaves m.front m.back (subst (Ascends low t.leaves) m.split rises) in
        let n = map_split (hit_of t (node_in image) 0) m.back ys zs m.of_back in
        let q = ascends_split r.0 t.leaves n.front n.back (subst (Ascends r.0 t.leaves) n.split r.2) in
        let fp = feature_positions image t in
        front_along (fp m.front ++ (fp n.front ++ fp n.back)) (fp leaves)
        (sym (ap fp m.split ∙ positions_append image t m.front m.back ∙ ap (λ l. fp m.front ++ l) (ap fp n.split ∙ positions_append image t n.front n.back)))
        (reads_then_front (one t m.front low pieces first end m.of_front (front_rises low r.0 t.leaves m.front m.back r.1 r.2) file) (front_longer (fp n.back) (two t n.front r.0 pieces first end n.of_front (front_rises r.0 q.0 t.leaves n.front n.back q.1 q.2) file)))

  -- a run of neighbours
  module _ (image : List ℕ) (run : List Hit) (nexts : (i : ℕ) (a b : Hit) → i + 1 < length run → slice_get run i ≡ Some a → slice_get run (i + 1) ≡ Some b → IsNext a b) (some : 0 < length run) (s s' : Source) where
    run_all : ((place : ℕ → ℕ) → IsContiguous image section run place → Reads (IsInside section.first section.end) s s' (range_with_len (place 0) (place (length run) - place 0))) → ReadsAll image run s s'
    run_all reads t leaves low pieces first end same rises file =
        reads_along _ (feature_positions image t leaves) (sym (run_positions image t section first end run leaves same nexts pieces file low rises some))
        (reads (run_place image t section first end run leaves same nexts pieces file low rises) (contiguous image t section first end run leaves same nexts pieces file low rises))

    run_some : ((place : ℕ → ℕ) → IsContiguous image section run place → ReadsFront (IsInside section.first section.end) s s' (range_with_len (place 0) (place (length run) - place 0))) → ReadsSome image run s s'
    run_some reads t leaves low pieces first end same rises file =
        front_along _ (feature_positions image t leaves) (sym (run_positions image t section first end run leaves same nexts pieces file low rises some))
        (reads (run_place image t section first end run leaves same nexts pieces file low rises) (contiguous image t section first end run leaves same nexts pieces file low rises))

module _ {V : Type 0} (step failed_step : V → Entry → V → Type 0) (section : Section) (hits : List Hit) (w0 : Held) (s0 : Source) (v0 : V) where
  -- these hits are left, and those in front of them are done
  pub record Goes (rest : List Hit) (w : Held) (s : Source) (v : V) : Type 0 where
    pub done : List Hit
    pub split : done ++ rest ≡ hits
    pub over : IsOver section w s
    pub none : length w.bytes ≡ 0
    pub rises : Rises section w0 w s0 s
    pub hands : IfTold s0 (λ image. HandsAll step failed_step image section done v0 v w0.at w.at)
    pub reads : IfTold s0 (λ image. ReadsAll section image done s0 s)

  pub goes_new : w0 ≡ record { at = section.first; bytes = []; end = section.end } → section.first ≤ section.end → section.end ≤ s0.size → IsOver section w0 s0
  goes_new is order inside = subst (λ w. IsOver section w s0) (sym is) (record { shows = shows_nothing s0 section.first section.end order inside; end = refl; behind = omega arith })

  pub goes_none : IsOver section w0 s0 → length w0.bytes ≡ 0 → Goes hits w0 s0 v0
  goes_none over none = record {
    done = [];
    split = refl;
    over = over;
    none = none;
    rises = rises_nothing section w0 s0;
    hands = λ image told. hands_none step failed_step image section v0 w0.at;
    reads = λ image told. reads_none section image s0;
  }

  module _ (rest : List Hit) (w : Held) (s : Source) (v : V) (g : Goes rest w s v) where
    told_now : (image : List ℕ) → s0.image ≡ Some image → s.image ≡ Some image
    told_now image told = g.rises.reads.keeps.image ∙ told

    pub left_all : (P : Hit → Type 0) → AllByRecursion P hits → AllByRecursion P rest
    left_all P all = all-rest P g.done rest (subst (AllByRecursion P) (sym g.split) all)

    module _ (run later : List Hit) (parts : rest ≡ run ++ later) where
      parted : g.done ++ (run ++ later) ≡ hits
      parted = ap (λ l. g.done ++ l) (sym parts) ∙ g.split

      -- the run in front is done
      pub goes_more : (w' : Held) (s' : Source) (v' : V) → IsOver section w' s' → length w'.bytes ≡ 0 → Rises section w w' s s' → IfTold s (λ image. HandsAll step failed_step image section run v v' w.at w'.at)
          → ((i : ℕ) (a b : Hit) → i + 1 < length run → slice_get run i ≡ Some a → slice_get run (i + 1) ≡ Some b → IsNext a b) → 0 < length run
          → IfTold s (λ image. (place : ℕ → ℕ) → IsContiguous image section run place → Reads (IsInside section.first section.end) s s' (range_with_len (place 0) (place (length run) - place 0)))
          → Goes later w' s' v'
      goes_more w' s' v' over none rises hands nexts some reads = record {
        done = g.done ++ run;
        split = append_assoc g.done run later ∙ parted;
        over = over;
        none = none;
        rises = rises_on section w0 w w' s0 s s' g.rises rises;
        hands = λ image told. hands_on step failed_step image section g.done v0 v w0.at w.at (g.hands image told) run v' w'.at (hands image (told_now image told));
        reads = λ image told. reads_on section image s0 s s' g.done run (g.reads image told) (run_all section image run nexts some s s' (reads image (told_now image told)));
      }

      -- it is not
      module _ (s' : Source) (v' : V) where
        pub goes_part : IfTold s (λ image. HandsPart step failed_step image section run v v' w.at) → IfTold s0 (λ image. HandsPart step failed_step image section hits v0 v' w0.at)
        goes_part part image told = subst (λ hs. HandsPart step failed_step image section hs v0 v' w0.at) parted
            (part_on step failed_step image section g.done v0 v w0.at w.at (g.hands image told) run later v' (part image (told_now image told)))

        pub goes_refused : (broken : Broken) → IfTold s (λ image. RefusesSome step failed_step image section run v v' w.at broken) → IfTold s0 (λ image. RefusesSome step failed_step image section hits v0 v' w0.at broken)
        goes_refused broken refused image told = subst (λ hs. RefusesSome step failed_step image section hs v0 v' w0.at broken) parted
            (refused_on step failed_step image section g.done v0 v w0.at w.at (g.hands image told) run later v' broken (refused image (told_now image told)))

        pub goes_front : ((i : ℕ) (a b : Hit) → i + 1 < length run → slice_get run i ≡ Some a → slice_get run (i + 1) ≡ Some b → IsNext a b) → 0 < length run
            → IfTold s (λ image. (place : ℕ → ℕ) → IsContiguous image section run place → ReadsFront (IsInside section.first section.end) s s' (range_with_len (place 0) (place (length run) - place 0)))
            → IfTold s0 (λ image. ReadsSome section image hits s0 s')
        goes_front nexts some front image told = subst (λ hs. ReadsSome section image hs s0 s') parted
            (reads_then_some section image s0 s s' g.done run later (g.reads image told) (run_some section image run nexts some s s' (front image (told_now image told))))

  -- no hit is left
  module _ (rest : List Hit) (w : Held) (s : Source) (v : V) (g : Goes rest w s v) (none : length rest ≡ 0) where
    all_done : g.done ≡ hits
    all_done = sym (append-nil g.done) ∙ ap (λ l. g.done ++ l) (sym (nil_from_length rest none)) ∙ g.split

    pub goes_hands : IfTold s0 (λ image. HandsAll step failed_step image section hits v0 v w0.at w.at)
    goes_hands image told = subst (λ hs. HandsAll step failed_step image section hs v0 v w0.at w.at) all_done (g.hands image told)

    pub goes_reads : IfTold s0 (λ image. ReadsAll section image hits s0 s)
    goes_reads image told = subst (λ hs. ReadsAll section image hs s0 s) all_done (g.reads image told)

-- ## The run in front

slice_take : (xs : List Hit) (n i : ℕ) (a : Hit) → slice_get (take n xs) i ≡ Some a → slice_get xs i ≡ Some a
slice_take xs zero i a is = absurd (cc is)
slice_take [] (suc n) i a is = is
slice_take (x ∷ xs) (suc n) zero a is = is
slice_take (x ∷ xs) (suc n) (suc i) a is = slice_take xs n i a is

module _ (rest run later : List Hit) (n : ℕ) (front : run ≡ take n rest) (back : later ≡ drop n rest) where
  pub parts_are : rest ≡ run ++ later
  parts_are = sym (take-append-drop n rest) ∙ ap (λ l. l ++ drop n rest) (sym front) ∙ ap (λ l. run ++ l) (sym back)

  pub nexts_are : ((i : ℕ) (a b : Hit) → i + 1 < n → slice_get rest i ≡ Some a → slice_get rest (i + 1) ≡ Some b → IsNext a b)
      → (i : ℕ) (a b : Hit) → i + 1 < length run → slice_get run i ≡ Some a → slice_get run (i + 1) ≡ Some b → IsNext a b
  nexts_are nexts i a b within is_a is_b =
      nexts i a b (omega (arith, within, ap length front, length-take n rest))
      (slice_take rest n i a (ap (λ l. slice_get l i) (sym front) ∙ is_a))
      (slice_take rest n (i + 1) b (ap (λ l. slice_get l (i + 1)) (sym front) ∙ is_b))

-- ## From the leaves of a file

module _ {V : Type 0} (step failed_step : V → Entry → V → Type 0) (section : Section) (hits : List Hit) (at0 : ℕ) (begins : at0 ≡ section.first) (v0 : V) (s0 : Source) where
  -- what is known of the leaves of a file
  abbrev pub OfLeaves : List ℕ → (Shape → List ℕ → Type 0) → Type 0
  OfLeaves image P = (t : Shape) (at : ℕ) (leaves : List ℕ) → AreLeaves image t (header_shown section.header.now) at section.first section.end hits leaves → section.leaves ≡ at + 40 * place_of_node t 0 0 → P t leaves

  module _ (image : List ℕ) (t : Shape) (at : ℕ) (leaves : List ℕ) (are : AreLeaves image t (header_shown section.header.now) at section.first section.end hits leaves) (there : section.leaves ≡ at + 40 * place_of_node t 0 0) where
    are_hits : AreHits image t section hits leaves
    are_hits = record {
      within = record { shown = are.shown; leaves = omega (arith, there, are.begins); first = are.behind; end = are.ends };
      same = are.same;
    }

    behind_none : IsBehind image t 0 at0
    behind_none = at_first (begins ∙ are.behind)

  pub leaves_done : (v : V) (at' : ℕ) → IfTold s0 (λ image. HandsAll step failed_step image section hits v0 v at0 at')
      → IfTold s0 (λ image. OfLeaves image (λ t leaves. Takes step v0 (map (entry_at image t) leaves) v × AllByRecursion (IsMet image t) leaves))
  leaves_done v at' hands image told t at leaves are there =
      let all = hands image told t leaves 0 t.leaves (are_hits image t at leaves are there) are.rising (behind_none image t at leaves are there) in (all.takes, all.met)

  pub leaves_part : (v : V) → IfTold s0 (λ image. HandsPart step failed_step image section hits v0 v at0)
      → IfTold s0 (λ image. OfLeaves image (λ t leaves. TakesPart step failed_step v0 (map (entry_at image t) leaves) v))
  leaves_part v part image told t at leaves are there =
      part image told t leaves 0 t.leaves (are_hits image t at leaves are there) are.rising (behind_none image t at leaves are there)

  pub leaves_refused : (v : V) (broken : Broken) → IfTold s0 (λ image. RefusesSome step failed_step image section hits v0 v at0 broken)
      → IfTold s0 (λ image. OfLeaves image (λ t leaves. (front : List ℕ) × (k : ℕ) × (rest : List ℕ) × (leaves ≡ front ++ k ∷ rest) × BreaksHit image t k broken.place broken.rule × Takes step v0 (map (entry_at image t) front) v))
  leaves_refused v broken refused image told t at leaves are there =
      let r = refused image told t leaves 0 t.leaves (are_hits image t at leaves are there) are.rising (behind_none image t at leaves are there) in
      (r.front, r.number, r.rest, r.split, r.breaks, r.takes)

module _ (section : Section) (hits : List Hit) (s0 s : Source) where
  -- of a file that breaks no rule
  pub leaves_front : IfTold s0 (λ image. ReadsSome section image hits s0 s)
      → IfTold s0 (λ image. (t : Shape) (at : ℕ) (leaves : List ℕ) (pieces : List (List ℕ)) → AreLeaves image t (header_shown section.header.now) at section.first section.end hits leaves → IsFile image (Some t) pieces
      → ReadsFront (IsInside section.first section.end) s0 s (feature_positions image t leaves))
  leaves_front front image told t at leaves pieces are file = front image told t leaves 0 pieces are.behind are.ends are.same are.rising file

  pub leaves_reads : IfTold s0 (λ image. ReadsAll section image hits s0 s)
      → IfTold s0 (λ image. (t : Shape) (at : ℕ) (leaves : List ℕ) (pieces : List (List ℕ)) → AreLeaves image t (header_shown section.header.now) at section.first section.end hits leaves → IsFile image (Some t) pieces
      → Reads (IsInside section.first section.end) s0 s (feature_positions image t leaves))
  leaves_reads reads image told t at leaves pieces are file = reads image told t leaves 0 pieces are.behind are.ends are.same are.rising file

-- whatever the bytes
pub asks_rising : (section : Section) (w0 : Held) (s0 s : Source) → section.first ≤ ahead w0 → RisesPart section w0 s0 s → AsksRising section.first section.end s0 s
asks_rising section w0 s0 s le part = record {
  rising = part.rising;
  rises = ascends_wider (ahead w0) section.first section.end section.end part.rising le (omega arith) part.rises;
  reads = part.reads;
}
