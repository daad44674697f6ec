-- What was handed over of the features of several hits, from what was of each.
use Rattle.std.proofs.Common.{◌≡◌, ℕ, ◌+◌, ◌≤◌, List, [], ◌∷◌, ◌++◌, map, refl, sym, ap, subst, ◌∙◌, append_assoc, arith}
use Rattle.std.proofs.lemmas.List.{map-append}
use Rattle.flat_layout.specs.declared.Broken.{Broken}
use Rattle.fgb_outside.specs.Asked.{Ascends}
use Rattle.fgb_outside.proofs.Asking.{AllByRecursion-append}
use Rattle.level_bounds.specs.Levels.{Shape}
use Rattle.fgb_file.specs.File.{node_in}
use Rattle.tree_search.specs.declared.search.Hit.{Hit}
use Rattle.tree_search.specs.Searches.{hit_of}
use Rattle.found_features.specs.Entries.{Entry}
use Rattle.found_features.specs.Visits.{Takes, TakesPart}
use Rattle.found_features.proofs.Taking.{takes-append, part_then, part_longer}
use Rattle.hit_reader.specs.declared.section.Section.{Section}
use Rattle.hit_reader.specs.Met.{BreaksHit, IsMet, entry_at}
use Rattle.hit_reader.specs.Going.{AreHits, Hands, IsBehind, IsSection, at_first, at_end, Refuses}
use Rattle.hit_reader.proofs.Splitting.{ascends_split, hits_split, hits_none, hits_one}

module _ (image : List ℕ) (t : Shape) where
  behind_wider : (k k' at : ℕ) → k ≤ k' → IsBehind image t k at → IsBehind image t k' at
  behind_wider k k' at le (at_first begins) = at_first begins
  behind_wider k k' at le (at_end j earlier fits ends) = at_end j (omega arith) fits ends

module _ {V : Type 0} (step failed_step : V → Entry → V → Type 0) (image : List ℕ) (section : Section) where
  -- what is known where these hits were done, some of them, or were refused: from a place that is behind the leaves in front of them
  abbrev pub HandsAll : List Hit → V → V → ℕ → ℕ → Type 0
  HandsAll hits v v' at at' = (t : Shape) (leaves : List ℕ) (low high : ℕ) → AreHits image t section hits leaves → Ascends low high leaves → IsBehind image t low at → Hands step image t leaves high v v' at'

  abbrev pub HandsPart : List Hit → V → V → ℕ → Type 0
  HandsPart hits v v' at = (t : Shape) (leaves : List ℕ) (low high : ℕ) → AreHits image t section hits leaves → Ascends low high leaves → IsBehind image t low at → TakesPart step failed_step v (map (entry_at image t) leaves) v'

  abbrev pub RefusesSome : List Hit → V → V → ℕ → Broken → Type 0
  RefusesSome hits v v' at broken = (t : Shape) (leaves : List ℕ) (low high : ℕ) → AreHits image t section hits leaves → Ascends low high leaves → IsBehind image t low at → Refuses step image t leaves v v' broken

  -- none
  pub hands_none : (v : V) (at : ℕ) → HandsAll [] v v at at
  hands_none v at t leaves low high are rise behind = subst (λ ks. Hands step image t ks high v v at) (sym none)
      (record { takes = refl; met = tt; behind = behind_wider image t low high at (let le = subst (Ascends low high) none rise in le) behind })
    where
      none : leaves ≡ []
      none = hits_none image t section leaves are

  -- one
  module _ (hit : Hit) (v v' : V) (at : ℕ) where
    one_bound : (low high k : ℕ) (leaves : List ℕ) → leaves ≡ k ∷ [] → Ascends low high leaves → Ascends low high (k ∷ [])
    one_bound low high k leaves is rise = subst (Ascends low high) is rise

    pub hands_one : (at' : ℕ) → ((t : Shape) (k : ℕ) → IsSection image t section → hit ≡ hit_of t (node_in image) 0 k → Hands step image t (k ∷ []) (k + 1) v v' at') → HandsAll (hit ∷ []) v v' at at'
    hands_one at' hands t leaves low high are rise behind =
        let one = hits_one image t section hit leaves are in
        let bound = one_bound low high one.0 leaves one.1 rise in
        let taken = hands t one.0 are.within one.2 in
        subst (λ ks. Hands step image t ks high v v' at') (sym one.1) (record { takes = taken.takes; met = taken.met; behind = behind_wider image t (one.0 + 1) high at' bound.1 taken.behind })

    pub part_one : ((t : Shape) (k : ℕ) → IsSection image t section → hit ≡ hit_of t (node_in image) 0 k → TakesPart step failed_step v (entry_at image t k ∷ []) v') → HandsPart (hit ∷ []) v v' at
    part_one part t leaves low high are rise behind =
        let one = hits_one image t section hit leaves are in
        subst (λ ks. TakesPart step failed_step v (map (entry_at image t) ks) v') (sym one.1) (part t one.0 are.within one.2)

    pub refused_one : (broken : Broken) → v' ≡ v → ((t : Shape) (k : ℕ) → IsSection image t section → hit ≡ hit_of t (node_in image) 0 k → IsBehind image t k at → BreaksHit image t k broken.place broken.rule) → RefusesSome (hit ∷ []) v v' at broken
    refused_one broken same breaks t leaves low high are rise behind =
        let one = hits_one image t section hit leaves are in
        let bound = one_bound low high one.0 leaves one.1 rise in
        record { front = []; number = one.0; rest = []; split = one.1; breaks = breaks t one.0 are.within one.2 (behind_wider image t low one.0 at bound.0 behind); takes = sym same }

  -- some, and then more
  module _ (xs : List Hit) (v0 v : V) (at0 at : ℕ) (first : HandsAll xs v0 v at0 at) where
    pub hands_on : (ys : List Hit) (w : V) (at' : ℕ) → HandsAll ys v w at at' → HandsAll (xs ++ ys) v0 w at0 at'
    hands_on ys w at' second t leaves low high are rise behind =
        let parts = hits_split image t section xs ys leaves are in
        let rises = ascends_split low high parts.front parts.back (subst (Ascends low high) parts.split rise) in
        let one = first t parts.front low rises.0 parts.of_front rises.1 behind in
        let two = second t parts.back rises.0 high parts.of_back rises.2 one.behind in
        subst (λ ks. Hands step image t ks high v0 w at') (sym parts.split) (record {
          takes = subst (λ es. Takes step v0 es w) (sym (map-append (entry_at image t) parts.front parts.back)) (takes-append step v0 v w (map (entry_at image t) parts.front) (map (entry_at image t) parts.back) one.takes two.takes);
          met = AllByRecursion-append (IsMet image t) parts.front parts.back one.met two.met;
          behind = two.behind;
        })

    module _ (ys zs : List Hit) (w : V) where
      pub part_on : HandsPart ys v w at → HandsPart (xs ++ (ys ++ zs)) v0 w at0
      part_on second t leaves low high are rise behind =
          let parts = hits_split image t section xs (ys ++ zs) leaves are in
          let more = hits_split image t section ys zs parts.back parts.of_back in
          let rises = ascends_split low high parts.front parts.back (subst (Ascends low high) parts.split rise) in
          let rises_more = ascends_split rises.0 high more.front more.back (subst (Ascends rises.0 high) more.split rises.2) in
          let one = first t parts.front low rises.0 parts.of_front rises.1 behind in
          let two = second t more.front rises.0 rises_more.0 more.of_front rises_more.1 one.behind in
          let e = entry_at image t in
          let same : map e parts.front ++ (map e more.front ++ map e more.back) ≡ map e leaves =
          ap (λ l. map e parts.front ++ l) (sym (map-append e more.front more.back) ∙ ap (map e) (sym more.split)) ∙ sym (map-append e parts.front parts.back) ∙ ap (map e) (sym parts.split) in
          subst (λ es. TakesPart step failed_step v0 es w) same
          (part_then step failed_step v0 v w (map e parts.front) (map e more.front ++ map e more.back) one.takes (part_longer step failed_step v w (map e more.front) (map e more.back) two))

      pub refused_on : (broken : Broken) → RefusesSome ys v w at broken → RefusesSome (xs ++ (ys ++ zs)) v0 w at0 broken
      refused_on broken second t leaves low high are rise behind =
          let parts = hits_split image t section xs (ys ++ zs) leaves are in
          let more = hits_split image t section ys zs parts.back parts.of_back in
          let rises = ascends_split low high parts.front parts.back (subst (Ascends low high) parts.split rise) in
          let rises_more = ascends_split rises.0 high more.front more.back (subst (Ascends rises.0 high) more.split rises.2) in
          let one = first t parts.front low rises.0 parts.of_front rises.1 behind in
          let two = second t more.front rises.0 rises_more.0 more.of_front rises_more.1 one.behind in
          record {
            front = parts.front ++ two.front;
            number = two.number;
            rest = two.rest ++ more.back;
            split =
                parts.split
                ∙ ap (λ l. parts.front ++ l) (more.split ∙ ap (λ l. l ++ more.back) two.split ∙ append_assoc two.front (two.number ∷ two.rest) more.back)
                ∙ sym (append_assoc parts.front two.front (two.number ∷ (two.rest ++ more.back)));
            breaks = two.breaks;
            takes = subst (λ es. Takes step v0 es w) (sym (map-append (entry_at image t) parts.front two.front)) (takes-append step v0 v w (map (entry_at image t) parts.front) (map (entry_at image t) two.front) one.takes two.takes);
          }
