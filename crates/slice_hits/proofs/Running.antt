-- Several calls, one after another.
use Rattle.std.proofs.Common.{◌≡◌, ◌⊎◌, ℕ, List, [], ◌∷◌, ◌++◌, map, true, Option, Some, None, Result, Ok, Err, IfOk, refl, sym, ap, subst, ◌∙◌, inl, inr, append-nil, append_assoc}
use Rattle.std.specs.Iterator.{Drains, Yields}
use Rattle.std.specs.List.{AllByRecursion}
use Rattle.flat_layout.specs.declared.Broken.{Broken}
use Rattle.order_keys.specs.declared.bounds.Bounds.{Bounds}
use Rattle.box_list.specs.Lists.{meets_any}
use Rattle.level_bounds.specs.Levels.{Shape}
use Rattle.fgb_file.specs.File.{IsFile, header_in}
use Rattle.found_features.specs.Entries.{Entry, found}
use Rattle.found_features.specs.Lent.{entry_of}
use Rattle.found_features.specs.declared.visitor.Found.{Found}
use Rattle.feature_scan.specs.Scans.{part}
use Rattle.box_query.specs.Answers.{Answers, AnswersPart, scanned, Refuses as QueryRefuses, in_scan as query_in_scan, at_node as query_at_node, at_leaf as query_at_leaf}
use Rattle.slice_hits.specs.declared.hits.Hits.{Hits}
use Rattle.slice_hits.specs.declared.walk.Walk.{Walk}
use Rattle.slice_hits.specs.declared.walk.Walk.TheVariants.{Over, Scanning, Searching}
use Rattle.slice_hits.specs.Answering.{Refuses, in_scan, at_node, at_leaf}
use Rattle.slice_hits.specs.Giving.{AllGiven, all, refused as all_refused, HasGiven, IsGiven, some, refused, IsOver, IsStep, WalkStands, outcome}
use Rattle.slice_hits.proofs.Stepping.{before_search}
use Rattle.slice_hits.proofs.Meeting.{last_meets}

-- what has been given is a front of what is found
walk_front : (image : List ℕ) (boxes : List Bounds) (entries : List Entry) (walk : Walk) → WalkStands image boxes entries walk → (rest : List Entry) × AnswersPart image boxes (entries ++ rest)
walk_front image boxes entries Over stands = absurd stands
walk_front image boxes entries (Scanning scan) stands = ([], subst (AnswersPart image boxes) (sym stands.given ∙ sym (append-nil entries)) (scanned (part stands.passes)))
walk_front image boxes entries (Searching through) stands = before_search image boxes entries through stands

module _ (image : List ℕ) (boxes : List Bounds) where
  -- these were given behind the entries, and it goes on
  record On (entries : List Entry) (items : List (Result Found Broken)) (rest : Hits) : Type 0 where
    pub new : List Entry
    pub same : map outcome items ≡ map Ok new
    pub given : HasGiven image boxes (entries ++ new) rest

  -- or something is broken behind them
  record Off (entries : List Entry) (items : List (Result Found Broken)) (rest : Hits) : Type 0 where
    pub new : List Entry
    pub broken : Broken
    pub same : map outcome items ≡ map Ok new ++ Err broken ∷ []
    pub refuses : Refuses image boxes broken (entries ++ new)
    pub over : IsOver rest

  none_over : (items : List (Result Found Broken)) (hits rest : Hits) → IsOver hits → Yields IsStep hits items rest → (items ≡ []) × IsOver rest
  none_over [] hits rest over same = (refl, ap (λ (h : Hits). h.walk) (sym same) ∙ over)
  none_over (x ∷ items) hits rest over ran = absurd (let e = (ran.1.rests over).0 in not_none x e)
    where
      not_none : (x : Result Found Broken) → Some x ≡ None → ⊥
      not_none x e = cc

  one_more : (entries : List Entry) (it : Found) (items : List (Result Found Broken)) (rest : Hits) → On (entries ++ entry_of it ∷ []) items rest ⊎ Off (entries ++ entry_of it ∷ []) items rest
      → On entries (Ok it ∷ items) rest ⊎ Off entries (Ok it ∷ items) rest
  one_more entries it items rest (inl on) = inl (record {
    new = entry_of it ∷ on.new;
    same = ap (λ (l : List (Result Entry Broken)). Ok (entry_of it) ∷ l) on.same;
    given = subst (λ es. HasGiven image boxes es rest) (append_assoc entries (entry_of it ∷ []) on.new) on.given;
  })
  one_more entries it items rest (inr off) = inr (record {
    new = entry_of it ∷ off.new;
    broken = off.broken;
    same = ap (λ (l : List (Result Entry Broken)). Ok (entry_of it) ∷ l) off.same;
    refuses = subst (Refuses image boxes off.broken) (append_assoc entries (entry_of it ∷ []) off.new) off.refuses;
    over = off.over;
  })

  run : (entries : List Entry) (items : List (Result Found Broken)) (hits rest : Hits) → HasGiven image boxes entries hits → Yields IsStep hits items rest
      → On entries items rest ⊎ Off entries items rest
  run entries [] hits rest given same = inl (record { new = []; same = refl; given = subst (λ es. HasGiven image boxes es rest) (sym (append-nil entries)) (subst (HasGiven image boxes entries) same given) })
  run entries (Ok it ∷ items) hits rest given ran = one_more entries it items rest (run (entries ++ entry_of it ∷ []) items ran.0 rest (ran.1.gives image boxes entries given) ran.2)
  run entries (Err broken ∷ items) hits rest given ran =
      let gives = ran.1.gives image boxes entries given in
      let none = none_over items ran.0 rest gives.1 ran.2 in
      inr (record {
        new = [];
        broken = broken;
        same = ap (λ (l : List (Result Entry Broken)). Err broken ∷ l) (ap (map outcome) none.0);
        refuses = subst (Refuses image boxes broken) (sym (append-nil entries)) gives.0;
        over = none.1;
      })

  pub given_some : (hits rest : Hits) (items : List (Result Found Broken)) → HasGiven image boxes [] hits → Yields IsStep hits items rest → IsGiven image boxes (map outcome items)
  given_some hits rest items given ran = elim (run [] items hits rest given ran) [
    | inl on ↦ let front = walk_front image boxes on.new rest.walk on.given in subst (IsGiven image boxes) (sym on.same) (some on.new front.0 front.1)
    | inr off ↦ subst (IsGiven image boxes) (sym off.same) (refused off.new off.broken off.refuses)
  ]

  pub given_all : (hits : Hits) (items : List (Result Found Broken)) → HasGiven image boxes [] hits → Drains IsStep hits items → AllGiven image boxes (map outcome items)
  given_all hits items given drains = elim (run [] items hits drains.1.0 given drains.1.1) [
    | inl on ↦ subst (AllGiven image boxes) (sym on.same) (all on.new (drains.1.2.gives image boxes on.new on.given).0)
    | inr off ↦ subst (AllGiven image boxes) (sym off.same) (all_refused off.new off.broken off.refuses)
  ]

  -- the own boxes of what was given meet one of the boxes
  meeting : (entries : List Entry) (items : List (Result Found Broken)) (hits rest : Hits) → HasGiven image boxes entries hits → Yields IsStep hits items rest
      → AllByRecursion (λ item. IfOk item (λ (found : Found). meets_any boxes found.bounds ≡ true)) items
  meeting entries [] hits rest given ran = tt
  meeting entries (Ok it ∷ items) hits rest given ran =
      let gives = ran.1.gives image boxes entries given in
      (last_meets image boxes entries (entry_of it) ran.0.walk gives, meeting (entries ++ entry_of it ∷ []) items ran.0 rest gives ran.2)
  meeting entries (Err broken ∷ items) hits rest given ran =
      let gives = ran.1.gives image boxes entries given in
      let none = none_over items ran.0 rest gives.1 ran.2 in
      (tt, subst (AllByRecursion (λ item. IfOk item (λ (found : Found). meets_any boxes found.bounds ≡ true))) (sym none.0) tt)

  pub given_meets : (hits rest : Hits) (items : List (Result Found Broken)) → HasGiven image boxes [] hits → Yields IsStep hits items rest
      → AllByRecursion (λ item. IfOk item (λ (found : Found). meets_any boxes found.bounds ≡ true)) items
  given_meets hits rest items given ran = meeting [] items hits rest given ran

  -- a query would refuse the file, too
  query_refuses : (broken : Broken) (entries : List Entry) → Refuses image boxes broken entries → (es : List Entry) × QueryRefuses image boxes broken es
  query_refuses broken entries (in_scan refuses) = (_, query_in_scan refuses)
  query_refuses broken entries (at_node front rest opened split breaks) = ([], query_at_node opened breaks)
  query_refuses broken entries (at_leaf front rest k opened split breaks) = (_, query_at_leaf front rest k opened split breaks)

  pub given_found : (index : Option Shape) (pieces : List (List ℕ)) (items : List (Result Entry Broken)) → IsFile image index pieces
      → ((entries : List Entry) → Answers image boxes entries → entries ≡ found (header_in image) boxes pieces) → ((broken : Broken) (entries : List Entry) → QueryRefuses image boxes broken entries → ⊥)
      → AllGiven image boxes items → items ≡ map Ok (found (header_in image) boxes pieces)
  given_found index pieces items file whole never (all entries answers) = ap (map Ok) (whole entries answers)
  given_found index pieces items file whole never (all_refused entries broken refuses) = let query = query_refuses broken entries refuses in absurd (never broken query.0 query.1)
