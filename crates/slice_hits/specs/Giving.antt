-- What an iterator over the features that meet one of several boxes gives, call by call.
use Rattle.std.specs.Prelude.{◌≡◌, ℕ, List, [], ◌∷◌, ◌++◌, map, Option, Some, None, Result, Ok, Err}
use Rattle.flat_layout.specs.declared.Broken.{Broken}
use Rattle.order_keys.specs.declared.bounds.Bounds.{Bounds}
use Rattle.found_features.specs.Entries.{Entry}
use Rattle.found_features.specs.Lent.{entry_of}
use Rattle.found_features.specs.declared.visitor.Found.{Found}
use Rattle.box_query.specs.Answers.{Answers, AnswersPart}
use Rattle.slice_hits.specs.declared.hits.Hits.{Hits}
use Rattle.slice_hits.specs.declared.walk.Walk.{Walk}
use Rattle.slice_hits.specs.declared.walk.Walk.TheVariants.{Over, Scanning, Searching}
use Rattle.slice_hits.specs.Answering.{Refuses}
use Rattle.slice_hits.specs.Scanning.{Stands as StandsInScan, left as left_of_scan}
use Rattle.slice_hits.specs.Searching.{Stands as StandsInSearch, left as left_of_search}

-- a walk through these bytes for these boxes has found these entries so far, and breaks off or ends behind none of them
abbrev pub WalkStands : List ℕ → List Bounds → List Entry → Walk → Type 0
WalkStands image boxes entries Over = ⊥
WalkStands image boxes entries (Scanning scan) = StandsInScan image boxes entries scan
WalkStands image boxes entries (Searching search) = StandsInSearch image boxes entries search

abbrev pub walk_left : Walk → ℕ
walk_left Over = 0
walk_left (Scanning scan) = left_of_scan scan
walk_left (Searching search) = left_of_search search

-- an iterator over the features of these bytes that meet one of these boxes has given these
abbrev pub HasGiven : List ℕ → List Bounds → List Entry → Hits → Type 0
HasGiven image boxes entries hits = WalkStands image boxes entries hits.walk

-- it gives nothing more
abbrev pub IsOver : Hits → Type 0
IsOver hits = hits.walk ≡ Over

-- no more items come
abbrev pub left : Hits → ℕ
left hits = walk_left hits.walk

-- behind these entries it gives this: the next of them; what is broken, and nothing after that; or nothing, where they are
-- all that is found, and no rule is broken in what was met
abbrev pub Gives : List ℕ → List Bounds → List Entry → Option (Result Found Broken) → Hits → Type 0
Gives image boxes entries (Some (Ok found)) hits = HasGiven image boxes (entries ++ entry_of found ∷ []) hits
Gives image boxes entries (Some (Err broken)) hits = Refuses image boxes broken entries × IsOver hits
Gives image boxes entries None hits = Answers image boxes entries × IsOver hits

-- one call: what it gives behind whatever it has given; and nothing where it is over
pub record IsStep (before : Hits) (item : Option (Result Found Broken)) (after : Hits) : Type 0 where
  pub gives : (image : List ℕ) (boxes : List Bounds) (entries : List Entry) → HasGiven image boxes entries before → Gives image boxes entries item after
  pub rests : IsOver before → (item ≡ None) × IsOver after

-- an item, without what it is lent from
abbrev pub outcome : Result Found Broken → Result Entry Broken
outcome (Ok found) = Ok (entry_of found)
outcome (Err broken) = Err broken

-- these items were given: some of what is found, from the first on; and, at last, what is broken behind that
pub data IsGiven (image : List ℕ) (boxes : List Bounds) : List (Result Entry Broken) → Type 0 where
  some : (entries rest : List Entry) → AnswersPart image boxes (entries ++ rest) → IsGiven image boxes (map Ok entries)
  refused : (entries : List Entry) (broken : Broken) → Refuses image boxes broken entries → IsGiven image boxes (map Ok entries ++ Err broken ∷ [])

-- and no more come: they are all that is found, and no rule is broken in what was met; or one is
pub data AllGiven (image : List ℕ) (boxes : List Bounds) : List (Result Entry Broken) → Type 0 where
  all : (entries : List Entry) → Answers image boxes entries → AllGiven image boxes (map Ok entries)
  refused : (entries : List Entry) (broken : Broken) → Refuses image boxes broken entries → AllGiven image boxes (map Ok entries ++ Err broken ∷ [])
