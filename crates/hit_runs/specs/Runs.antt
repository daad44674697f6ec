-- Going through the features of leaves that were found.
use Rattle.std.specs.Prelude.{◌≡◌, ℕ, ◌+◌, ◌-◌, ◌*◌, ◌<◌, ◌≤◌, ◌^◌, if◌then◌else◌, List, ◌++◌, length, drop, slice_get, slice_range, Option, Some, None}
use Rattle.std.specs.List.{AllByRecursion, range_with_len}
use Rattle.flat_layout.specs.declared.Broken.{Broken}
use Rattle.level_bounds.specs.Levels.{Shape}
use Rattle.fgb_outside.specs.Source.{Source, IfTold}
use Rattle.fgb_outside.specs.Asked.{IsInside, Reads}
use Rattle.section_window.specs.Window.{ahead}
use Rattle.gap_window.specs.Gaps.{bridged_behind}
use Rattle.fgb_header.specs.Views.{header_shown}
use Rattle.found_features.specs.Entries.{Entry, IsSound}
use Rattle.hit_reader.specs.declared.section.Section.{Section}
use Rattle.hit_reader.specs.Going.{IsBehind, IsSection}
use Rattle.hit_reader.specs.Met.{BreaksHit, IsMet, entry_at}
use Rattle.box_search.specs.declared.nodes.Hit.{Hit}
use Rattle.hit_runs.specs.declared.runs.HitRuns.{HitRuns}
use Rattle.hit_runs.specs.Laid.{hit_positions}
use Rattle.hit_runs.specs.Leaves.{IsLeaf, IsDue}
use Rattle.hit_runs.specs.Fetching.{IsOver}

-- the place behind the feature that is lent
abbrev pub next_of : HitRuns → ℕ
next_of runs = runs.window.held.at + runs.len

-- the leaves whose features are still to come
abbrev pub rest_of : HitRuns → List Hit
rest_of runs = drop runs.given runs.hits.items

-- the feature that is lent
abbrev pub entry_of : HitRuns → Entry
entry_of runs = record { number = runs.number; offset = runs.offset; buffer = slice_range runs.window.held.bytes 4 runs.len; own = runs.bounds }

-- it goes over the features of the section, and shows the source
pub record Goes (section : Section) (runs : HitRuns) (source : Source) : Type 0 where
  pub over : IsOver section runs.window source
  pub leaves : AllByRecursion (λ hit. section.leaves + 40 * hit.number ≤ 2 ^ 48) runs.hits.items

-- the leaf whose feature is due
abbrev pub IsTurn : HitRuns → Hit → Type 0
IsTurn runs hit = slice_get runs.hits.items runs.given ≡ Some hit

-- it came to the feature that was due, that of the leaf whose place in the list is the number of those given before;
-- whatever the bytes, what it lends breaks no rule under the section's header
pub record ComesTo (section : Section) (runs runs' : HitRuns) (s : Source) : Type 0 where
  pub hit : Hit
  pub turn : IsTurn runs hit
  pub given : runs'.given ≡ runs.given + 1
  pub some : 4 ≤ runs'.len
  pub sound : IsSound (header_shown section.header.now) (entry_of runs')
  pub lends : IfTold s (λ image. (t : Shape) (k : ℕ) → IsSection image t section → IsLeaf image t hit k
      → (entry_of runs' ≡ entry_at image t k) × IsMet image t k × IsBehind image t (k + 1) (next_of runs'))

-- none was left
pub record HasEnded (runs runs' : HitRuns) : Type 0 where
  pub given : runs.given ≡ length runs.hits.items
  pub same : runs'.given ≡ runs.given
  pub place : next_of runs' ≡ next_of runs

-- a feature was due, and the same is due again
pub record IsAgain (section : Section) (runs runs' : HitRuns) (s : Source) : Type 0 where
  pub left : runs.given < length runs.hits.items
  pub given : runs'.given ≡ runs.given
  pub due : IfTold s (λ image. (t : Shape) (k : ℕ) (hit : Hit) → IsSection image t section → IsTurn runs hit → IsLeaf image t hit k
      → IsDue image t k (next_of runs) → IsDue image t k (next_of runs'))

-- what is broken at the leaf that is due, or at its feature
abbrev pub RefusesTurn : Section → HitRuns → Broken → List ℕ → Type 0
RefusesTurn section runs broken image = (t : Shape) (k : ℕ) (hit : Hit) → IsSection image t section → IsTurn runs hit → IsLeaf image t hit k
    → IsDue image t k (next_of runs) → BreaksHit image t k broken.place broken.rule

-- these positions are still to be asked for: with what is held behind the feature that is lent, they are those of the
-- features to come, and of the holes between them and in front of them that are shorter than the gap
abbrev pub last_place : HitRuns → Option ℕ
last_place runs = if runs.window.begun then Some (next_of runs) else None

abbrev pub Owes : List ℕ → ℕ → HitRuns → List ℕ → Type 0
Owes image first runs due = range_with_len (next_of runs) (ahead runs.window.held - next_of runs) ++ due ≡ bridged_behind runs.window.gap (last_place runs) (hit_positions image first (rest_of runs))

-- just a front of what is owed was asked for, and this is left
pub record Pays (image : List ℕ) (section : Section) (runs' : HitRuns) (s s' : Source) (due : List ℕ) : Type 0 where
  pub asked : List ℕ
  pub left : List ℕ
  pub reads : Reads (IsInside section.first section.end) s s' asked
  pub parts : asked ++ left ≡ due
  pub owes : Owes image section.first runs' left
