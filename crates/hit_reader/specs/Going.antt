-- Going through the features where leaves say: where the window stands, what was handed over, and what refuses a leaf.
use Rattle.std.specs.Prelude.{◌≡◌, ℕ, ◌+◌, ◌<◌, ◌≤◌, List, ◌∷◌, ◌++◌, length, map, slice_get, Some}
use Rattle.std.specs.List.{AllByRecursion}
use Rattle.flat_layout.specs.declared.Broken.{Broken}
use Rattle.level_bounds.specs.Levels.{Shape}
use Rattle.fgb_outside.specs.Source.{Source}
use Rattle.section_window.specs.Window.{Held, Shows}
use Rattle.fgb_header.specs.Views.{header_shown}
use Rattle.fgb_file.specs.File.{header_in, first_place, node_in, leaf_target, size_at}
use Rattle.tree_search.specs.declared.search.Hit.{Hit}
use Rattle.tree_search.specs.Searches.{hit_of}
use Rattle.found_features.specs.Entries.{Entry}
use Rattle.found_features.specs.Visits.{Takes}
use Rattle.hit_reader.specs.declared.section.Section.{Section}
use Rattle.hit_reader.specs.Met.{BreaksHit, IsMet, entry_at, leaf_place}

-- the features are those of a file whose index has this tree
pub record IsSection (image : List ℕ) (t : Shape) (section : Section) : Type 0 where
  pub shown : header_shown section.header.now ≡ header_in image
  pub leaves : section.leaves ≡ leaf_place image t 0
  pub first : section.first ≡ first_place image (Some t)
  pub end : section.end ≡ length image

-- the hits are these leaves
pub record AreHits (image : List ℕ) (t : Shape) (section : Section) (hits : List Hit) (leaves : List ℕ) : Type 0 where
  pub within : IsSection image t section
  pub same : hits ≡ map (hit_of t (node_in image) 0) leaves

-- the window goes over the features, and shows the source
pub record IsOver (section : Section) (w : Held) (source : Source) : Type 0 where
  pub shows : Shows w source
  pub end : w.end ≡ section.end
  pub behind : section.first ≤ w.at

-- at this place the first feature stands, or one ends that stands where a leaf in front of leaf k says
pub data IsBehind (image : List ℕ) (t : Shape) (k at : ℕ) : Type 0 where
  at_first : at ≡ first_place image (Some t) → IsBehind image t k at
  at_end : (j : ℕ) → j < k → leaf_target image t j + 4 ≤ length image → at ≡ leaf_target image t j + 4 + size_at image (leaf_target image t j) → IsBehind image t k at

-- the features of these leaves, which stand in front of leaf k, were handed over, and the window came to this place
pub record Hands {V : Type 0} (step : V → Entry → V → Type 0) (image : List ℕ) (t : Shape) (leaves : List ℕ) (k : ℕ) (v v' : V) (at : ℕ) : Type 0 where
  pub takes : Takes step v (map (entry_at image t) leaves) v'
  pub met : AllByRecursion (IsMet image t) leaves
  pub behind : IsBehind image t k at

-- it was refused at one of these leaves, and the features of those in front of it were handed over
pub record Refuses {V : Type 0} (step : V → Entry → V → Type 0) (image : List ℕ) (t : Shape) (leaves : List ℕ) (v v' : V) (broken : Broken) : Type 0 where
  pub front : List ℕ
  pub number : ℕ
  pub rest : List ℕ
  pub split : leaves ≡ front ++ number ∷ rest
  pub breaks : BreaksHit image t number broken.place broken.rule
  pub takes : Takes step v (map (entry_at image t) front) v'

-- the features where these leaves say stand one behind another, at these places, and the last ends at the place behind them
pub record IsContiguous (image : List ℕ) (section : Section) (hits : List Hit) (place : ℕ → ℕ) : Type 0 where
  pub ends : section.end ≡ length image
  pub there : (i : ℕ) (hit : Hit) → slice_get hits i ≡ Some hit → section.first + hit.item.offset ≡ place i
  pub next : (i : ℕ) → i < length hits → place (i + 1) ≡ place i + 4 + size_at image (place i)

-- the second leaf is the next one behind the first, and says a later place
abbrev pub IsNext : Hit → Hit → Type 0
IsNext a b = (a.number + 1 ≡ b.number) × (a.item.offset < b.item.offset)
