-- What a window over the features asks for to have one of them.
use Rattle.std.specs.Prelude.{◌≡◌, ℕ, ◌-◌, ◌≤◌}
use Rattle.std.specs.List.{range_with_len}
use Rattle.fgb_outside.specs.Source.{Source}
use Rattle.fgb_outside.specs.Asked.{IsInside, Reads, ReadsFront}
use Rattle.section_window.specs.Window.{ahead, Shows}
use Rattle.gap_window.specs.Bridging.{Bridging, asks_from}
use Rattle.hit_reader.specs.declared.section.Section.{Section}
use Rattle.std.specs.Prelude.{true}

-- the window goes over the features, and shows the source
pub record IsOver (section : Section) (w : Bridging) (source : Source) : Type 0 where
  pub shows : Shows w.held source
  pub end : w.held.end ≡ section.end
  pub behind : section.first ≤ w.held.at

-- it went on to this place, and asked for what lay between
pub record Fetches (section : Section) (w w' : Bridging) (s s' : Source) (target : ℕ) : Type 0 where
  pub at : w'.held.at ≡ target
  pub begun : w'.begun ≡ true
  pub reads : Reads (IsInside section.first section.end) s s' (range_with_len (asks_from w target) (ahead w'.held - asks_from w target))
  pub on : asks_from w target ≤ ahead w'.held
  pub onward : ahead w.held ≤ ahead w'.held

-- a front of what lies up to this place was asked for
abbrev pub FetchesPart : Section → Bridging → Source → Source → ℕ → ℕ → Type 0
FetchesPart section w s s' target till = ReadsFront (IsInside section.first section.end) s s' (range_with_len (asks_from w target) (till - asks_from w target))
