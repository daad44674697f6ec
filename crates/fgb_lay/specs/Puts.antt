-- Bytes that are put on a page one after another.
use Rattle.std.specs.Prelude.{◌≡◌, ℕ, List, ◌++◌}
use Rattle.fgb_outside.specs.Sink.{Sink}
use Rattle.sink_page.specs.Pages.{Adds}

-- all of these bytes were put but for those that are left
pub record Puts (old new : Sink) (page page' left all : List ℕ) : Type 0 where
  pub done : List ℕ
  pub adds : Adds old new page page' done
  pub whole : done ++ left ≡ all
