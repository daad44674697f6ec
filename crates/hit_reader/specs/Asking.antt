-- What is asked for of the features that stand where leaves say.
use Rattle.std.specs.Prelude.{ℕ, ◌+◌, List}
use Rattle.std.specs.List.{flat_map, range_with_len}
use Rattle.level_bounds.specs.Levels.{Shape}
use Rattle.fgb_outside.specs.Source.{Source}
use Rattle.fgb_outside.specs.Asked.{IsInside, ReadsFront, Ascends}
use Rattle.fgb_file.specs.File.{size_at, leaf_target}

-- the positions of their size prefixes and buffers
unfoldable pub feature_positions : List ℕ → Shape → List ℕ → List ℕ
feature_positions image t leaves = flat_map (λ k. range_with_len (leaf_target image t k) (4 + size_at image (leaf_target image t k))) leaves

-- positions of a section that rise, none twice, or a front of them, were asked for
pub record AsksRising (from end : ℕ) (s s' : Source) : Type 0 where
  pub rising : List ℕ
  pub rises : Ascends from end rising
  pub reads : ReadsFront (IsInside from end) s s' rising
