-- Copying by pages.
use Rattle.std.specs.Prelude.{◌≡◌, ℕ, ◌+◌, List, ◌++◌}
use Rattle.std.specs.List.{flat_map}
use Rattle.fgb_outside.specs.Sink.{Sink, Appends}
use Rattle.feature_spans.specs.declared.features.Span.{Span}
use Rattle.feature_spans.specs.Spans.{bytes_at}

-- what was written, and what stands on the page now, are these bytes
pub record Holds (old new : Sink) (page bytes : List ℕ) : Type 0 where
  pub written : List ℕ
  pub appends : Appends old new written
  pub whole : written ++ page ≡ bytes

-- the second part stands behind the first, and this is both
pub record IsJoined (first second both : Span) : Type 0 where
  pub behind : second.at ≡ first.at + first.len
  pub at : both.at ≡ first.at
  pub len : both.len ≡ first.len + second.len

-- the bytes of the parts in front of those that are left were written, or stand on the page
pub record Copies (image : List ℕ) (old new : Sink) (page : List ℕ) (spans rest : List Span) : Type 0 where
  pub done : List ℕ
  pub holds : Holds old new page done
  pub whole : done ++ flat_map (bytes_at image) rest ≡ flat_map (bytes_at image) spans
