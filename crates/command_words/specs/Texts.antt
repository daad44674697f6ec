-- The texts on the error sink.
use Rattle.std.specs.Prelude.{◌⊎◌, ℕ, ◌≤◌, List, [], ◌∷◌, ◌++◌, codes, decimal, Result, OnOk, OnErr}
use Rattle.fgb_outside.specs.Source.{Rose}
use Rattle.fgb_outside.specs.Sink.{Sink, Appends, AppendsPart}
use Rattle.flat_layout.specs.declared.Broken.{Broken}
use Rattle.flat_layout.specs.Rules.{name_of}

-- the text of a refusal: the rule that is broken, and the place, counted from the file's first byte
unfoldable pub refusal_text : Broken → List ℕ
refusal_text broken = codes "refused: " ++ name_of broken.rule ++ codes " at " ++ decimal broken.place ++ 10 ∷ []

unfoldable pub usage_text : List ℕ
usage_text = codes "usage: fgb COMMAND FILE --name=value\n"

unfoldable pub source_text : List ℕ
source_text = codes "source failed\n"

unfoldable pub sink_text : List ℕ
sink_text = codes "sink failed\n"

unfoldable pub memory_text : List ℕ
memory_text = codes "out of memory\n"

unfoldable pub too_large_text : List ℕ
too_large_text = codes "too large\n"

-- one of the counts of a sink has risen
abbrev pub CountRose : Sink → Sink → Type 0
CountRose old new = Rose old.faults new.faults ⊎ Rose old.wants new.wants

-- the text was written, or a front of it where one of the sink's counts rose
pub record Tells (old new : Sink) (text : List ℕ) : Type 0 where
  pub part : AppendsPart old new text
  pub whole : Appends old new text ⊎ CountRose old new

-- what a call that writes a text leaves
pub record Writing {T E : Type 0} (old new : Sink) (text : List ℕ) (result : Result T E) : Type 0 where
  pub whole : OnOk result (Appends old new text)
  pub part : AppendsPart old new text
  pub rose : OnErr result (CountRose old new)
  pub later : old.faults ≤ new.faults
  pub later_wants : old.wants ≤ new.wants
