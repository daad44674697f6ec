use Rattle.std.proofs.Common.{subst}
use Rattle.slice_hits.specs.Giving.{WalkStands}
use Rattle.slice_hits.proofs.walk.Walk.advance.Goals as goal

pub returns-in-Searching-clause-goes : goal.returns-in-Searching-clause-goes
returns-in-Searching-clause-goes c = λ image boxes entries stands. c.advance-in-Searching.ensures.goes image boxes entries (subst (WalkStands image boxes entries) c.in-Searching.is stands)
