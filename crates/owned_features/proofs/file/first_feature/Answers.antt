use Rattle.level_bounds.specs.Shapes.{shape_of}
use Rattle.owned_features.proofs.Whole.{first_behind, first_without}
use Rattle.owned_features.proofs.file.first_feature.Goals as goal

pub returns-in-Some-clause-judged : goal.returns-in-Some-clause-judged
returns-in-Some-clause-judged c = λ image index pieces file shown behind whole.
    first_behind image index pieces c.args.place c.nodes.result (shape_of c.in-Some.levels) file behind
    (rw c.in-Some.is at (c.in_ok-levels.ensures.judged image file.opened.header shown behind whole)) c.nodes.ensures.nodes

pub returns-in-None-clause-judged : goal.returns-in-None-clause-judged
returns-in-None-clause-judged c = λ image index pieces file shown behind whole.
    first_without image index pieces c.args.place file behind (rw c.in-None.is at (c.in_ok-levels.ensures.judged image file.opened.header shown behind whole))
