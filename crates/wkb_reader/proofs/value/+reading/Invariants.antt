use Rattle.std.proofs.Common.{◌≡◌, ◌+◌, ◌-◌, ◌*◌, ◌≤◌, [], map}
use Rattle.fgb_schema.specs.Shapes.{no_ordinates, shape, shapes_of}
use Rattle.geometry_view.specs.Kinds.{number_of}
use Rattle.owned_shape.specs.Records.{depth}
use Rattle.wkb_grammar.specs.Grammar.{bytes_of}
use Rattle.wkb_grammar.specs.ShapesShown.{shape_of}
use Rattle.wkb_reader.specs.Broken.{IsMember, level_below}
use Rattle.wkb_reader.specs.Cursors.{TakesEach}
use Rattle.wkb_reader.proofs.value.+reading.Given as goal

abbrev pub decreases-take_value : goal.decreases-take_value
decreases-take_value l = 3 * (17 - l.level) + 2

abbrev pub decreases-take_body : goal.decreases-take_body
decreases-take_body l = 3 * (17 - l.level) + 1

abbrev pub decreases-take_parts : goal.decreases-take_parts
decreases-take_parts l = 3 * (17 - l.level)

abbrev pub invariant-take_parts-loop : goal.invariant-take_parts-loop
invariant-take_parts-loop l =
    TakesEach l.counter l.initial.cursor l.cursor bytes_of (IsMember l.dialect (level_below l.level (number_of l.head.kind)) (number_of l.head.kind) l.head.dimension)
    (λ members. (l.shape ≡ shape (number_of l.head.kind) [] [] no_ordinates (shapes_of (map shape_of members))) × (l.level + depth l.shape ≤ 17))
