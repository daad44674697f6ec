-- A shape is deeper than each of its parts.
use Rattle.std.specs.Prelude.{◌+◌, ◌≤◌, List, [], ◌∷◌}
use Rattle.std.proofs.Common.{arith}
use denote.Param.Weighed.{most}
use Rattle.fgb_schema.specs.Shapes.{Shape, shapes_of}
use Rattle.owned_shape.specs.declared.shape.Shape.TheDeep.{deep-Shape}
use Rattle.owned_shape.specs.declared.shape.Shape.TheInside.{Inside}
use Rattle.owned_shape.specs.Owned.{owned_shape}
use Rattle.owned_shape.specs.Records.{depth, deepest}

parts_below : (parts : List Shape) → most (λ part. depth part + 1) parts ≤ deepest (shapes_of parts) + 1
parts_below [] = omega arith
parts_below (part ∷ parts) = omega (arith, parts_below parts)

pub parts_hold : (s : Inside) → deep-Shape s ≤ depth (owned_shape s)
parts_hold s = omega (arith, parts_below s.parts.items)
