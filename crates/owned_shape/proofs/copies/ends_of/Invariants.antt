use Rattle.std.proofs.Common.{◌≡◌, map, take}
use Rattle.fgb_schema.specs.Shapes.{rings_in}
use Rattle.geometry_view.specs.Views.{geometry_shown}
use Rattle.owned_shape.proofs.copies.ends_of.Given as goal

abbrev pub invariant-loop-i : goal.invariant-loop-i
invariant-loop-i l = l.ends.items ≡ map (λ ring. ring.1) (take l.i (rings_in (geometry_shown l.view)))
