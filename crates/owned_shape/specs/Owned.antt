-- What the fields of an owned shape show, and what they keep.
use Rattle.std.specs.Prelude.{◌≡◌, ◌%◌, length}
use Rattle.geometry_view.specs.Kinds.{number_of}
use Rattle.fgb_schema.specs.Shapes.{Shape, shape, shapes_of, pairs_of, rings_from}
use Rattle.owned_shape.specs.declared.shape.Shape.TheInside.{Inside}
use Rattle.owned_shape.specs.ListsShown.{lists_shown}
use Rattle.owned_shape.specs.Records.{IsRecord}

abbrev pub owned_shape : Inside → Shape
owned_shape s = shape (number_of s.kind) (pairs_of s.xy.items) (rings_from 0 s.ends.items) (lists_shown s.lists) (shapes_of s.parts.items)

pub record IsOwned (s : Inside) : Type 0 where
  pub shown : IsRecord (owned_shape s)
  -- x and y by turns
  pub even : length s.xy.items % 2 ≡ 0
