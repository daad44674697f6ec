-- Features and where their boxes stand.
use Rattle.std.specs.Prelude.{List, slice_index_or}
use Rattle.order_keys.specs.declared.bounds.Bounds.{Bounds}
use Rattle.order_keys.specs.Boxes.{empty}
use Rattle.feature_order.specs.declared.rank.Place.{Place}
use Rattle.feature_order.specs.Order.{IsRank, extent}

-- its rank is where the box of its number stands
abbrev pub IsPlace : List Bounds → Place → Type 0
IsPlace boxes p = IsRank (extent boxes) (slice_index_or boxes p.number empty) p.rank
