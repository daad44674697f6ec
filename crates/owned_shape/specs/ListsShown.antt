-- What the lists beside the points show.
use Rattle.std.specs.Prelude.{◌^◌, ◌<◌}
use Rattle.std.specs.List.{All}
use Rattle.fgb_schema.specs.Shapes.{Ordinates}
use Rattle.owned_shape.specs.declared.lists.Lists.{Lists}

abbrev pub lists_shown : Lists → Ordinates
lists_shown lists = record { z = lists.z.items; m = lists.m.items; t = lists.t.items; tm = lists.tm.items }

-- patterns of 64 bits
pub record AreFitting (lists : Ordinates) : Type 0 where
  pub z : All (λ x. x < 2 ^ 64) lists.z
  pub m : All (λ x. x < 2 ^ 64) lists.m
  pub t' : All (λ x. x < 2 ^ 64) lists.t
  pub tm : All (λ x. x < 2 ^ 64) lists.tm
