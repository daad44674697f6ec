use Rattle.std.proofs.Common.{◌≡◌, map}
use Rattle.std.specs.List.{All, range_with_len}
use Rattle.feature_order.specs.declared.rank.Place.{Place}
use Rattle.feature_order.specs.Places.{IsPlace}
use Rattle.feature_order.proofs.rank.places.Given as goal

abbrev pub invariant-loop-number : goal.invariant-loop-number
invariant-loop-number l = record {
  numbers : map (λ (p : Place). p.number) l.places.items ≡ range_with_len 0 l.number;
  ranks : All (IsPlace l.boxes) l.places.items;
}
