use Rattle.std.proofs.Common.{arith}
use Rattle.feature_order.specs.declared.rank.Place.{Place}
use Rattle.feature_order.proofs.Places.{numbers_more, place_is, ranks_more}
use Rattle.feature_order.proofs.rank.places.Goals as goal

pub loop-number-preserved : goal.loop-number-preserved
loop-number-preserved c =
    let place : Place = record { rank = c.rank.result; number = c.loop-number.number } in
    let is = place_is c.args.boxes.now c.extent-around.result place c.extent-around.ensures.value (omega arith) c.rank.ensures in
    record {
      numbers = numbers_more c.loop-number.places.items c.push.new.self.items place c.in_ok-push.ensures.items c.loop-number.invariant.numbers;
      ranks = ranks_more c.args.boxes.now c.loop-number.places.items c.push.new.self.items place c.in_ok-push.ensures.items c.loop-number.invariant.ranks is;
    }
