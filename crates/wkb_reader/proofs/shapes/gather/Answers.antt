use Rattle.std.proofs.Common.{IsTrue}
use Rattle.std.proofs.lemmas.List.Elements.{All-same}
use Rattle.order_keys.specs.Keys.{is_finite}
use Rattle.wkb_reader.proofs.Lists.{pairs_finite}
use Rattle.wkb_reader.proofs.shapes.gather.Goals as goal

pub push_points-requires-clause-finite : goal.push_points-requires-clause-finite
push_points-requires-clause-finite c =
    let xy = c.args.points.now.xy.items in
    All-same (λ x. IsTrue (is_finite x)) c.deref.result.now xy c.deref.ensures.value (pairs_finite xy c.requires.pairs c.requires.level.points)
