use Rattle.fgb_pack.proofs.Rooms.{first_behind}
use Rattle.fgb_pack.proofs.planning.first_feature.Goals as goal

pub returns-clause-judged : goal.returns-clause-judged
returns-clause-judged c = λ image index pieces file shown behind whole.
    first_behind image index pieces c.args.place c.count_nodes.result _ file behind c.count_nodes.ensures.nodes (c.in_ok-levels.ensures.judged image file.opened.header shown behind whole)
