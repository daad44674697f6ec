use Rattle.std.proofs.Common.{arith}
use Rattle.index_reader.proofs.Stored.{stored_part}
use Rattle.slice_hits.proofs.search.Search.judge.Goals as goal

pub returns-clause-group : goal.returns-clause-group
returns-clause-group c = λ k i children parent.
    c.judge_group.ensures.group c.args.self.now.features.bytes.now c.args.end k i
    (stored_part c.args.self.now.features.bytes.now c.args.self.now.place c.args.first c.args.end (omega (arith, c.requires.order)) (omega (arith, c.requires.within, c.args.self.now.inside))) children parent
