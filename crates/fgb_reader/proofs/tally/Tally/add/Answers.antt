use Rattle.std.proofs.Common.{◌+◌, ap}
use Rattle.fgb_reader.specs.declared.tally.Tally.{Tally}
use Rattle.fgb_reader.proofs.Counting.{counts_first, counts_more}
use Rattle.fgb_reader.proofs.tally.Tally.add.Goals as goal
use Rattle.fgb_reader.proofs.tally.Tally.add.Goals.{then-self, else-self}

pub returns-clause-counts : goal.returns-clause-counts
returns-clause-counts c = λ image first pieces piece walks counts. elim c.if-self.branch [
  | then-self w ↦
      counts_first image first pieces c.args.self.now counts piece _ c.args.place walks (ap (λ (t : Tally). t.surplus) w.self-is) (ap (λ (t : Tally). t.told) w.self-is) (ap (λ (t : Tally). t.seen + 1) w.self-is) w.if-self.true
  | else-self w ↦
      counts_more image first pieces c.args.self.now counts piece _ (ap (λ (t : Tally). t.surplus) w.self-is) (ap (λ (t : Tally). t.told) w.self-is) (ap (λ (t : Tally). t.seen + 1) w.self-is) w.if-self.false
]
