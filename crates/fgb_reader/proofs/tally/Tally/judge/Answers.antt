use Rattle.fgb_reader.proofs.Counting.{counts_few, counts_many, counts_untold, counts_same}
use Rattle.fgb_reader.proofs.tally.Tally.judge.Goals as goal
use Rattle.fgb_reader.proofs.tally.Tally.judge.Goals.{else-self-gt0-via-then-self-gt0+else-self-2, else-self-gt0-via-else-self-gt0}

pub returns-then-self : goal.returns-then-self
returns-then-self c = λ image first pieces whole counts. counts_few image first pieces c.args.self counts c.args.end whole c.if-self.true

pub returns-then-self-2 : goal.returns-then-self-2
returns-then-self-2 c = λ image first pieces whole counts. counts_many image first pieces c.args.self counts c.if-self-gt0.true c.if-self-2.true

pub returns : goal.returns
returns c = λ image first pieces whole counts. elim c.else-self-gt0.branch [
  | else-self-gt0-via-then-self-gt0+else-self-2 w ↦ counts_same image first pieces c.args.self counts c.if-self.false w.if-self-2.false
  | else-self-gt0-via-else-self-gt0 w ↦ counts_untold image first pieces c.args.self counts w.if-self-gt0.false
]
