use Rattle.std.proofs.Common.{subst, arith}
use Rattle.flat_layout.specs.declared.Rule.TheVariants.{Short}
use Rattle.fgb_file.specs.File.{BreaksInFront}
use Rattle.fgb_file.proofs.Starting.{front_size, front_short}
use Rattle.fgb_reader.proofs.start.judge_size.Goals as goal

pub returns-then-size-gt-MAX_FILE-clause-judged : goal.returns-then-size-gt-MAX_FILE-clause-judged
returns-then-size-gt-MAX_FILE-clause-judged c = λ image same. front_size image (omega arith)

pub returns-then-size-clause-judged : goal.returns-then-size-clause-judged
returns-then-size-clause-judged c = λ image same. subst (λ n. BreaksInFront image (record { place = n; rule = Short })) same (front_short image (omega arith))
