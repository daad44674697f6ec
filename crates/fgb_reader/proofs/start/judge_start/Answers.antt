use Rattle.std.proofs.Common.{◌≡◌, ◌⊎◌, inl, inr, ◌+◌, ◌-◌, ◌<◌, length, take, drop, ◌∙◌, arith}
use Rattle.flat_layout.specs.Layout.{number_at}
use Rattle.fgb_file.proofs.Starting.{refuse_magic, refuse_size, start_sound}
use Rattle.fgb_reader.proofs.Starting.{as_slice, size_number}
use Rattle.fgb_reader.proofs.start.judge_start.Goals as goal
use Rattle.fgb_reader.proofs.start.judge_start.Goals.{then-header-gt-MAX_HEADER-via-then-header-gt-MAX_HEADER, then-header-gt-MAX_HEADER-via-else-header-gt-MAX_HEADER+then-header-size}

pub returns-in-Some-clause-judged : goal.returns-in-Some-clause-judged
returns-in-Some-clause-judged c = λ image size front. let start = c.args.start.now in
    refuse_magic image start c.requires.twelve (omega arith) (as_slice image start c.requires.twelve front) (omega arith) c.in-Some.place c.in-Some.ensures

pub returns-then-header-gt-MAX_HEADER-clause-judged : goal.returns-then-header-gt-MAX_HEADER-clause-judged
unfolding number_at
returns-then-header-gt-MAX_HEADER-clause-judged c = λ image size front. let start = c.args.start.now in
    let number : c.read_u32-header.result ≡ number_at 4 (take (length start - 8) (drop 8 start)) 0 = c.read_u32-header.ensures in
    let wrong : (10485760 < c.read_u32-header.result) ⊎ (length image < 12 + c.read_u32-header.result) = elim c.then-header-gt-MAX_HEADER.branch [
      | then-header-gt-MAX_HEADER-via-then-header-gt-MAX_HEADER w ↦ inl w.if-header-gt-MAX_HEADER.true
      | then-header-gt-MAX_HEADER-via-else-header-gt-MAX_HEADER+then-header-size w ↦ inr (omega (arith, w.if-header-size.true, size))
    ] in
    refuse_size image start c.requires.twelve (omega arith) (as_slice image start c.requires.twelve front) (omega arith) c.in_default.ensures c.read_u32-header.result
    (number ∙ size_number start) wrong

pub returns-clause-judged : goal.returns-clause-judged
unfolding number_at
returns-clause-judged c = λ image size front. let start = c.args.start.now in
    let number : c.read_u32-header.result ≡ number_at 4 (take (length start - 8) (drop 8 start)) 0 = c.read_u32-header.ensures in
    start_sound image start c.requires.twelve (omega arith) (as_slice image start c.requires.twelve front) (omega arith) c.in_default.ensures c.read_u32-header.result
    (number ∙ size_number start) (omega arith) (omega arith)
