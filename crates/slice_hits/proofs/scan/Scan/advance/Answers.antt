use Rattle.std.proofs.Common.{◌≤◌, length, ap, arith}
use Rattle.fgb_file.specs.File.{header_end}
use Rattle.slice_hits.specs.Scanning.{Stands}
use Rattle.slice_hits.proofs.AtFeatures.{answers_all, refused_count}
use Rattle.slice_hits.proofs.Exits.{goes_exit}
use Rattle.slice_hits.proofs.scan.Scan.advance.Goals as goal

pub returns-in_err-judge-clause-goes : goal.returns-in_err-judge-clause-goes
returns-in_err-judge-clause-goes c = λ image boxes entries before.
    let scan = c.loop-self.self in
    let stands = c.loop-self.invariant.stands image boxes entries before in
    let ends : length scan.features.bytes.now ≤ scan.at = omega (arith, c.loop-self-test.false) in
    goes_exit image boxes entries (λ es. Stands image boxes es scan) c.from_residual-in_err-judge.result c.in_err-judge.field-0.0 c.from_residual-in_err-judge.ensures.1
    (refused_count image boxes entries scan stands ends c.in_err-judge.field-0.0 (c.in_err-judge.ensures image (header_end image) stands.pieces (ap length stands.over.bytes) stands.counts))

pub returns-clause-goes : goal.returns-clause-goes
returns-clause-goes c = λ image boxes entries before.
    let scan = c.loop-self.self in
    let stands = c.loop-self.invariant.stands image boxes entries before in
    let ends : length scan.features.bytes.now ≤ scan.at = omega (arith, c.loop-self-test.false) in
    answers_all image boxes entries scan stands ends (c.in_ok-judge.ensures image (header_end image) stands.pieces (ap length stands.over.bytes) stands.counts).0
