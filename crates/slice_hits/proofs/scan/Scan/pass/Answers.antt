use Rattle.std.proofs.Common.{refl, sym}
use Rattle.slice_hits.specs.Scanning.{Stands}
use Rattle.slice_hits.proofs.AtFeatures.{passed_hit, passed_miss, refused_next, shown_next}
use Rattle.slice_hits.proofs.Exits.{passes_exit}
use Rattle.slice_hits.proofs.scan.Scan.pass.Goals as goal

pub returns-in_err-bytes-clause-passes : goal.returns-in_err-bytes-clause-passes
returns-in_err-bytes-clause-passes c = λ image boxes entries stands.
    passes_exit image boxes entries (λ es. Stands image boxes es c.args.self.now) c.from_residual.result c.in_err-bytes.field-0.0 c.from_residual.ensures.1
    (refused_next image boxes entries c.args.self.now stands c.in_err-bytes.field-0.0 c.requires (c.in_err-bytes.ensures.judged (shown_next image boxes entries c.args.self.now stands)))

pub returns-then-not-meets-clause-passes : goal.returns-then-not-meets-clause-passes
returns-then-not-meets-clause-passes c = λ image boxes entries stands.
    passed_miss image boxes entries c.args.self.now stands c.in_ok-bytes.bytes.now c.in_ok-bytes.bounds (c.in_ok-bytes.ensures.judged (shown_next image boxes entries c.args.self.now stands)) _ refl refl refl
    (λ begun pieces piece walks counts. c.add.ensures.counts image begun pieces piece walks counts) (sym c.if-not-meets.ensures)

pub returns-clause-passes : goal.returns-clause-passes
returns-clause-passes c = λ image boxes entries stands.
    passed_hit image boxes entries c.args.self.now stands c.in_ok-bytes.bytes.now c.in_ok-bytes.bounds (c.in_ok-bytes.ensures.judged (shown_next image boxes entries c.args.self.now stands)) _ refl refl refl
    (λ begun pieces piece walks counts. c.add.ensures.counts image begun pieces piece walks counts) (sym c.if-not-meets.ensures) _ _ c.seen-number.ensures refl
