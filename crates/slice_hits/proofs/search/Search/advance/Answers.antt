use Rattle.std.proofs.Common.{Ok, subst, arith}
use Rattle.slice_hits.specs.Answering.{PassesOn}
use Rattle.slice_hits.specs.Searching.{Stands}
use Rattle.slice_hits.proofs.Exits.{goes_exit}
use Rattle.slice_hits.proofs.Stepping.{none_of, search_answers}
use Rattle.slice_hits.proofs.search.Search.advance.Goals as goal

pub returns-in_err-found-clause-goes : goal.returns-in_err-found-clause-goes
returns-in_err-found-clause-goes c = λ image boxes entries before.
    goes_exit image boxes entries (λ es. Stands image boxes es c.step.new.self) c.from_residual.result c.in_err-found.field-0.0 c.from_residual.ensures.1
    (c.in_err-found.ensures.passes image boxes entries (c.loop-self.invariant.stands image boxes entries before))

pub returns-in-Some-2-clause-goes : goal.returns-in-Some-2-clause-goes
returns-in-Some-2-clause-goes c = λ image boxes entries before.
    subst (λ o. PassesOn image boxes entries (λ es. Stands image boxes es c.step.new.self) (Ok o)) c.in-Some-2.is (c.in_ok-found.ensures.passes image boxes entries (c.loop-self.invariant.stands image boxes entries before))

pub loop-self-preserved : goal.loop-self-preserved
loop-self-preserved c = record {
  stands = λ image boxes entries before.
      subst (λ o. PassesOn image boxes entries (λ es. Stands image boxes es c.step.new.self) (Ok o)) (none_of c.in_ok-found.field-0 c.in_default-2.not-Some)
      (c.in_ok-found.ensures.passes image boxes entries (c.loop-self.invariant.stands image boxes entries before));
  fewer = omega (arith, c.loop-self.invariant.fewer, c.in_ok-found.ensures.no_farther);
}

pub returns-clause-goes : goal.returns-clause-goes
returns-clause-goes c = λ image boxes entries before.
    search_answers image boxes entries c.loop-self.self (c.loop-self.invariant.stands image boxes entries before) (none_of c.loop-self.self.node c.in_default.not-Some)
