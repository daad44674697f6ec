use Rattle.std.proofs.Common.{refl}
use Rattle.slice_hits.specs.Giving.{WalkStands}
use Rattle.slice_hits.proofs.Exits.{gives_found, gives_none, none_found}
use Rattle.slice_hits.proofs.hits.HitsIterator.next.Goals as goal

pub returns-in-Ok-Some-clause-steps : goal.returns-in-Ok-Some-clause-steps
returns-in-Ok-Some-clause-steps c = record {
  gives = λ image boxes entries given.
      gives_found image boxes entries (λ es. WalkStands image boxes es c.advance.new.self) c.advance.result c.in-Ok-Some.field-0 c.in-Ok-Some.found c.in-Ok-Some.is c.in-Ok-Some.field-0-is
      (c.advance.ensures.goes image boxes entries given);
  rests = λ over. absurd (none_found c.advance.result c.in-Ok-Some.field-0 c.in-Ok-Some.found c.in-Ok-Some.is c.in-Ok-Some.field-0-is (c.advance.ensures.over over));
}

pub returns-in-Ok-None-clause-steps : goal.returns-in-Ok-None-clause-steps
returns-in-Ok-None-clause-steps c = record {
  gives = λ image boxes entries given.
      (gives_none image boxes entries (λ es. WalkStands image boxes es c.advance.new.self) c.advance.result c.in-Ok-None.field-0 c.in-Ok-None.is c.in-Ok-None.field-0-is (c.advance.ensures.goes image boxes entries given), refl);
  rests = λ over. (refl, refl);
}
