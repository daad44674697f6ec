use Rattle.slice_hits.proofs.Running.{given_all, given_found, given_meets, given_some}
use Rattle.slice_hits.proofs.laws.hits_are_found.Goals as goal

pub returns-clause-whole : goal.returns-clause-whole
returns-clause-whole c = λ image index pieces boxes hits items file given drains.
    given_found image boxes index pieces _ file (λ entries answers. c.searches_are_scans.ensures.whole image index pieces boxes entries file answers)
    (λ broken entries refuses. c.searches_are_scans.ensures.never image index pieces boxes broken entries file refuses) (given_all image boxes hits items given drains)

pub returns-clause-any : goal.returns-clause-any
returns-clause-any c = λ image boxes hits rest items given ran. given_some image boxes hits rest items given ran

pub returns-clause-meets : goal.returns-clause-meets
returns-clause-meets c = λ image boxes hits rest items given ran. given_meets image boxes hits rest items given ran

pub returns-clause-all : goal.returns-clause-all
returns-clause-all c = λ image boxes hits items given drains. given_all image boxes hits items given drains
