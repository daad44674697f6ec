use Rattle.box_query.proofs.Finding.{all_found, part_found, never_refused, first_broken}
use Rattle.box_query.proofs.laws.searches_are_scans.Goals as goal

pub returns-clause-whole : goal.returns-clause-whole
returns-clause-whole c = λ image index pieces boxes entries file answers. all_found image index pieces boxes entries file answers

pub returns-clause-part : goal.returns-clause-part
returns-clause-part c = λ image index pieces boxes entries file answers. part_found image index pieces boxes entries file answers

pub returns-clause-never : goal.returns-clause-never
returns-clause-never c = λ image index pieces boxes broken entries file refuses. never_refused image index pieces boxes broken entries file refuses

pub returns-clause-first : goal.returns-clause-first
returns-clause-first c = λ image boxes broken entries unindexed refuses. first_broken image boxes broken entries unindexed refuses
