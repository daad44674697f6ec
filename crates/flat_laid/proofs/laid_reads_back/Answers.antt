use Rattle.flat_laid.proofs.Back.{root_leads, tree_lies, tree_weighs}
use Rattle.flat_laid.proofs.laid_reads_back.Goals as goal

pub returns-clause-root : goal.returns-clause-root
returns-clause-root c = root_leads

pub returns-clause-tree : goal.returns-clause-tree
returns-clause-tree c = tree_lies

pub returns-clause-weight : goal.returns-clause-weight
returns-clause-weight c = tree_weighs
