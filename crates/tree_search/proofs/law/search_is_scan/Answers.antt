use Rattle.tree_search.proofs.Scan.{found_is_scan}
use Rattle.tree_search.proofs.law.search_is_scan.Goals as goal

pub returns : goal.returns
returns c = λ t nodes at box shape clean. found_is_scan t nodes at box shape clean
