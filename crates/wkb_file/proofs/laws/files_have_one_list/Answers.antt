use Rattle.wkb_file.proofs.Following.{one_list}
use Rattle.wkb_file.proofs.laws.files_have_one_list.Goals as goal

pub returns : goal.returns
returns c = λ shapes others bytes first second. one_list shapes others bytes first.values second.values
