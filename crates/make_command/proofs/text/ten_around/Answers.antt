use Rattle.make_command.proofs.Around.{around_is_box}
use Rattle.make_command.proofs.text.ten_around.Goals as goal

pub returns-clause-valid : goal.returns-clause-valid
returns-clause-valid c = around_is_box _ (record { min_x = c.whole-low.ensures; min_y = c.whole-low.ensures; max_x = c.whole-high.ensures; max_y = c.whole-high.ensures })
