use Rattle.std.specs.Prelude.{option_to_list}
use Rattle.std.proofs.lemmas.Result.{on_ok_weaker}
use Rattle.wkb_writer.proofs.Appends.{row_put}
use Rattle.wkb_writer.proofs.rows.Row.put.Goals as goal

pub returns : goal.returns
returns c =
    let row = c.args.self.now in
    on_ok_weaker c.put_if-2.result (row_put row.x row.y (option_to_list row.z) (option_to_list row.m) _ _ _ _ _ c.in_ok-put_ordinate.ensures c.in_ok-put_ordinate-2.ensures c.in_ok-put_if.ensures) c.put_if-2.ensures
