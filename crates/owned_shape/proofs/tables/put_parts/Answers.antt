use Rattle.std.proofs.Common.{◌<◌, length, rules}
use Rattle.std.proofs.lemmas.Result.{on_ok_weaker}
use Rattle.owned_shape.proofs.LaidFields.{parts_put}
use Rattle.owned_shape.proofs.tables.put_parts.Goals as goal

pub returns-clause-ok : goal.returns-clause-ok
returns-clause-ok c =
    let some : 0 < length c.args.parts.items = search rules in
    on_ok_weaker c.put_tables.result (parts_put c.args.table.now c.put_tables.new.self c.args.parts.items some) c.put_tables.ensures.ok
