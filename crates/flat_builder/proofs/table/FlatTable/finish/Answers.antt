use Rattle.std.proofs.Common.{◌++◌, length, ap, ◌∙◌}
use Rattle.byteorder.specs.Endian.{little_bytes}
use Rattle.flat_builder.specs.Trees.{table}
use Rattle.flat_builder.specs.Laying.{laid, lay}
use Rattle.flat_builder.proofs.table.FlatTable.finish.Goals as goal

pub returns-clause-ok : goal.returns-clause-ok
unfolding laid
returns-clause-ok c =
    let fs = c.args.self.now in
    let first = c.in_ok-push_number.ensures ∙ ap (λ xs. xs ++ little_bytes 4 c.table_place.result) c.in_ok-buffer.ensures.items ∙ ap (little_bytes 4) c.table_place.ensures.value in
    c.in_ok-lay.ensures ∙ ap (λ xs. xs ++ lay (table fs) (length xs)) first
