use Rattle.std.proofs.Common.{◌∙◌, negsuc, FitsSigned, w32, ap, rules}
use Rattle.std.proofs.lemmas.Int.{to_z-of_z}
use Rattle.flat_builder.specs.Trees.{put, string}
use Rattle.header_tables.specs.Laying.{column_table, signed}
use Rattle.header_info.specs.Puts.{put_some}
use Rattle.header_info.specs.OwnedColumn.{owned_column}
use Rattle.header_info.proofs.Fields.{column_laid}
use Rattle.header_info.proofs.column.ColumnInfo.table.Goals as goal

pub returns-clause-ok : goal.returns-clause-ok
returns-clause-ok c =
    let fits_width : FitsSigned w32 c.self.inside.width = search rules in
    let fits_precision : FitsSigned w32 c.self.inside.precision = search rules in
    let fits_scale : FitsSigned w32 c.self.inside.scale = search rules in
    column_laid (owned_column c.self.inside) _ _ _ _ _ _ _ _ _ _ _ _ c.new-table.ensures
    (c.in_ok-put_string.ensures.ok ∙ ap (λ bytes. put c.new-table.result 0 (string bytes)) c.as_str.ensures.value) c.in_ok-put_u8.ensures.ok
    c.in_ok-put_text.ensures.ok c.in_ok-put_text-2.ensures.ok
    (c.in_ok-put_i32.ensures.ok ∙ ap (λ z. put_some c.put_text-2.new.table 4 (signed (negsuc 0) z)) (to_z-of_z w32 _ fits_width))
    (c.in_ok-put_i32-2.ensures.ok ∙ ap (λ z. put_some c.put_i32.new.table 5 (signed (negsuc 0) z)) (to_z-of_z w32 _ fits_precision))
    (c.in_ok-put_i32-3.ensures.ok ∙ ap (λ z. put_some c.put_i32-2.new.table 6 (signed (negsuc 0) z)) (to_z-of_z w32 _ fits_scale))
    c.in_ok-put_flag.ensures.ok c.in_ok-put_flag-2.ensures.ok c.in_ok-put_flag-3.ensures.ok c.in_ok-put_text-3.ensures.ok
    ∙ ap column_table c.self.view_is
