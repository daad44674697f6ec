use Rattle.std.proofs.Common.{◌∙◌, ap}
use Rattle.header_tables.specs.Laying.{columns_item, doubles, header_table}
use Rattle.header_info.specs.Puts.{put_some}
use Rattle.header_info.specs.OwnedHeader.{owned_header}
use Rattle.header_info.proofs.Fields.{header_laid}
use Rattle.header_info.proofs.info.HeaderInfo.table.Goals as goal

pub returns-clause-ok : goal.returns-clause-ok
returns-clause-ok c =
    header_laid (owned_header c.self.inside) _ _ _ _ _ _ _ _ _ _ _ _ _ _ _ c.new-table.ensures c.in_ok-put_text.ensures.ok
    (c.in_ok-put_doubles.ensures.ok ∙ ap (λ numbers. put_some c.put_text.new.table 1 (doubles numbers)) c.as_slice.ensures.value) c.in_ok-put_u8.ensures.ok
    c.in_ok-put_flag.ensures.ok c.in_ok-put_flag-2.ensures.ok c.in_ok-put_flag-3.ensures.ok c.in_ok-put_flag-4.ensures.ok
    (c.in_ok-put_columns.ensures.ok ∙ ap (λ columns. put_some c.put_flag-4.new.table 7 (columns_item columns)) c.as_slice-2.ensures.value)
    c.in_ok-put_u64.ensures.ok c.in_ok-put_u16.ensures.ok c.in_ok-put_crs.ensures.ok c.in_ok-put_text-2.ensures.ok c.in_ok-put_text-3.ensures.ok
    c.in_ok-put_text-4.ensures.ok
    ∙ ap header_table c.self.view_is
