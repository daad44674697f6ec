use Rattle.std.proofs.Common.{◌∙◌, pos, FitsSigned, w32, ap, rules}
use Rattle.std.proofs.lemmas.Int.{to_z-of_z}
use Rattle.header_tables.specs.Laying.{crs_table, signed}
use Rattle.header_info.specs.Puts.{put_some}
use Rattle.header_info.specs.OwnedCrs.{owned_crs}
use Rattle.header_info.proofs.Fields.{crs_laid}
use Rattle.header_info.proofs.crs.CrsInfo.table.Goals as goal

pub returns-clause-ok : goal.returns-clause-ok
returns-clause-ok c =
    let fits_code : FitsSigned w32 c.self.inside.code = search rules in
    crs_laid (owned_crs c.self.inside) _ _ _ _ _ _ _ c.new-table.ensures c.in_ok-put_text.ensures.ok
    (c.in_ok-put_i32.ensures.ok ∙ ap (λ z. put_some c.put_text.new.table 1 (signed (pos 0) z)) (to_z-of_z w32 _ fits_code))
    c.in_ok-put_text-2.ensures.ok c.in_ok-put_text-3.ensures.ok c.in_ok-put_text-4.ensures.ok c.in_ok-put_text-5.ensures.ok
    ∙ ap crs_table c.self.view_is
