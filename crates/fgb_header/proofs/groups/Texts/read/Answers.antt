use Rattle.std.proofs.Common.{arith}
use Rattle.flat_views.specs.Tables.{bytes_of, place_of}
use Rattle.fgb_header.proofs.HeaderGroups.{short_text}
use Rattle.fgb_header.proofs.groups.Texts.read.Goals as goal

pub invariant_of-result : goal.invariant_of-result
invariant_of-result c =
    let b = bytes_of c.args.table in let t = place_of c.args.table in
    let name = short_text b t 0 _ c.in_ok-string.ensures.0 in
    let title = short_text b t 11 _ c.in_ok-string-2.ensures.0 in
    let description = short_text b t 12 _ c.in_ok-string-3.ensures.0 in
    let metadata = short_text b t 13 _ c.in_ok-string-4.ensures.0 in
    record { short = omega (arith, name, title, description, metadata, c.args.table.buf.small) }
