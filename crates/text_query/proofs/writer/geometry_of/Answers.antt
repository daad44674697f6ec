use Rattle.std.proofs.Common.{sym}
use Rattle.text_query.proofs.writer.geometry_of.Goals as goal

pub geometry_under-requires-clause-small : goal.geometry_under-requires-clause-small
geometry_under-requires-clause-small c = (c.requires c.in-Some.header c.in-Some.is).small

pub unreachable-requires : goal.unreachable-requires
unreachable-requires c =
    let named = c.in-Err.ensures.refused c.in-Some.header (sym c.geometry_type.ensures) in
    (c.requires c.in-Some.header c.in-Some.is).clean named.0 _ named.2
