use Rattle.std.proofs.Common.{refl}
use Rattle.wkb_reader.proofs.Types.{says_by}
use Rattle.wkb_reader.proofs.head.type_of.Goals as goal

pub returns : goal.returns
returns c =
    let flags = c.flags_of-low.result.0 in
    says_by c.args.number c.flags_of-low.result.1 flags c.in_ok-kind.thousands c.args.dialect c.in_ok-kind.kind
    (record { kind = c.in_ok-kind.kind; dimension = c.either.result; has_srid = flags.srid }) c.flags_of-low.ensures c.in_ok-kind.ensures refl refl c.either.ensures
