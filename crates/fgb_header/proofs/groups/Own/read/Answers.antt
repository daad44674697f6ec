use Rattle.flat_views.specs.Tables.{base_of, bytes_of, place_of}
use Rattle.flat_views.proofs.Shown.{longs_led}
use Rattle.fgb_header.proofs.HeaderGroups.{own_clean, type_within, size_several}
use Rattle.fgb_header.proofs.groups.Own.read.Goals as goal

pub invariant_of-result-clause-known : goal.invariant_of-result-clause-known
invariant_of-result-clause-known c = type_within (bytes_of c.args.table) (place_of c.args.table) c.args.table.sound _ c.in_ok-known_type.ensures

pub invariant_of-result-clause-several : goal.invariant_of-result-clause-several
invariant_of-result-clause-several c = size_several (bytes_of c.args.table) (place_of c.args.table) c.args.table.sound _ c.in_ok-known_node_size.ensures

pub returns : goal.returns
returns c =
    let b = bytes_of c.args.table in let t = place_of c.args.table in (
      record {
        texts = c.in_ok-read.ensures.0;
        envelope = longs_led 8 b (base_of c.args.table) t 1 _ c.in_ok-vector.ensures.0;
        kind = c.in_ok-known_type.ensures.0;
        flags = c.in_ok-read-2.ensures.0;
        counted = c.in_ok-scalar_u64.ensures.0;
        node_size = c.in_ok-known_node_size.ensures.0;
        crs = c.in_ok-crs_in.ensures.0;
      },
      own_clean b t c.in_ok-read.ensures.1 c.in_ok-vector.ensures.1 c.in_ok-known_type.ensures.1 c.in_ok-read-2.ensures.1 c.in_ok-scalar_u64.ensures.1 c.in_ok-known_node_size.ensures.1 c.in_ok-crs_in.ensures.1,
    )
