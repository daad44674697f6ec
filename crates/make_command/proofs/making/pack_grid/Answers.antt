use Rattle.std.proofs.Common.{Some, ap, arith}
use Rattle.make_command.specs.Files.{kept}
use Rattle.make_command.proofs.Packing.{memory_alone, never_large, packed}
use Rattle.make_command.proofs.making.pack_grid.Goals as goal

pub returns-clause-packed : goal.returns-clause-packed
returns-clause-packed c =
    packed c.args.count c.args.start c.in_ok-header.header c.in_ok-features.features.items c.deref.result.now c.in_ok-header.ensures c.deref.ensures.value c.in_ok-features.ensures.grid c.in_ok-features.ensures.counted
    (kept c.args.out.now.bytes.items c.args.out.now.wants) c.pack_features.new.out.bytes.items c.pack_features.new.out.wants (ap Some c.requires.new) c.pack_features.result c.pack_features.ensures.packed

pub returns-clause-own : goal.returns-clause-own
returns-clause-own c =
    memory_alone c.pack_features.result c.pack_features.ensures.own
    (λ is. never_large c.args.count c.args.start c.in_ok-header.header c.in_ok-features.features.items c.deref.result.now c.in_ok-header.ensures c.deref.ensures.value c.in_ok-features.ensures.grid c.in_ok-features.ensures.counted
    (omega (arith, c.in_ok-features.ensures.counted, c.requires.few)) (c.pack_features.ensures.too_large is))
    c.pack_features.ensures.failed
