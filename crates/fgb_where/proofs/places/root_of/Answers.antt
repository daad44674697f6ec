use Rattle.std.proofs.Common.{sym, subst}
use Rattle.flat_layout.specs.Promises.{IsClean}
use Rattle.fgb_schema.specs.Paths.{header_root}
use Rattle.fgb_schema.specs.Weights.{BreaksBuffer}
use Rattle.fgb_where.proofs.Tables.{root_named}
use Rattle.fgb_where.proofs.places.root_of.Goals as goal

pub unreachable-requires : goal.unreachable-requires
unreachable-requires c =
    root_named c.new.result.bytes.now (subst (λ s. IsClean (BreaksBuffer s header_root)) (sym c.new.ensures.bytes) c.source-base.ensures.clean)
    c.new.result.base c.in-Err.field-0 c.in-Err.ensures
