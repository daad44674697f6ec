use Rattle.flat_layout.specs.Layout.{target}
use Rattle.flat_layout.specs.Promises.{Names, BreaksTo, BreaksVector}
use Rattle.flat_views.specs.TableVecs.{ShowsTables}
use Rattle.flat_views.proofs.Placed.{at_table}
use Rattle.fgb_header.specs.Views.{base_shown, source_of}
use Rattle.fgb_where.proofs.Tables.{columns_named}
use Rattle.fgb_where.proofs.places.columns_of.Goals as goal

pub unreachable-requires : goal.unreachable-requires
unreachable-requires c =
    let b = source_of c.args.header.now in let base = base_shown c.args.header.now in
    columns_named b c.args.header.now.clean base c.in-Err.field-0
    (at_table base b (target b 0) c.root_of.result c.root_of.ensures (λ k s t. Names k (BreaksTo (BreaksVector 4) s t 7) c.in-Err.field-0) c.in-Err.ensures)

pub returns : goal.returns
returns c =
    let b = source_of c.args.header.now in let base = base_shown c.args.header.now in
    at_table base b (target b 0) c.root_of.result c.root_of.ensures (λ k s t. ShowsTables s k t 7 c.in-Ok.columns) c.in-Ok.ensures.0
