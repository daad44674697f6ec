use Rattle.flat_layout.specs.Layout.{target}
use Rattle.flat_builder.specs.Laying.{laid}
use Rattle.shape_tables.specs.Laying.{shape_table}
use Rattle.shape_tables.proofs.Layables.{shape_layable}
use Rattle.shape_tables.proofs.Buffers.{buffer_clean, geometry_shown}
use Rattle.shape_tables.proofs.laid_geometries_read_back.Goals as goal

pub returns-clause-clean : goal.returns-clause-clean
returns-clause-clean c = λ s outer is suits room.
    let fits = shape_layable s is.sound in
    buffer_clean s outer (laid (shape_table s)) is suits (c.laid_reads_back.ensures.root (shape_table s) fits room) (c.laid_reads_back.ensures.tree (shape_table s) fits room)
    (c.laid_reads_back.ensures.weight (shape_table s) fits)

pub returns-clause-shown : goal.returns-clause-shown
returns-clause-shown c = λ s outer is suits room.
    let fits = shape_layable s is.sound in
    geometry_shown s outer (laid (shape_table s)) (target (laid (shape_table s)) 0) is suits (c.laid_reads_back.ensures.tree (shape_table s) fits room)
