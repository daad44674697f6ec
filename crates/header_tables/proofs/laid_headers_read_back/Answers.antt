use Rattle.header_tables.specs.Laying.{header_table}
use Rattle.header_tables.proofs.Layables.{header_layable}
use Rattle.header_tables.proofs.Buffers.{buffer_clean, buffer_shown}
use Rattle.flat_builder.specs.Laying.{laid}
use Rattle.header_tables.proofs.laid_headers_read_back.Goals as goal

pub returns-clause-clean : goal.returns-clause-clean
returns-clause-clean c = λ h is room.
    let fits = header_layable h is in
    buffer_clean (laid (header_table h)) h is (c.laid_reads_back.ensures.root (header_table h) fits room) (c.laid_reads_back.ensures.tree (header_table h) fits room)
    (c.laid_reads_back.ensures.weight (header_table h) fits)

pub returns-clause-shown : goal.returns-clause-shown
returns-clause-shown c = λ h is room.
    let fits = header_layable h is in
    buffer_shown (laid (header_table h)) h is (c.laid_reads_back.ensures.root (header_table h) fits room) (c.laid_reads_back.ensures.tree (header_table h) fits room)
