use Rattle.std.proofs.Common.{ap}
use Rattle.fgb_schema.specs.Features.{own_box}
use Rattle.flat_builder.specs.Laying.{laid}
use Rattle.feature_tables.specs.Laying.{feature_table}
use Rattle.feature_tables.proofs.Layables.{feature_layable}
use Rattle.feature_tables.proofs.Buffers.{buffer_clean, buffer_shown}
use Rattle.feature_tables.proofs.laid_features_read_back.Goals as goal

pub returns-clause-layable : goal.returns-clause-layable
returns-clause-layable c = λ f is. feature_layable f is

pub returns-clause-clean : goal.returns-clause-clean
returns-clause-clean c = λ h f is fits room.
    let lays = feature_layable f is in
    buffer_clean (laid (feature_table f)) h f is fits (c.laid_reads_back.ensures.root (feature_table f) lays room) (c.laid_reads_back.ensures.tree (feature_table f) lays room)
    (c.laid_reads_back.ensures.weight (feature_table f) lays) room

pub returns-clause-shown : goal.returns-clause-shown
returns-clause-shown c = λ h f is fits room.
    let lays = feature_layable f is in
    buffer_shown (laid (feature_table f)) h f is fits (c.laid_reads_back.ensures.root (feature_table f) lays room) (c.laid_reads_back.ensures.tree (feature_table f) lays room)
    (c.laid_reads_back.ensures.weight (feature_table f) lays) room

pub returns-clause-boxed : goal.returns-clause-boxed
returns-clause-boxed c = λ h f is fits room.
    let lays = feature_layable f is in
    ap own_box (buffer_shown (laid (feature_table f)) h f is fits (c.laid_reads_back.ensures.root (feature_table f) lays room) (c.laid_reads_back.ensures.tree (feature_table f) lays room)
    (c.laid_reads_back.ensures.weight (feature_table f) lays) room)
