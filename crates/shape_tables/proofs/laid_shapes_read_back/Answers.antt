use Rattle.shape_tables.proofs.Layables.{shape_layable}
use Rattle.shape_tables.proofs.Buffers.{geometry_clean, geometry_weighs, geometry_shown}
use Rattle.shape_tables.proofs.PartLists.{parts_listed}
use Rattle.flat_builder.specs.Trees.{empty}
use Rattle.shape_tables.proofs.laid_shapes_read_back.Goals as goal

pub returns-clause-layable : goal.returns-clause-layable
returns-clause-layable c = λ s is. shape_layable s is.sound

pub returns-clause-clean : goal.returns-clause-clean
returns-clause-clean c = λ s outer b t is suits lies. geometry_clean s outer b t is suits lies

pub returns-clause-weighs : goal.returns-clause-weighs
returns-clause-weighs c = λ s outer b t is suits lies. geometry_weighs s outer b t is suits lies

pub returns-clause-shown : goal.returns-clause-shown
returns-clause-shown c = λ s outer b t is suits lies. geometry_shown s outer b t is suits lies

pub returns-clause-parts : goal.returns-clause-parts
returns-clause-parts c = λ parts. parts_listed parts empty
