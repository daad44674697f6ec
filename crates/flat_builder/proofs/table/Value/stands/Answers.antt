use Rattle.flat_builder.proofs.ValueEnds.{number_leads, vector_leads, table_leads, text_leads, table_vector_leads}
use Rattle.flat_builder.proofs.table.Value.stands.Goals as goal

pub returns-in-Number : goal.returns-in-Number
returns-in-Number c = number_leads c.args.self.now c.in-Number.field-0 c.args.cursor c.in-Number.is

pub returns-in-Vector : goal.returns-in-Vector
returns-in-Vector c = vector_leads c.args.self.now c.in-Vector.vector c.args.cursor c.stands.result c.in-Vector.is c.stands.ensures.value

pub returns-in-Table : goal.returns-in-Table
returns-in-Table c = table_leads c.args.self.now c.in-Table.inner c.args.cursor c.table_place.result c.in-Table.is c.table_place.ensures.value

pub returns-in-Text : goal.returns-in-Text
returns-in-Text c = text_leads c.args.self.now _ c.args.cursor c.in-Text.is

pub returns-in-TableVector : goal.returns-in-TableVector
returns-in-TableVector c = table_vector_leads c.args.self.now _ c.args.cursor c.in-TableVector.is
