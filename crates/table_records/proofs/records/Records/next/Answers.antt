use Rattle.std.proofs.Common.{◌≡◌, ◌∙◌, [], ℕ, List, not, subst, if◌then◌else◌}
use Rattle.csv.specs.Records.{fields_of}
use Rattle.table_records.specs.Reading.{ReadsTable, rows_left}
use Rattle.table_records.specs.Tables.{Gives}
use Rattle.table_records.proofs.Turns.{next-gives}
use Rattle.table_records.proofs.records.Records.next.Goals as goal

pub returns-in-Ok-clause-ok : goal.returns-in-Ok-clause-ok
returns-in-Ok-clause-ok c =
    let going = c.if-self.false in
    let reads : ReadsTable c.self.inside.reader = c.self.invariant going in
    let was : rows_left c.self.inside.reader ≡ c.args.self.now = rw going at c.self.view_is in
    let row = fields_of c.read_byte_record.new.row in
    let found = c.in-Ok.found in
    subst (λ (left : List (List (List ℕ))). Gives found row left (if not found then [] else rows_left c.read_byte_record.new.self)) was
    (next-gives c.self.inside.reader c.read_byte_record.new.self found row reads.config reads.going (c.in-Ok.ensures.goes ∙ reads.going) (c.in-Ok.ensures.reads reads.trim reads.ready))
