use Rattle.std.proofs.Common.{Some, sym, arith}
use Rattle.wkb_reader.proofs.head.pass_srid.Goals as goal

pub returns-in_ok-_srid-clause-ok : goal.returns-in_ok-_srid-clause-ok
returns-in_ok-_srid-clause-ok c = record { srid = Some c.in_ok-_srid._srid; same = sym c.if-has_srid.true; is = omega arith; passed = c.in_ok-_srid.ensures.ok }
