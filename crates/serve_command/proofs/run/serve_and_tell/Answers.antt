use Rattle.std.proofs.Common.{refl}
use Rattle.serve_command.proofs.Telling.{told, untold}
use Rattle.serve_command.proofs.run.serve_and_tell.Goals as goal

pub returns-in_err-write_served : goal.returns-in_err-write_served
returns-in_err-write_served g c = untold c.from_residual.result c.from_residual.ensures.1 c.in-Ok.ensures c.in_err-write_served.ensures

pub returns : goal.returns
returns g c = told _ refl c.in-Ok.ensures c.in_ok-write_served.ensures
