use Rattle.std.proofs.Common.{◌++◌, decimal, Err, refl, ap, ◌∙◌}
use Rattle.std.proofs.lemmas.Result.{err_from_is_err_and}
use Rattle.serve_command.proofs.Writing.{both, front}
use Rattle.serve_command.proofs.line.write_number.Goals as goal

pub returns-in_err-write : goal.returns-in_err-write
returns-in_err-write g c =
    let p = err_from_is_err_and c.from_residual.result c.from_residual.ensures.1 in
    front (c.args.word.now ++ decimal c.args.number) c.args.word.now (decimal c.args.number) c.from_residual.result (p.1 ∙ ap Err p.2) refl c.in_err-write.ensures

pub returns : goal.returns
returns g c =
    both (c.args.word.now ++ decimal c.args.number) c.args.word.now (decimal c.args.number) c.as_bytes.result.now c.write-2.result refl
    (c.as_bytes.ensures.value ∙ c.format.ensures.text) c.in_ok-write.ensures c.write-2.ensures
