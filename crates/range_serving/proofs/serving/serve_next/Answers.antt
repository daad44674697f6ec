use Rattle.range_serving.proofs.Turns.{served_one}
use Rattle.range_serving.proofs.serving.serve_next.Goals as goal

pub returns : goal.returns
returns g c = served_one c.args.image.now c.serve_link-outcome.result c.in_ok-link.ensures c.serve_link-outcome.ensures c.in_ok-done.ensures
