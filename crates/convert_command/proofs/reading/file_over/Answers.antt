use Rattle.std.proofs.Common.{◌∙◌, ap, arith}
use Rattle.shape_features.specs.Features.{header_over}
use Rattle.convert_command.proofs.ReadInputs.{sound_over}
use Rattle.convert_command.proofs.reading.file_over.Goals as goal

pub returns-clause-sound : goal.returns-clause-sound
returns-clause-sound c =
    let over = c.in_ok-features.ensures in
    sound_over (record { header = c.header_over-header.result; features = c.in_ok-features.features; places = c.in_ok-places.places }) c.args.shapes.items
    (c.header_over-header.ensures ∙ ap header_over c.deref.ensures.value) over.features (omega (arith, c.in_ok-places.ensures.len)) (over.fits c.args.shapes.items)
