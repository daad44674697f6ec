use Rattle.std.proofs.Common.{ap, subst, Some, Err, ◌∙◌}
use Rattle.fgb_outside.specs.Memory.{Served, source_of}
use Rattle.text_query.specs.Causes.{IfRefused}
use Rattle.make_command.proofs.Requests.{lent_few}
use Rattle.make_command.proofs.querying.lines_of.Goals as goal

pub count_positions-requires : goal.count_positions-requires
count_positions-requires c =
    let image = c.args.image.now in
    let told = ap (λ (f : Served). Some f.image) c.in_ok-file.ensures in
    lent_few image c.args.boxes.now (source_of c.in_ok-file.file) (source_of c.write_found.new.file) (ap (λ (f : Served). f.asked) c.in_ok-file.ensures) c.requires
    (λ index pieces file. (c.in-Ok.ensures.headline image told index pieces file).asked) (c.in-Ok.ensures.search image told) c.asked.result.now c.asked.ensures

pub unreachable-requires : goal.unreachable-requires
unreachable-requires c =
    let told = ap (λ (f : Served). Some f.image) c.in_ok-file.ensures in
    subst (λ r. IfRefused r (λ _. ⊥)) (c.in-Err-Refused.is ∙ ap Err c.in-Err-Refused.field-0-is) (c.write_found.ensures.unrefused c.args.image.now told c.requires)
