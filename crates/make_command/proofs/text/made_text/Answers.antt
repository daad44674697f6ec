use Rattle.std.proofs.Common.{◌≡◌, ◌∙◌, List, ℕ, Option, length, sym, ap, subst}
use Rattle.level_bounds.specs.Levels.{Shape}
use Rattle.fgb_file.specs.File.{IsFile, IsValid, header_in}
use Rattle.fgb_file.proofs.Passing.{file_sound}
use Rattle.found_features.specs.Entries.{found}
use Rattle.make_command.specs.Queries.{AreLines}
use Rattle.make_command.proofs.Telling.{made_text}
use Rattle.make_command.proofs.text.made_text.Goals as goal

pub count_found-requires : goal.count_found-requires
count_found-requires c = subst IsValid (sym c.deref.ensures.value) (file_sound c.in_ok-made.made.bytes.items c.in_ok-made.ensures.packed.sound)

pub lines_of-requires : goal.lines_of-requires
lines_of-requires c = subst IsValid (sym c.deref-2.ensures.value) (file_sound c.in_ok-made.made.bytes.items c.in_ok-made.ensures.packed.sound)

pub returns : goal.returns
returns c =
    let boxes = c.one-boxes.result in let many = c.in_ok-found.found in let lines = c.in_ok-lines.lines in
    made_text c.args.count c.args.start c.in_ok-made.made c.ten_around.result boxes many c.len.result lines _ c.one-boxes.ensures c.in_ok-made.ensures c.ten_around.ensures.around
    (subst (λ image. (index : Option Shape) (pieces : List (List ℕ)) → IsFile image index pieces → many ≡ length (found (header_in image) boxes pieces)) c.deref.ensures.value c.in_ok-found.ensures)
    (subst (λ image. AreLines image boxes lines) c.deref-2.ensures.value c.in_ok-lines.ensures)
    (c.len.ensures ∙ sym c.deref.ensures.len ∙ ap length c.deref.ensures.value) c.in_ok-push_summary.ensures
