use Rattle.std.proofs.Common.{◌∙◌, ℕ, List, Option}
use Rattle.level_bounds.specs.Levels.{Shape}
use Rattle.fgb_outside.specs.Source.{IfTold}
use Rattle.fgb_file.specs.File.{BreaksFirst, IsFile}
use Rattle.fgb_file.proofs.Valid.{valid_file}
use Rattle.read_stop.proofs.Asking.{asks_then}
use Rattle.owned_features.specs.Owned.{Owns}
use Rattle.owned_features.proofs.Whole.{if_ok_map, on_ok, refused_map}
use Rattle.owned_features.proofs.file.read_features.Goals as goal

pub returns-clause-owns : goal.returns-clause-owns
returns-clause-owns g c =
    if_ok_map c.read_file.result _ (λ file. IfTold (g.S.RangeSource.seen c.args.source.now) (λ image. (index : Option Shape) (pieces : List (List ℕ)) → IsFile image index pieces → Owns image index pieces file))
    (λ file owns image told. owns image (c.judge_file.ensures.keeps.image ∙ told)) c.read_file.ensures.owns

pub returns-clause-valid : goal.returns-clause-valid
returns-clause-valid g c = on_ok c.read_file.result _ c.in_ok-judge_file.ensures.valid

pub returns-clause-refused : goal.returns-clause-refused
returns-clause-refused g c =
    refused_map c.read_file.result _ (λ broken. IfTold (g.S.RangeSource.seen c.args.source.now) (λ image. BreaksFirst image broken))
    (λ broken unrefused image told.
    let file = valid_file image (c.in_ok-judge_file.ensures.valid image told) in
    absurd (unrefused image (c.judge_file.ensures.keeps.image ∙ told) file.0 file.1 file.2))
    c.read_file.ensures.unrefused

pub returns-in_err-judge_file-clause-declared : goal.returns-in_err-judge_file-clause-declared
returns-in_err-judge_file-clause-declared g c = c.in_err-judge_file.ensures.declared

pub returns-clause-declared : goal.returns-clause-declared
returns-clause-declared g c = λ image told.
    let file = valid_file image (c.in_ok-judge_file.ensures.valid image told) in
    asks_then (c.in_ok-judge_file.ensures.declared image told) (c.read_file.ensures.declared image (c.judge_file.ensures.keeps.image ∙ told) file.0 file.1 file.2)
