use Rattle.std.proofs.Common.{◌+◌, ◌∙◌, ◌≡◌, ℕ, List, Option, sym, ap}
use Rattle.level_bounds.specs.Levels.{Shape}
use Rattle.fgb_header.specs.Views.{header_shown}
use Rattle.fgb_outside.specs.Source.{IfTold}
use Rattle.fgb_file.specs.File.{IsFile}
use Rattle.read_stop.proofs.Asking.{asks_then, front_only}
use Rattle.read_stop.proofs.Stopping.{stop_exit, refusal_map}
use Rattle.fgb_reader.proofs.Whole.{front_of_start, front_of_header, front_behind}
use Rattle.owned_features.specs.Owned.{Owns}
use Rattle.owned_features.proofs.Whole.{declared_behind, if_ok_map, refused_map}
use Rattle.owned_features.proofs.file.read_file.Goals as goal

pub returns-in_err-len-clause-unrefused : goal.returns-in_err-len-clause-unrefused
returns-in_err-len-clause-unrefused g c =
    stop_exit c.from_residual.result c.in_err-len.field-0.0 _ c.from_residual.ensures.1
    (refusal_map c.in_err-len.field-0.0 _ _ (λ broken front image told index pieces file. (front image told).unreached index file.opened) c.in_err-len.ensures.refused)

pub returns-in_err-len-clause-declared : goal.returns-in_err-len-clause-declared
returns-in_err-len-clause-declared g c = λ image told index pieces file. front_only (front_of_start image _ _ c.size-end.result (c.size-end.ensures.image image told) c.in_err-len.ensures.front)

pub returns-in_err-buffer-clause-declared : goal.returns-in_err-buffer-clause-declared
returns-in_err-buffer-clause-declared g c = λ image told index pieces file. let start = c.in_ok-len.ensures.start image told in
    front_only (front_of_header image c.size-end.result c.in_ok-len.len (c.size-end.ensures.image image told) start.0 start.1 c.in_ok-len.ensures.reads c.in_err-buffer.ensures.front)

pub returns-in_err-header-clause-declared : goal.returns-in_err-header-clause-declared
returns-in_err-header-clause-declared g c = λ image told index pieces file. let start = c.in_ok-len.ensures.start image told in
    front_only (front_behind image c.size-end.result c.in_ok-len.len (c.size-end.ensures.image image told) start.0 start.1 c.in_ok-len.ensures.reads c.in_ok-buffer.ensures.reads)

pub returns-in_err-first-clause-declared : goal.returns-in_err-first-clause-declared
returns-in_err-first-clause-declared g c = λ image told index pieces file. let start = c.in_ok-len.ensures.start image told in
    front_only (front_behind image c.size-end.result c.in_ok-len.len (c.size-end.ensures.image image told) start.0 start.1 c.in_ok-len.ensures.reads c.in_ok-buffer.ensures.reads)

pub returns-clause-owns : goal.returns-clause-owns
returns-clause-owns g c =
    if_ok_map c.copy_file.result _ (λ file. IfTold (g.S.RangeSource.seen c.args.source.now) (λ image. (index : Option Shape) (pieces : List (List ℕ)) → IsFile image index pieces → Owns image index pieces file))
    (λ file owns image told index pieces is.
    let start = c.in_ok-len.ensures.start image told in
    let told_header = c.in_ok-len.ensures.reads.keeps.image ∙ told in
    let told_features = c.in_ok-buffer.ensures.reads.keeps.image ∙ told_header in
    let header = c.in_ok-header.ensures.judged image start.0 (c.deref.ensures.value ∙ c.in_ok-buffer.ensures.bytes image told_header start.1) in
    let size = sym (c.size-end.ensures.image image told) in
    let first = c.in_ok-first.ensures.judged image index pieces is header.1 (ap (λ n. 12 + n) start.1) size in
    owns image told_features index pieces is header.1 first size)
    c.copy_file.ensures.owns

pub returns-clause-unrefused : goal.returns-clause-unrefused
returns-clause-unrefused g c =
    refused_map c.copy_file.result _ (λ broken. IfTold (g.S.RangeSource.seen c.args.source.now) (λ image. (index : Option Shape) (pieces : List (List ℕ)) → IsFile image index pieces → ⊥))
    (λ broken unrefused image told index pieces is.
    let start = c.in_ok-len.ensures.start image told in
    let told_header = c.in_ok-len.ensures.reads.keeps.image ∙ told in
    let told_features = c.in_ok-buffer.ensures.reads.keeps.image ∙ told_header in
    let header = c.in_ok-header.ensures.judged image start.0 (c.deref.ensures.value ∙ c.in_ok-buffer.ensures.bytes image told_header start.1) in
    let size = sym (c.size-end.ensures.image image told) in
    let first = c.in_ok-first.ensures.judged image index pieces is header.1 (ap (λ n. 12 + n) start.1) size in
    unrefused image told_features index pieces is header.1 first size)
    c.copy_file.ensures.unrefused

pub returns-clause-declared : goal.returns-clause-declared
returns-clause-declared g c = λ image told index pieces is.
    let start = c.in_ok-len.ensures.start image told in
    let told_header = c.in_ok-len.ensures.reads.keeps.image ∙ told in
    let header = c.in_ok-header.ensures.judged image start.0 (c.deref.ensures.value ∙ c.in_ok-buffer.ensures.bytes image told_header start.1) in
    let size = sym (c.size-end.ensures.image image told) in
    let first = c.in_ok-first.ensures.judged image index pieces is header.1 (ap (λ n. 12 + n) start.1) size in
    asks_then
    (front_only (front_behind image c.size-end.result c.in_ok-len.len (c.size-end.ensures.image image told) start.0 start.1 c.in_ok-len.ensures.reads c.in_ok-buffer.ensures.reads))
    (declared_behind image index c.in_ok-first.first c.size-end.result is.opened first size c.copy_file.ensures.asked)
