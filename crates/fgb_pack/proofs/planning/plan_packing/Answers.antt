use Rattle.std.proofs.Common.{◌+◌, ◌-◌, ◌≤◌, ℕ, List, Option, sym, ap, ◌∙◌, arith}
use Rattle.level_bounds.specs.Levels.{Shape}
use Rattle.fgb_header.specs.Views.{header_shown}
use Rattle.fgb_file.specs.File.{IsFile}
use Rattle.fgb_outside.specs.Source.{IfTold}
use Rattle.read_stop.proofs.Stopping.{refusal_map}
use Rattle.fgb_pack.specs.Plans.{IsPlan, IsWritable, Plans}
use Rattle.fgb_pack.proofs.PlansOfFiles.{plan_as_read, plan_writable, too_large_as_read}
use Rattle.fgb_pack.proofs.Stopping.{read_exit}
use Rattle.fgb_pack.proofs.Writing.{if_ok_map}
use Rattle.fgb_pack.proofs.planning.plan_packing.Goals as goal

pub returns-in_err-len-clause-unrefused : goal.returns-in_err-len-clause-unrefused
returns-in_err-len-clause-unrefused g c =
    read_exit c.from_residual.result c.in_err-len.field-0.0 _ c.from_residual.ensures.1
    (refusal_map c.in_err-len.field-0.0 _ _ (λ broken front image told index pieces file. (front image told).unreached index file.opened) c.in_err-len.ensures.refused)

pub returns-clause-plans : goal.returns-clause-plans
returns-clause-plans g c = if_ok_map c.plan_features.result (Plans (header_shown c.in_ok-header.header) c.in_ok-survey.survey c.args.node_size (c.size-end.result - c.in_ok-first.first))
    (λ plan. IfTold (g.S.RangeSource.seen c.args.source.now) (λ image. (index : Option Shape) (pieces : List (List ℕ)) → IsFile image index pieces → IsPlan image pieces c.args.node_size plan))
    (λ plan plans image told index pieces file.
    let start = c.in_ok-len.ensures.start image told in
    let told_header = c.in_ok-len.ensures.reads.keeps.image ∙ told in
    let told_features = c.in_ok-buffer.ensures.reads.keeps.image ∙ told_header in
    let header = c.in_ok-header.ensures.judged image start.0 (c.deref.ensures.value ∙ c.in_ok-buffer.ensures.bytes image told_header start.1) in
    let size = sym (c.size-end.ensures.image image told) in
    let first = c.in_ok-first.ensures.judged image index pieces file header.1 (ap (λ n. 12 + n) start.1) size in
    let surveys = c.in_ok-survey.ensures.features image told_features index pieces file header.1 first size in
    plan_as_read c.packings_are_files.ensures.long image index pieces file c.in_ok-survey.survey surveys c.args.node_size c.in_ok-first.first c.size-end.result (header_shown c.in_ok-header.header)
    header.1 first size plan c.in_ok-survey.ensures.spans plans)
    c.plan_features.ensures.plans

pub returns-clause-too_large : goal.returns-clause-too_large
returns-clause-too_large g c = λ is image told index pieces file.
    let start = c.in_ok-len.ensures.start image told in
    let told_header = c.in_ok-len.ensures.reads.keeps.image ∙ told in
    let told_features = c.in_ok-buffer.ensures.reads.keeps.image ∙ told_header in
    let header = c.in_ok-header.ensures.judged image start.0 (c.deref.ensures.value ∙ c.in_ok-buffer.ensures.bytes image told_header start.1) in
    let size = sym (c.size-end.ensures.image image told) in
    let first = c.in_ok-first.ensures.judged image index pieces file header.1 (ap (λ n. 12 + n) start.1) size in
    let surveys = c.in_ok-survey.ensures.features image told_features index pieces file header.1 first size in
    too_large_as_read c.packings_are_files.ensures.long image index pieces file c.in_ok-survey.survey surveys c.args.node_size c.in_ok-first.first c.size-end.result (header_shown c.in_ok-header.header)
    header.1 first size (c.plan_features.ensures.too_large is)

pub returns-clause-writable : goal.returns-clause-writable
returns-clause-writable g c =
    let size = (g.S.RangeSource.seen c.args.source.now).size in
    let within : c.size-end.result ≤ size = omega (arith, c.size-end.ensures.size) in
    if_ok_map c.plan_features.result (Plans (header_shown c.in_ok-header.header) c.in_ok-survey.survey c.args.node_size (c.size-end.result - c.in_ok-first.first)) (IsWritable size)
    (λ plan plans.
    plan_writable (header_shown c.in_ok-header.header) c.in_ok-survey.survey c.args.node_size (c.size-end.result - c.in_ok-first.first) c.in_ok-first.first c.size-end.result size plan
    c.in_ok-survey.ensures.each within c.in_ok-survey.ensures.spans plans)
    c.plan_features.ensures.plans
