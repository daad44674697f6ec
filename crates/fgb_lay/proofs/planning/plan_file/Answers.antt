use Rattle.std.proofs.Common.{◌≡◌, ◌∙◌, ◌+◌, ◌-◌, ◌^◌, ◌<◌, min, length, refl, ap, arith}
use Rattle.std.specs.List.{concat}
use Rattle.fgb_lay.specs.Plans.{framed_all}
use Rattle.fgb_lay.proofs.PlansOfFeatures.{is_plan, no_file}
use Rattle.fgb_lay.proofs.planning.plan_file.Goals as goal

pub returns-in_err-size-clause-too_large : goal.returns-in_err-size-clause-too_large
returns-in_err-size-clause-too_large c = λ _.
    let head = c.in_ok-head.head.items in
    let buffers = c.in_ok-buffers.buffers.items in
    let sized = c.pieces_size.ensures ∙ ap (λ bs. min (length (concat (framed_all bs))) (2 ^ 64 - 1)) c.deref.ensures.value in
    let long : c.len.result ≡ length head = omega arith in
    let large : 2 ^ 48 < 12 + length head + c.pieces_size.result = omega (arith, long, c.in_err-size.ensures.1) in
    no_file c.args.header.now c.args.features.now (length c.args.features.now) refl head buffers c.in_ok-head.ensures.bytes c.in_ok-buffers.ensures.ok c.pieces_size.result sized large

pub returns-clause-planned : goal.returns-clause-planned
returns-clause-planned c =
    let head = c.in_ok-head.head.items in
    let buffers = c.in_ok-buffers.buffers.items in
    let header = c.args.header.now in
    let sized = c.pieces_size.ensures ∙ ap (λ bs. min (length (concat (framed_all bs))) (2 ^ 64 - 1)) c.deref.ensures.value in
    let long : c.len.result ≡ length head = omega arith in
    let size_is : c.in_ok-size.size ≡ 12 + length head + c.pieces_size.result = omega (arith, long, c.in_ok-size.ensures.0) in
    is_plan header c.args.features.now (length c.args.features.now) refl head buffers c.in_ok-head.ensures.bytes c.in_ok-buffers.ensures.ok c.pieces_size.result sized
    c.in_ok-size.size size_is c.in_ok-size.ensures.1 c.in_ok-head.ensures.small
    (record { head = c.in_ok-head.head; buffers = c.in_ok-buffers.buffers; size = c.in_ok-size.size }) refl refl refl
    c.in_ok-buffers.ensures.fits c.in_ok-head.ensures.clean c.in_ok-head.ensures.shown
    (c.in_ok-buffers.ensures.each header c.requires) (c.in_ok-buffers.ensures.shown header c.requires)
