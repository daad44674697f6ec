use Rattle.sink_page.proofs.Pages.{on_err, on_err_map, on_ok_map}
use Rattle.fgb_lay.proofs.PuttingFiles.{features_part, features_put, head_part, head_put, mark_part, mark_put}
use Rattle.fgb_lay.proofs.writing.put_file.Goals as goal

pub returns-in_err-put-clause-err : goal.returns-in_err-put-clause-err
returns-in_err-put-clause-err g c =
    let plan = c.args.plan.now in
    on_err c.from_residual.result _ (mark_part plan (g.W.Sink.shown c.args.out.now) (g.W.Sink.shown c.put.new.out) c.args.page.now c.put.new.self c.in_err-put.ensures.err)

pub returns-in_err-put_framed-clause-err : goal.returns-in_err-put_framed-clause-err
returns-in_err-put_framed-clause-err g c =
    let plan = c.args.plan.now in let a = g.W.Sink.shown c.args.out.now in let b = g.W.Sink.shown c.put.new.out in
    let first = mark_put plan a b c.args.page.now c.put.new.self c.in_ok-put.ensures.ok in
    on_err c.from_residual-in_err-put_framed.result _
    (head_part plan a b c.args.page.now c.put.new.self first c.deref.result.now c.deref.ensures.value (g.W.Sink.shown c.put_framed.new.out) c.put_framed.new.self c.in_err-put_framed.ensures.err)

pub returns-clause-ok : goal.returns-clause-ok
returns-clause-ok g c =
    let plan = c.args.plan.now in let page = c.args.page.now in let a = g.W.Sink.shown c.args.out.now in let b = g.W.Sink.shown c.put.new.out in let d = g.W.Sink.shown c.put_framed.new.out in
    let first = mark_put plan a b page c.put.new.self c.in_ok-put.ensures.ok in
    let second = head_put plan a b page c.put.new.self first c.deref.result.now c.deref.ensures.value d c.put_framed.new.self c.in_ok-put_framed.ensures.ok in
    on_ok_map c.put_buffers.result _ _
    (λ third. features_put plan a d page c.put_framed.new.self second c.deref-2.result.now c.deref-2.ensures.value (g.W.Sink.shown c.put_buffers.new.out) c.put_buffers.new.page third)
    c.put_buffers.ensures.ok

pub returns-clause-err : goal.returns-clause-err
returns-clause-err g c =
    let plan = c.args.plan.now in let page = c.args.page.now in let a = g.W.Sink.shown c.args.out.now in let b = g.W.Sink.shown c.put.new.out in let d = g.W.Sink.shown c.put_framed.new.out in
    let first = mark_put plan a b page c.put.new.self c.in_ok-put.ensures.ok in
    let second = head_put plan a b page c.put.new.self first c.deref.result.now c.deref.ensures.value d c.put_framed.new.self c.in_ok-put_framed.ensures.ok in
    on_err_map c.put_buffers.result _ _
    (λ third. features_part plan a d page c.put_framed.new.self second c.deref-2.result.now c.deref-2.ensures.value (g.W.Sink.shown c.put_buffers.new.out) c.put_buffers.new.page third)
    c.put_buffers.ensures.err
