use Rattle.sink_page.proofs.Framing.{put_both, put_part, put_then_part}
use Rattle.sink_page.proofs.Pages.{on_err, on_err_map, on_ok_map}
use Rattle.sink_page.proofs.page.Page.put_framed.Goals as goal

pub returns-in_err-put-clause-err : goal.returns-in_err-put-clause-err
returns-in_err-put-clause-err g c = on_err c.from_residual.result _ (put_part _ _ _ _ _ _ _ c.to_le_bytes-size.ensures c.in_err-put.ensures.err)

pub returns-clause-ok : goal.returns-clause-ok
returns-clause-ok g c = on_ok_map c.put-2.result _ _ (λ second. put_both _ _ _ _ _ _ _ c.to_le_bytes-size.ensures _ _ c.in_ok-put.ensures.ok second) c.put-2.ensures.ok

pub returns-clause-err : goal.returns-clause-err
returns-clause-err g c = on_err_map c.put-2.result _ _ (λ part. put_then_part _ _ _ _ _ _ _ c.to_le_bytes-size.ensures _ _ c.in_ok-put.ensures.ok part) c.put-2.ensures.err
