use Rattle.sink_page.proofs.Pages.{on_ok_map}
use Rattle.fgb_lay.proofs.Putting.{put_part, written_part, written_whole}
use Rattle.fgb_lay.proofs.writing.write_file.Goals as goal

pub returns-in_err-put_file-clause-part : goal.returns-in_err-put_file-clause-part
returns-in_err-put_file-clause-part g c =
    put_part (g.W.Sink.shown c.args.out.now) (g.W.Sink.shown c.put_file.new.out) c.new-page.result c.put_file.new.page _ c.new-page.ensures c.in_err-put_file.ensures.err

pub returns-clause-whole : goal.returns-clause-whole
returns-clause-whole g c =
    on_ok_map c.write.result _ _
    (λ last. written_whole (g.W.Sink.shown c.args.out.now) (g.W.Sink.shown c.put_file.new.out) c.new-page.result c.put_file.new.page _ c.new-page.ensures c.in_ok-put_file.ensures.ok
    (g.W.Sink.shown c.write.new.out) last)
    c.write.ensures.whole

pub returns-clause-part : goal.returns-clause-part
returns-clause-part g c =
    written_part (g.W.Sink.shown c.args.out.now) (g.W.Sink.shown c.put_file.new.out) c.new-page.result c.put_file.new.page _ c.new-page.ensures c.in_ok-put_file.ensures.ok
    (g.W.Sink.shown c.write.new.out) c.write.ensures.part
