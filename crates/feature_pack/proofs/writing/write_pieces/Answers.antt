use Rattle.std.proofs.Common.{◌<◌, [], length, subst}
use Rattle.std.specs.List.{concat}
use Rattle.std.proofs.lemmas.List.{take_all}
use Rattle.fgb_pack.proofs.Orders.{at_place}
use Rattle.packed_file.specs.Packing.{in_order}
use Rattle.sink_page.specs.Pages.{Adds, AddsPart}
use Rattle.sink_page.proofs.Pages.{adds_part, adds_whole, on_ok_map}
use Rattle.laid_features.specs.Buffers.{framed}
use Rattle.feature_pack.specs.Pieces.{pieces_in}
use Rattle.feature_pack.proofs.Writes.{piece_added, piece_part}
use Rattle.feature_pack.proofs.writing.write_pieces.Goals as goal

pub loop-number-preserved : goal.loop-number-preserved
loop-number-preserved g c =
    let shown = g.W.Sink.shown in let i = c.loop-number.number-index in
    let there = at_place (λ k. k < length c.args.buffers.now) c.args.numbers.now i 0 c.requires c.loop-number-test.true in
    piece_added (shown c.args.out.now) (shown c.loop-number.out) (shown c.put_framed.new.out) c.loop-number.page c.args.buffers.now c.args.numbers.now i c.index-buffers-number.result c.loop-number-test.true
    there c.index-buffers-number.is c.loop-number.invariant c.put_framed.new.self
    (subst (λ b. Adds (shown c.loop-number.out) (shown c.put_framed.new.out) c.loop-number.page c.put_framed.new.self (framed b)) c.deref.ensures.value c.in_ok-put_framed.ensures.ok)

pub returns-in_err-put_framed-clause-part : goal.returns-in_err-put_framed-clause-part
returns-in_err-put_framed-clause-part g c =
    let shown = g.W.Sink.shown in let i = c.loop-number.number-index in
    let there = at_place (λ k. k < length c.args.buffers.now) c.args.numbers.now i 0 c.requires c.loop-number-test.true in
    piece_part (shown c.args.out.now) (shown c.loop-number.out) (shown c.put_framed.new.out) c.loop-number.page c.args.buffers.now c.args.numbers.now i c.index-buffers-number.result c.loop-number-test.true
    there c.index-buffers-number.is c.loop-number.invariant c.put_framed.new.self
    (subst (λ b. AddsPart (shown c.loop-number.out) (shown c.put_framed.new.out) c.loop-number.page c.put_framed.new.self (framed b)) c.deref.ensures.value c.in_err-put_framed.ensures.err)

pub returns-clause-whole : goal.returns-clause-whole
returns-clause-whole g c =
    let shown = g.W.Sink.shown in
    let all = subst (λ ks. Adds (shown c.args.out.now) (shown c.loop-number.out) [] c.loop-number.page (concat (in_order (pieces_in c.args.buffers.now) ks)))
    (take_all c.loop-number.number-index c.args.numbers.now c.loop-number-test.false) c.loop-number.invariant in
    on_ok_map c.write.result _ _ (adds_whole (shown c.args.out.now) (shown c.loop-number.out) c.loop-number.page _ all (shown c.write.new.out)) c.write.ensures.whole

pub returns-clause-part : goal.returns-clause-part
returns-clause-part g c =
    let shown = g.W.Sink.shown in
    let all = subst (λ ks. Adds (shown c.args.out.now) (shown c.loop-number.out) [] c.loop-number.page (concat (in_order (pieces_in c.args.buffers.now) ks)))
    (take_all c.loop-number.number-index c.args.numbers.now c.loop-number-test.false) c.loop-number.invariant in
    adds_part (shown c.args.out.now) (shown c.loop-number.out) c.loop-number.page _ all (shown c.write.new.out) c.write.ensures.part
