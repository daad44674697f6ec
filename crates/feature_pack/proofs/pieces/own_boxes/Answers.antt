use Rattle.std.proofs.Common.{[], ◌∷◌, ◌++◌, take, ap, sym, subst, ◌∙◌}
use Rattle.std.specs.List.{AllByRecursion}
use Rattle.order_keys.specs.Boxes.{IsBox}
use Rattle.fgb_file.specs.File.{box_of}
use Rattle.fgb_file.proofs.Walk.{all-append}
use Rattle.packed_file.specs.Packing.{boxes_of}
use Rattle.laid_features.specs.Buffers.{framed}
use Rattle.feature_pack.specs.Pieces.{HasPatterns, pieces_in}
use Rattle.feature_pack.proofs.Frames.{lent_feature}
use Rattle.feature_pack.proofs.Runs.{boxes_next}
use Rattle.feature_pack.proofs.pieces.own_boxes.Goals as goal

pub own_box-requires : goal.own_box-requires
own_box-requires c = lent_feature c.args.buffers.now c.loop-buffer.buffer-index c.buffer-item.result c.deref.result.now c.loop-buffer-test.true c.buffer-item.is c.deref.ensures.value c.args.header.now c.requires

pub loop-buffer-preserved : goal.loop-buffer-preserved
loop-buffer-preserved c =
    let header = c.args.header.now in let buffers = c.args.buffers.now in let i = c.loop-buffer.buffer-index in
    let own = c.own_box.result in let so_far = c.loop-buffer.invariant in let grown = c.in_ok-push.ensures.items in record {
      boxes =
          grown ∙ ap (λ boxes. boxes ++ own ∷ []) so_far.boxes
          ∙ ap (λ box. boxes_of header (pieces_in (take i buffers)) ++ box ∷ []) (c.own_box.ensures.value ∙ ap (λ b. box_of header (framed b)) c.deref.ensures.value)
          ∙ sym (boxes_next header buffers i c.buffer-item.result c.loop-buffer-test.true c.buffer-item.is);
      sound = subst (AllByRecursion IsBox) (sym grown) (all-append IsBox c.loop-buffer.boxes.items (own ∷ []) so_far.sound (c.own_box.ensures.sound, tt));
      patterns = subst (AllByRecursion HasPatterns) (sym grown) (all-append HasPatterns c.loop-buffer.boxes.items (own ∷ []) so_far.patterns (c.own_box.ensures.patterns, tt));
    }
