use Rattle.std.proofs.Common.{◌≡◌, Err, ◌+◌, ◌*◌, length, sym, ap, subst, ◌∙◌, arith}
use Rattle.std.specs.Prelude.{option_map}
use Rattle.std.specs.List.{AllByRecursion}
use Rattle.level_bounds.specs.Shapes.{shape_of}
use Rattle.order_keys.specs.Boxes.{IsBox}
use Rattle.fgb_file.specs.File.{nodes_of}
use Rattle.feature_order.specs.Order.{IsOrder}
use Rattle.packed_file.specs.Packing.{in_order, leaves_from}
use Rattle.fgb_pack.proofs.Stopping.{same_error}
use Rattle.feature_pack.specs.Pieces.{HasPatterns, pieces_in}
use Rattle.feature_pack.proofs.Frames.{as_many, have_room}
use Rattle.feature_pack.proofs.Plans.{boxes_many, boxes_stored, is_plan, past_file, shown_known, shown_small, with_header, without_tree}
use Rattle.feature_pack.proofs.planning.plan_packing.Goals as goal

pub returns-in_err-head-clause-too_large : goal.returns-in_err-head-clause-too_large
returns-in_err-head-clause-too_large c = λ is.
    with_header c.args.header.now (pieces_in c.args.buffers.now) (length c.args.buffers.now) c.args.node_size (sym (as_many c.args.buffers.now))
    (c.in_err-head.ensures.too_large (ap Err (same_error c.from_residual.result c.in_err-head.field-0.0 _ c.from_residual.ensures.1 is)))

pub returns-in_err-levels-clause-too_large : goal.returns-in_err-levels-clause-too_large
returns-in_err-levels-clause-too_large c = λ _.
    let counted = sym (as_many c.args.buffers.now) in
    without_tree c.args.header.now (pieces_in c.args.buffers.now) (length c.args.buffers.now) c.args.node_size counted c.in_err-levels.ensures.none.1

pub pieces_len-requires : goal.pieces_len-requires
pieces_len-requires c = have_room c.args.header.now c.args.buffers.now c.requires.sound

pub returns-in_err-size-clause-too_large : goal.returns-in_err-size-clause-too_large
returns-in_err-size-clause-too_large c = λ _.
    let counted = sym (as_many c.args.buffers.now) in
    let long : c.len.result ≡ length c.in_ok-head.head.items = omega arith in
    past_file c.args.header.now (pieces_in c.args.buffers.now) (length c.args.buffers.now) c.args.node_size counted c.len.result c.pieces_len.result c.in_ok-head.head.items (option_map shape_of c.in_ok-levels.levels)
    c.in_ok-head.ensures.bytes long c.in_ok-levels.ensures.over c.pieces_len.ensures c.in_err-size.ensures.1

pub leaves_of-requires : goal.leaves_of-requires
leaves_of-requires c =
    let boxes = c.in_ok-boxes.boxes.items in let numbers = c.in_ok-numbers.numbers.items in
    let lent = c.deref-2.result.now in let shown = c.deref-3.result.now in
    let ordered : IsOrder lent numbers = subst (λ bs. IsOrder bs numbers) (c.deref.ensures.value ∙ sym c.deref-2.ensures.value) c.in_ok-numbers.ensures in
    record {
      each = boxes_many c.args.header.now c.args.buffers.now boxes lent numbers shown c.in_ok-boxes.ensures.boxes c.deref-2.ensures.value ordered c.deref-3.ensures.value;
      known = shown_known c.args.header.now c.args.buffers.now boxes lent numbers shown c.in_ok-boxes.ensures.boxes c.deref-2.ensures.value ordered c.deref-3.ensures.value;
      room = have_room c.args.header.now c.args.buffers.now c.requires.sound;
      small = shown_small c.args.header.now c.args.buffers.now boxes lent numbers shown c.in_ok-boxes.ensures.boxes c.deref-2.ensures.value ordered c.deref-3.ensures.value
          (12 + c.len.result + 40 * nodes_of (option_map shape_of c.in_ok-levels.levels)) c.pieces_len.result c.pieces_len.ensures (omega (arith, c.in_ok-size.ensures.0, c.in_ok-size.ensures.1));
    }

pub returns-clause-plans : goal.returns-clause-plans
returns-clause-plans c =
    let header = c.args.header.now in let pieces = pieces_in c.args.buffers.now in
    let boxes = c.in_ok-boxes.boxes.items in let numbers = c.in_ok-numbers.numbers.items in
    let counted = sym (as_many c.args.buffers.now) in
    let long : c.len.result ≡ length c.in_ok-head.head.items = omega arith in
    let boxed = c.in_ok-boxes.ensures.boxes in
    let ordered : IsOrder boxes numbers = subst (λ bs. IsOrder bs numbers) c.deref.ensures.value c.in_ok-numbers.ensures in
    let stored = boxes_stored header pieces (subst (AllByRecursion IsBox) boxed c.in_ok-boxes.ensures.sound) (subst (AllByRecursion HasPatterns) boxed c.in_ok-boxes.ensures.patterns) in
    is_plan header pieces c.args.node_size (length c.args.buffers.now) c.pieces_len.result boxes _ c.requires.wide counted c.in_ok-head.ensures.bytes c.in_ok-head.ensures.small c.in_ok-head.ensures.clean
    c.in_ok-head.ensures.shown c.in_ok-levels.ensures.over (c.in_ok-size.ensures.0 ∙ ap (λ n. 12 + n + 40 * nodes_of (option_map shape_of c.in_ok-levels.levels) + c.pieces_len.result) long) c.in_ok-size.ensures.1
    c.pieces_len.ensures c.requires.sound boxed stored ordered
    (c.in_ok-leaves.ensures header (c.deref-2.ensures.value ∙ boxed) ∙ ap (λ ks. leaves_from header 0 (in_order pieces ks)) c.deref-3.ensures.value)
