use Rattle.std.proofs.Common.{◌≡◌, length, ap, refl, ◌∙◌, arith}
use Rattle.std.specs.Prelude.{option_map}
use Rattle.level_bounds.specs.Shapes.{shape_of}
use Rattle.fgb_header.specs.Views.{header_shown}
use Rattle.fgb_pack.proofs.Orders.{known_lent}
use Rattle.fgb_pack.proofs.Rooms.{no_tree, past_limit}
use Rattle.fgb_pack.proofs.planning.plan_features.Goals as goal

pub returns-in_err-levels-clause-too_large : goal.returns-in_err-levels-clause-too_large
returns-in_err-levels-clause-too_large c = λ _.
    let counted : c.len-features.result ≡ length c.args.survey.now.boxes.items = omega arith in
    no_tree (header_shown c.args.header.now) (length c.args.survey.now.boxes.items) c.len-features.result c.args.node_size c.args.bytes
    counted c.in_err-levels.ensures.none.1

pub returns-in_err-size-clause-too_large : goal.returns-in_err-size-clause-too_large
returns-in_err-size-clause-too_large c = λ _.
    let counted : c.len-features.result ≡ length c.args.survey.now.boxes.items = omega arith in
    let long : c.len.result ≡ length c.in_ok-head.head.items = omega arith in
    past_limit (header_shown c.args.header.now) (length c.args.survey.now.boxes.items) c.len-features.result c.args.node_size c.args.bytes
    c.len.result c.in_ok-head.head.items (option_map shape_of c.in_ok-levels.levels)
    counted c.in_ok-head.ensures.bytes long c.in_ok-levels.ensures.over c.in_err-size.ensures.1

pub in_order-requires : goal.in_order-requires
in_order-requires c =
    known_lent c.args.survey.now.boxes.items c.deref.result.now c.in_ok-numbers.numbers.items c.deref-3.result.now (length c.deref-2.result.now)
    c.deref.ensures.value c.in_ok-numbers.ensures c.deref-3.ensures.value (ap length c.deref-2.ensures.value ∙ c.requires.each)

pub leaves_of-requires-clause-known : goal.leaves_of-requires-clause-known
leaves_of-requires-clause-known c =
    known_lent c.args.survey.now.boxes.items c.deref.result.now c.in_ok-numbers.numbers.items c.deref-4.result.now _
    c.deref.ensures.value c.in_ok-numbers.ensures c.deref-4.ensures.value refl
