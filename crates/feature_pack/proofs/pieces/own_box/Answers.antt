use Rattle.std.proofs.Common.{Some, None, sym, ap, ◌∙◌}
use Rattle.std.specs.Option.{option_map}
use Rattle.geometry_view.specs.Views.{geometry_shown}
use Rattle.feature_pack.proofs.Frames.{feature_clean, feature_room, own_box_is}
use Rattle.feature_pack.proofs.pieces.own_box.Goals as goal

pub geometry_under-requires-clause-small : goal.geometry_under-requires-clause-small
geometry_under-requires-clause-small c = feature_room c.args.header.now c.args.buffer.now c.requires

pub returns-in-Ok-Some-clause-value : goal.returns-in-Ok-Some-clause-value
returns-in-Ok-Some-clause-value c =
    c.bounds.ensures.value
    ∙ own_box_is c.args.header.now c.args.buffer.now (Some (geometry_shown c.in-Ok-Some.geometry))
    (ap (option_map geometry_shown) (sym c.in-Ok-Some.field-0-is) ∙ c.in-Ok-Some.ensures.shown c.args.header.now (sym c.geometry_type.ensures))

pub returns-in-Ok-None-clause-value : goal.returns-in-Ok-None-clause-value
returns-in-Ok-None-clause-value c =
    c.empty.ensures.value
    ∙ own_box_is c.args.header.now c.args.buffer.now None
    (ap (option_map geometry_shown) (sym c.in-Ok-None.field-0-is) ∙ c.in-Ok-None.ensures.shown c.args.header.now (sym c.geometry_type.ensures))

pub unreachable-requires : goal.unreachable-requires
unreachable-requires c =
    let broken = c.in-Err.ensures.refused c.args.header.now (sym c.geometry_type.ensures) in
    feature_clean c.args.header.now c.args.buffer.now c.requires broken.0 _ broken.2
