use Rattle.std.proofs.Common.{◌≡◌, ◌++◌, length, IsTrue, ap, ◌∙◌, arith, length-append}
use Rattle.std.proofs.lemmas.List.Elements.{All-same}
use Rattle.order_keys.specs.Keys.{is_finite}
use Rattle.fgb_schema.specs.Shapes.{pairs_of, points_in}
use Rattle.owned_shape.specs.Puts.{with_points}
use Rattle.wkb_grammar.proofs.Sizes.{line_long}
use Rattle.wkb_reader.specs.Gathered.{corners, xy_of}
use Rattle.wkb_reader.specs.Heads.{order_of}
use Rattle.wkb_reader.proofs.Lists.{length-xy, xy_finite, xy_pairs}
use Rattle.wkb_reader.proofs.Rings.{length-corners}
use Rattle.wkb_reader.proofs.shapes.take_ring.Goals as goal

pub push_points-requires-clause-pairs : goal.push_points-requires-clause-pairs
push_points-requires-clause-pairs c =
    let line = c.in_ok-take_line.ensures.ok in
    let xy : c.deref.result.now ≡ xy_of line.taken = c.deref.ensures.value ∙ line.shown.xy ∙ ap (λ l. l ++ xy_of line.taken) c.clear.ensures.items in
    omega (arith, ap length xy, length-xy line.taken)

pub push_points-requires-clause-finite : goal.push_points-requires-clause-finite
push_points-requires-clause-finite c =
    let line = c.in_ok-take_line.ensures.ok in
    let xy : c.deref.result.now ≡ xy_of line.taken = c.deref.ensures.value ∙ line.shown.xy ∙ ap (λ l. l ++ xy_of line.taken) c.clear.ensures.items in
    All-same (λ x. IsTrue (is_finite x)) c.deref.result.now (xy_of line.taken) xy (xy_finite c.args.dimension line.taken line.is.0)

pub push_points-requires-clause-few_points : goal.push_points-requires-clause-few_points
push_points-requires-clause-few_points c =
    let line = c.in_ok-take_line.ensures.ok in
    let xy : c.deref.result.now ≡ xy_of line.taken = c.deref.ensures.value ∙ line.shown.xy ∙ ap (λ l. l ++ xy_of line.taken) c.clear.ensures.items in
    let pairs : pairs_of c.deref.result.now ≡ corners line.taken = ap pairs_of xy ∙ xy_pairs line.taken in
    omega (
      arith,
      ap length pairs,
      length-corners line.taken,
      line_long (order_of c.args.order) line.taken,
      line.passed.moved,
      c.take_line.new.cursor.small,
      c.requires.few_points,
      length-append (points_in c.args.shape.now) (pairs_of c.deref.result.now),
    )

pub returns-clause-ok : goal.returns-clause-ok
returns-clause-ok c =
    let line = c.in_ok-take_line.ensures.ok in
    let xy : c.deref.result.now ≡ xy_of line.taken = c.deref.ensures.value ∙ line.shown.xy ∙ ap (λ l. l ++ xy_of line.taken) c.clear.ensures.items in
    record {
      taken = line.taken;
      is = line.is;
      passed = line.passed;
      shown = record {
        line = c.in_ok-push_points.ensures.ok ∙ ap (with_points c.args.shape.now) (ap pairs_of xy ∙ xy_pairs line.taken);
        beside = record { z = line.shown.beside.z; m = line.shown.beside.m };
      };
    }
