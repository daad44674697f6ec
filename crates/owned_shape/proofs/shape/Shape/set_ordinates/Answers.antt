use Rattle.std.proofs.Common.{◌≡◌, ◌<◌, ◌^◌, ◌∙◌, length, IsTrue, sym, subst, ap, arith}
use Rattle.std.proofs.lemmas.List.Elements.{All-from_get_or}
use Rattle.fgb_schema.specs.Tables.{has_points}
use Rattle.fgb_schema.specs.Shapes.{Ordinates, pairs_of, points_in, rings_from, shape, shapes_of, type_in}
use Rattle.geometry_view.specs.Kinds.{number_of}
use Rattle.owned_shape.specs.ListsShown.{lists_shown}
use Rattle.owned_shape.specs.Owned.{owned_shape}
use Rattle.owned_shape.specs.Puts.{with_list}
use Rattle.owned_shape.specs.Records.{IsRecord}
use Rattle.owned_shape.proofs.Pushed.{ordinates_set}
use Rattle.owned_shape.proofs.shape.Shape.set_ordinates.Goals as goal

pub invariant_of-self : goal.invariant_of-self
invariant_of-self c =
    let s = c.self.inside in
    let which = c.args.which in let values = c.args.values.now in
    let fits = All-from_get_or (λ x. x < 2 ^ 64) values 0 (λ i _. omega (arith, c.type_inv.values i)) in
    let known = subst (λ t. IsTrue (has_points (type_in t))) (sym c.self.view_is) c.requires.known in
    let each = subst (λ t. 0 < length values → length values ≡ length (points_in t)) (sym c.self.view_is) c.requires.each in
    let put : lists_shown c.set.new.self ≡ with_list which values (lists_shown s.lists) = c.set.ensures ∙ ap (λ list. with_list which list (lists_shown s.lists)) c.in_ok-list.ensures.items in
    record {
      shown = subst (λ (lists : Ordinates). IsRecord (shape (number_of s.kind) (pairs_of s.xy.items) (rings_from 0 s.ends.items) lists (shapes_of s.parts.items))) (sym put)
          (ordinates_set (owned_shape s) which values c.self.invariant.shown known (each, fits));
      even = c.self.invariant.even;
    }
