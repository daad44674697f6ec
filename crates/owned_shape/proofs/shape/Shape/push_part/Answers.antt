use Rattle.std.proofs.Common.{◌≡◌, ◌<◌, ◌++◌, ◌∷◌, [], ◌∙◌, List, length, IsTrue, sym, subst, ap, arith}
use Rattle.fgb_schema.specs.Shapes.{Shape, pairs_of, rings_from, shape, shapes_of, type_in}
use Rattle.geometry_view.specs.Kinds.{number_of}
use Rattle.owned_shape.specs.ListsShown.{lists_shown}
use Rattle.owned_shape.specs.Owned.{owned_shape}
use Rattle.owned_shape.specs.declared.shape.Shape.TheInside.{Inside}
use Rattle.owned_shape.specs.Puts.{takes_part, with_part}
use Rattle.owned_shape.specs.Records.{IsRecord, depth}
use Rattle.owned_shape.proofs.Fields.{parts_held}
use Rattle.owned_shape.proofs.Parts.{depth_with_part, parts_listed}
use Rattle.owned_shape.proofs.Pushed.{part_pushed}
use Rattle.owned_shape.proofs.shape.Shape.push_part.Goals as goal

-- what the fields show with these parts
put : (s : Inside) (now : Shape) → owned_shape s ≡ now → (part : Shape) (parts : List Shape) → parts ≡ s.parts.items ++ part ∷ []
    → shape (number_of s.kind) (pairs_of s.xy.items) (rings_from 0 s.ends.items) (lists_shown s.lists) (shapes_of parts) ≡ with_part now part
put s now is part parts grown =
    let made : List Shape → Shape = λ parts. shape (number_of s.kind) (pairs_of s.xy.items) (rings_from 0 s.ends.items) (lists_shown s.lists) (shapes_of parts) in
    ap made grown
    ∙ ap (λ parts. made (parts ++ part ∷ [])) (sym (parts_listed (number_of s.kind) (pairs_of s.xy.items) (rings_from 0 s.ends.items) (lists_shown s.lists) s.parts.items))
    ∙ ap (λ t. with_part t part) is

pub invariant_of-self-2 : goal.invariant_of-self-2
invariant_of-self-2 c =
    let s = c.self.inside in let part = c.args.part in
    let known = subst (λ t. IsTrue (takes_part (type_in t) (type_in part))) (sym c.self.view_is) c.requires.known in
    let few : length s.parts.items < 268435456 = omega (arith, c.requires.few, ap length (parts_held s c.args.self.now c.self.view_is)) in
    record {
      shown = subst (λ (parts : List Shape). IsRecord (shape (number_of s.kind) (pairs_of s.xy.items) (rings_from 0 s.ends.items) (lists_shown s.lists) (shapes_of parts))) (sym c.in_ok-push.ensures.items)
          (part_pushed (number_of s.kind) (pairs_of s.xy.items) (rings_from 0 s.ends.items) (lists_shown s.lists) s.parts.items part c.self.invariant.shown (subst IsRecord c.part.view_is c.part.invariant.shown) known c.requires.shallow few);
      even = c.self.invariant.even;
    }

pub returns-clause-ok : goal.returns-clause-ok
returns-clause-ok c = put c.self.inside c.args.self.now c.self.view_is c.args.part c.push.new.self.items c.in_ok-push.ensures.items

pub returns-clause-deep : goal.returns-clause-deep
returns-clause-deep c =
    ap depth (put c.self.inside c.args.self.now c.self.view_is c.args.part c.push.new.self.items c.in_ok-push.ensures.items) ∙ depth_with_part c.args.self.now c.args.part
