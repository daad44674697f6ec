use Rattle.std.proofs.Common.{◌∙◌, ◌++◌, ◌∷◌, [], ap, sym, append_assoc}
use Rattle.std.proofs.lemmas.List.{append-nil}
use Rattle.fgb_feature.specs.Views.{properties_of}
use Rattle.feature_tables.specs.Records.{IsProperty}
use Rattle.feature_info.proofs.Lists.{all_grown}
use Rattle.feature_info.proofs.prop.props_of.Goals as goal

pub loop-column-preserved : goal.loop-column-preserved
loop-column-preserved c =
    let so_far = c.loop-column.props.items in let prop = c.in_ok-of.field-0 in let rest = properties_of c.next.new.self in record {
      shown =
          ap (λ props. props ++ rest) c.in_ok-push.ensures.items ∙ append_assoc so_far (prop ∷ []) rest ∙ ap (λ p. so_far ++ p ∷ rest) c.in_ok-of.ensures.ok
          ∙ ap (λ props. so_far ++ props) (sym c.in-Some.ensures.steps) ∙ c.loop-column.invariant.shown;
      sound = all_grown IsProperty so_far c.push.new.self.items prop c.loop-column.invariant.sound c.in_ok-of.ensures.sound c.in_ok-push.ensures.items;
    }

pub returns-clause-ok : goal.returns-clause-ok
returns-clause-ok c =
    let all = c.loop-column.props.items in
    sym (append-nil all) ∙ ap (λ props. all ++ props) (sym c.in-None.ensures.steps.0) ∙ c.loop-column.invariant.shown
