use Rattle.std.proofs.Common.{◌≡◌, ◌+◌, ◌∙◌, take, refl, sym, subst, ap}
use Rattle.std.specs.List.{AllByRecursion}
use Rattle.std.proofs.lemmas.List.{take_all}
use Rattle.fgb_schema.specs.Headers.{types}
use Rattle.fgb_schema.specs.Features.{Feature, columns_holding}
use Rattle.feature_tables.specs.Records.{NamesColumn}
use Rattle.feature_info.proofs.Lists.{all_at, all_grown, take_next}
use Rattle.feature_info.proofs.feature.FeatureInfo.names_columns.Goals as goal

pub loop-prop-preserved : goal.loop-prop-preserved
loop-prop-preserved c =
    let kinds = types (columns_holding c.args.header.now c.args.self.now) in let props = c.deref-prop-items.result.now in
    let i = c.loop-prop.prop-index in let prop = c.prop-item.result in
    all_grown (NamesColumn kinds) (take i props) (take (i + 1) props) prop c.loop-prop.invariant (c.names_column.ensures.0 c.if-not-names_column.false)
    (take_next props i prop c.loop-prop-test.true c.prop-item.is)

pub returns-then-not-names_column : goal.returns-then-not-names_column
returns-then-not-names_column c =
    let kinds = types (columns_holding c.args.header.now c.args.self.now) in let props = c.deref-prop-items.result.now in
    let i = c.loop-prop.prop-index in let prop = c.prop-item.result in
    let held : props ≡ c.args.self.now.properties = c.deref-prop-items.ensures.value ∙ ap (λ (f : Feature). f.properties) c.self.view_is in (
      λ holds. absurd (cc holds),
      λ all.
          let names = c.names_column.ensures.1 (all_at (NamesColumn kinds) props i prop (subst (AllByRecursion (NamesColumn kinds)) (sym held) all) c.loop-prop-test.true c.prop-item.is) in
          absurd (cc (names, c.if-not-names_column.true)),
    )

pub returns : goal.returns
returns c =
    let kinds = types (columns_holding c.args.header.now c.args.self.now) in let props = c.deref-prop-items.result.now in
    let held : props ≡ c.args.self.now.properties = c.deref-prop-items.ensures.value ∙ ap (λ (f : Feature). f.properties) c.self.view_is in
    let all = subst (AllByRecursion (NamesColumn kinds)) (take_all c.loop-prop.prop-index props c.loop-prop-test.false) c.loop-prop.invariant in
    (λ _. subst (AllByRecursion (NamesColumn kinds)) held all, λ _. refl)
