use Rattle.std.proofs.Common.{[], ◌∷◌, ◌++◌, Some, ◌∙◌, ap, sym, subst}
use Rattle.fgb_header.specs.Views.{columns_shown}
use Rattle.header_tables.specs.Records.{IsColumn}
use Rattle.std.specs.List.{AllByRecursion}
use Rattle.header_info.proofs.Lists.{all_more, take_more}
use Rattle.header_info.proofs.column.columns_of.Goals as goal

pub loop-i-preserved : goal.loop-i-preserved
loop-i-preserved c =
    let so_far = c.loop-i.columns.items in let column = c.in_ok-of.field-0 in record {
      shown =
          c.in_ok-push.ensures.items ∙ ap (λ columns. columns ++ column ∷ []) c.loop-i.invariant.shown
          ∙ sym (take_more (columns_shown c.args.view) c.loop-i.i column (c.get-column.ensures ∙ ap (λ k. Some k) (sym c.in_ok-of.ensures.ok)));
      sound = subst (AllByRecursion IsColumn) (sym c.in_ok-push.ensures.items) (all_more IsColumn so_far column c.loop-i.invariant.sound c.in_ok-of.ensures.sound);
    }
