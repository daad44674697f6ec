use Rattle.std.proofs.Common.{ap, sym, subst, ◌∙◌}
use Rattle.hex.specs.Hex.{encode_lower}
use Rattle.geometry_view.specs.Views.{geometry_shown}
use Rattle.wkb_writer.specs.Refusals.{IsRefusal}
use Rattle.text_query.specs.Texts.{hex_text, digits_text}
use Rattle.text_query.proofs.Pages.{on_ok_map}
use Rattle.text_query.proofs.Spelled.{spelled, unspelled}
use Rattle.text_query.proofs.digits.put_spelling.Goals as goal

pub returns-in-Ok : goal.returns-in-Ok
unfolding hex_text
returns-in-Ok c = on_ok_map c.put_digits.result _ _ (λ laid. laid ∙ ap encode_lower c.deref.ensures.value ∙ ap digits_text (sym (spelled _ _ c.in-Ok.ensures.written))) c.put_digits.ensures

pub returns-in-Err-Refused : goal.returns-in-Err-Refused
unfolding hex_text
returns-in-Err-Refused c =
    let shown = geometry_shown c.args.geometry.now in
    let refusal = subst (IsRefusal shown) c.in-Err-Refused.field-0-is c.in-Err-Refused.ensures.refused in
    on_ok_map c.put_none.result _ _ (λ laid. laid ∙ ap digits_text (sym (unspelled shown refusal.none))) c.put_none.ensures
