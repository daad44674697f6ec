use Rattle.std.proofs.Common.{◌≡◌, option_map, sym, subst}
use Rattle.std.specs.Prelude.{OnOk}
use Rattle.geometry_view.specs.Views.{geometry_shown}
use Rattle.text_query.specs.Texts.{hex_text}
use Rattle.text_query.proofs.digits.lay_text.Goals as goal

pub returns-in-None : goal.returns-in-None
unfolding hex_text
returns-in-None c = subst (λ seen. OnOk c.put_none.result (c.put_none.new.line.items ≡ hex_text (option_map geometry_shown seen))) (sym c.in-None.is) c.put_none.ensures
