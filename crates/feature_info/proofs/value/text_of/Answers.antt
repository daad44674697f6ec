use Rattle.std.proofs.Common.{sym, subst, arith}
use Rattle.std.proofs.lemmas.Result.{IfOk-weaker}
use Rattle.feature_tables.specs.Records.{AreBytes}
use Rattle.feature_info.proofs.Lists.{are_bytes}
use Rattle.feature_info.proofs.value.text_of.Goals as goal

pub returns-clause-sound : goal.returns-clause-sound
returns-clause-sound c =
    let text = c.args.text.now in
    let each = are_bytes text (λ i _. omega (arith, c.type_inv.text i)) in
    IfOk-weaker c.from_slice.result _ _ (λ copy is. subst AreBytes (sym is) each) c.from_slice.ensures.items
