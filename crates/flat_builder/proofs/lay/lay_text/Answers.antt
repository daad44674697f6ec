use Rattle.std.proofs.Common.{refl}
use Rattle.std.proofs.lemmas.Result.{IfOk-equal}
use Rattle.flat_builder.proofs.Pieces.{text_laid}
use Rattle.flat_builder.proofs.lay.lay_text.Goals as goal

pub returns : goal.returns
returns c =
    IfOk-equal c.fill.result _ _ _ c.fill.ensures
    (text_laid c.args.out.now.items c.push_number.new.out.items c.extend_from_slice.new.self.items c.push.new.self.items c.args.text.now _ c.in_ok-push_number.ensures refl c.in_ok-extend_from_slice.ensures.items c.in_ok-push.ensures.items)
