use Rattle.command_words.specs.Texts.{usage_text}
use Rattle.command_words.proofs.Telling.{tells_once}
use Rattle.command_words.proofs.statuses.refuse_words.Goals as goal

pub returns-clause-tells : goal.returns-clause-tells
unfolding usage_text
returns-clause-tells g c = rw c.as_bytes.ensures.value at (tells_once _ _ _ _ c.write.ensures)
