use Rattle.command_words.proofs.Finding.{value_read}
use Rattle.command_words.proofs.given.value_in.Goals as goal

pub returns : goal.returns
returns c = value_read c.args.word.now c.args.name.now c.strip_prefix.result c.strip_prefix.ensures.cases
