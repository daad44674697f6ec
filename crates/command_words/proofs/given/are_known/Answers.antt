use Rattle.std.proofs.Common.{sym}
use Rattle.command_words.specs.Words.{is_known, texts}
use Rattle.command_words.proofs.Finding.{all_at}
use Rattle.command_words.proofs.given.are_known.Goals as goal

pub returns-then-not-is_known : goal.returns-then-not-is_known
returns-then-not-is_known c =
    sym (all_at (is_known (texts c.args.names.now)) c.args.words.now c.loop-word.word-index _ c.loop-word-test.true (sym c.if-not-is_known.ensures))
