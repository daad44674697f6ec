use Rattle.command_words.specs.Asking.{at_most_one}
use Rattle.command_words.proofs.Finding.{files_more}
use Rattle.command_words.proofs.given.file_words.Goals as goal

pub loop-word-preserved : goal.loop-word-preserved
loop-word-preserved c =
    files_more c.args.words.now c.loop-word.word-index _ c.loop-word-test.true c.and-given.result (at_most_one c.file_in.result) c.file_in.ensures (c.and-given.ensures _ c.loop-word.invariant)
