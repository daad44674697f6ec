use Rattle.command_words.specs.Asking.{at_most_one}
use Rattle.command_words.proofs.Finding.{values_more}
use Rattle.command_words.proofs.given.values_of.Goals as goal

pub loop-word-preserved : goal.loop-word-preserved
loop-word-preserved c =
    values_more c.args.words.now c.loop-word.word-index _ c.loop-word-test.true c.args.name.now c.and-given.result (at_most_one c.value_in.result) c.value_in.ensures (c.and-given.ensures _ c.loop-word.invariant)
