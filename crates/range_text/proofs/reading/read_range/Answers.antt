use Rattle.std.proofs.Common.{ap, sym, ◌∙◌}
use Rattle.range_text.specs.Ranges.{answer_to}
use Rattle.range_text.specs.Reading.{range_of}
use Rattle.range_text.proofs.Forms.{no_range, only_range, range_back}
use Rattle.range_text.proofs.reading.read_range.Goals as goal

pub returns-in-Some-clause-spelled : goal.returns-in-Some-clause-spelled
returns-in-Some-clause-spelled c = λ range spelled.
    c.answer.ensures ∙ ap (answer_to c.args.size) (only_range c.args.value.now c.in-Some.asked range c.in-Some.ensures spelled)

pub returns-in-Some-clause-other : goal.returns-in-Some-clause-other
returns-in-Some-clause-other c = λ none.
    absurd (none (range_of c.in-Some.asked) (range_back c.args.value.now c.in-Some.asked (sym c.in-Some.ensures)))

pub returns-in-None-clause-spelled : goal.returns-in-None-clause-spelled
returns-in-None-clause-spelled c = λ range spelled. absurd (no_range c.args.value.now range c.in-None.ensures spelled)
