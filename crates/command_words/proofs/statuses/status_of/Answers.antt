use Rattle.std.proofs.Common.{refl}
use Rattle.command_words.specs.Texts.{source_text, sink_text, memory_text, too_large_text}
use Rattle.command_words.proofs.Telling.{tells_once}
use Rattle.command_words.proofs.statuses.status_of.Goals as goal

pub returns-in-Err-SourceFailed : goal.returns-in-Err-SourceFailed
unfolding source_text
returns-in-Err-SourceFailed g c =
    let stop = c.in-Err-SourceFailed in
    rw (stop.is, rw stop.is at stop.field-0-is) (refl, rw c.as_bytes.ensures.value at (tells_once _ _ _ _ c.write.ensures))

pub returns-in-Err-SinkFailed : goal.returns-in-Err-SinkFailed
unfolding sink_text
returns-in-Err-SinkFailed g c =
    let stop = c.in-Err-SinkFailed in
    rw (stop.is, rw stop.is at stop.field-0-is) (refl, rw c.as_bytes-in-Err-SinkFailed.ensures.value at (tells_once _ _ _ _ c.write-in-Err-SinkFailed.ensures))

pub returns-in-Err-Memory : goal.returns-in-Err-Memory
unfolding memory_text
returns-in-Err-Memory g c =
    let stop = c.in-Err-Memory in
    rw (stop.is, rw stop.is at stop.field-0-is) (refl, rw c.as_bytes-in-Err-Memory.ensures.value at (tells_once _ _ _ _ c.write-in-Err-Memory.ensures))

pub returns-in-Err-TooLarge : goal.returns-in-Err-TooLarge
unfolding too_large_text
returns-in-Err-TooLarge g c =
    let stop = c.in-Err-TooLarge in
    rw (stop.is, rw stop.is at stop.field-0-is) (refl, rw c.as_bytes-in-Err-TooLarge.ensures.value at (tells_once _ _ _ _ c.write-in-Err-TooLarge.ensures))
