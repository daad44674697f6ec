use Rattle.std.proofs.Common.{◌+◌, ◌≤◌, take, arith, rules}
use Rattle.std.proofs.lemmas.List.{length-take}
use Rattle.wkb_file.proofs.Following.{some_bytes}
use Rattle.wkb_file.proofs.Reading.{near}
use Rattle.wkb_file.proofs.read.read_front.Goals as goal

pub returns-in-Ok-clause-some : goal.returns-in-Ok-clause-some
returns-in-Ok-clause-some c =
    let found = c.in-Ok.found in
    let bytes = c.args.bytes.now in
    omega (arith, some_bytes found.0 (take found.1 bytes) c.in-Ok.ensures.value, length-take found.1 bytes)

pub overflow_add-result : goal.overflow_add-result
overflow_add-result c =
    let broken = c.in-Err-Refused.broken in
    let low : c.args.at + broken.place ≤ 268435456 = near c.args.at c.args.bytes.now c.in-Err-Refused.field-0 broken c.requires c.in-Err-Refused.field-0-is c.in-Err-Refused.ensures.refused in
    search rules

pub returns-in-Err-Refused-clause-only_memory : goal.returns-in-Err-Refused-clause-only_memory
returns-in-Err-Refused-clause-only_memory c = λ g n inside is. absurd (cc (c.in-Err-Refused.ensures.only_memory g n inside is, c.in-Err-Refused.field-0-is))
