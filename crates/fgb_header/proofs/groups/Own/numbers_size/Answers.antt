use Rattle.std.proofs.Common.{◌*◌, length, ap, sym, ◌∙◌}
use Rattle.flat_layout.proofs.Numbers.{length-longs}
use Rattle.flat_views.specs.Vectors.{longs_shown, vector_bytes, vector_place}
use Rattle.fgb_header.proofs.groups.Own.numbers_size.Goals as goal

pub returns-in-Some-clause-size : goal.returns-in-Some-clause-size
returns-in-Some-clause-size c =
    let numbers = c.in-Some.numbers in
    ap (λ n. 8 * n) (c.len.ensures ∙ sym (length-longs (vector_bytes numbers) (vector_place numbers))) ∙ sym (ap (λ o. 8 * length (longs_shown o)) c.in-Some.is)
