use Rattle.fgb_tool.proofs.Packing.{large_by}
use Rattle.fgb_tool.proofs.pack.pack_file.Goals as goal

pub returns-in-Err-clause-too_large : goal.returns-in-Err-clause-too_large
returns-in-Err-clause-too_large g c = λ is.
    let left = c.pack.ensures in
    let large = large_by c.in-Err.error c.pack.result _ c.in-Err.is c.pack_stop.ensures is in
    (left.large_unwritten large, λ image told. (left.too_large_valid large image told, left.too_large large image told))

pub returns-in-Err-clause-large_none : goal.returns-in-Err-clause-large_none
returns-in-Err-clause-large_none g c = λ image told index pieces file large. (c.pack.ensures.too_large_none image told index pieces file large, tt)

pub returns-in-Ok-clause-done : goal.returns-in-Ok-clause-done
returns-in-Ok-clause-done g c = λ image told. (
  c.in-Ok.ensures.valid image told,
  λ index pieces file.
      let packs = c.in-Ok.ensures.packed image told index pieces file in
      record { bytes = packs.bytes; packing = packs.packing; written = packs.written },
)

pub returns-in-Ok-clause-large_none : goal.returns-in-Ok-clause-large_none
returns-in-Ok-clause-large_none g c = λ image told index pieces file large.
    (c.pack.ensures.too_large_none image told index pieces file large, c.in-Ok.ensures.fits image told index pieces file large)
