use Rattle.std.proofs.Common.{◌<◌, ◌∙◌, Some, length, sym, ap, arith}
use Rattle.std.specs.Prelude.{slice_get}
use Rattle.std.proofs.lemmas.Option.{slice_get-get_or}
use Rattle.flat_layout.specs.Layout.{longs}
use Rattle.flat_layout.proofs.Numbers.{length-longs}
use Rattle.flat_views.specs.Vectors.{vector_bytes, vector_place}
use Rattle.wkb_writer.proofs.shows.GeometryViewShows.number.Goals as goal

pub at_u64-requires-clause-index : goal.at_u64-requires-clause-index
at_u64-requires-clause-index c =
    let list = c.in-Some.list in
    omega (arith, c.requires, ap length c.in-Some.ensures.0, length-longs (vector_bytes list) (vector_place list))

pub returns : goal.returns
returns c =
    let list = c.in-Some.list in
    let numbers = longs (vector_bytes list) (vector_place list) in
    let early : c.args.i < length numbers = omega (arith, c.requires, ap length c.in-Some.ensures.0) in
    ap (λ xs. slice_get xs c.args.i) (sym c.in-Some.ensures.0) ∙ slice_get-get_or numbers c.args.i 0 early ∙ ap (λ x. Some x) (sym c.at_u64.ensures)
