use Rattle.std.proofs.Common.{◌≡◌, ◌*◌, arith}
use Rattle.flat_layout.specs.Layout.{count}
use Rattle.flat_views.specs.Vectors.{vector_bytes, vector_place}
use Rattle.flat_views.proofs.Elements.{size_within}
use Rattle.geometry_view.proofs.lists.size_of.Goals as goal

pub overflow_mul-result : goal.overflow_mul-result
overflow_mul-result c =
    let same : c.from.result * c.len.result ≡ c.args.width * count (vector_bytes c.in-Some.vector) (vector_place c.in-Some.vector) = cc in
    omega (arith, same, size_within c.in-Some.vector c.args.width (c.requires.wide c.in-Some.vector c.in-Some.is))

pub returns-in-Some-clause-small : goal.returns-in-Some-clause-small
returns-in-Some-clause-small c =
    let same : c.from.result * c.len.result ≡ c.args.width * count (vector_bytes c.in-Some.vector) (vector_place c.in-Some.vector) = cc in
    omega (arith, same, size_within c.in-Some.vector c.args.width (c.requires.wide c.in-Some.vector c.in-Some.is))
